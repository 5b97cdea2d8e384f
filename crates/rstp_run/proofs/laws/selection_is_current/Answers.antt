use Rattle.rstp_run.proofs.Current.{comes_current, selection_current}
use Rattle.rstp_run.proofs.Reached.{reached}
use Rattle.rstp_run.proofs.laws.selection_is_current.Goals as goal

pub returns : goal.returns
returns c = λ s can settled.
    let kept = (reached can.0 can.1 s can.2).kept in
    selection_current s kept settled (comes_current can.2.0 can.0 can.1 s can.2.1 kept settled)
