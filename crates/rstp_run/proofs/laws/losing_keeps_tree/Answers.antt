use Rattle.std.proofs.Common.{◌∷◌}
use Rattle.rstp_run.proofs.Current.{comes_current}
use Rattle.rstp_run.proofs.Down.{loses_port}
use Rattle.rstp_run.proofs.Reached.{reached}
use Rattle.rstp_run.specs.declared.event.Event.TheVariants as events
use Rattle.rstp_run.proofs.laws.losing_keeps_tree.Goals as goal

pub returns : goal.returns
returns c = λ s t can settled rests loses.
    let known = reached can.0 can.1 s can.2 in
    let history = events.PortDown loses.0 ∷ can.2.0 in
    let later = reached can.0 can.1 t (history, (s, loses.1, loses.2, loses.3, can.2.1, loses.6)) in
    loses_port s t known later settled rests (comes_current can.2.0 can.0 can.1 s can.2.1 known.kept settled) loses
