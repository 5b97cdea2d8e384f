use Rattle.rstp_run.proofs.Kept.{comes_kept}
use Rattle.rstp_run.proofs.Resting.{has_selected}
use Rattle.rstp_run.proofs.laws.one_root_port.Goals as goal

pub returns : goal.returns
returns c = λ settings ports s can settled p q a b at_p at_q root_a root_b.
    let kept = comes_kept can.0 settings ports s can.1 in
    kept.roots p q a b at_p at_q (rw (has_selected s kept settled p a at_p) at root_a)
    (rw (has_selected s kept settled q b at_q) at root_b)
