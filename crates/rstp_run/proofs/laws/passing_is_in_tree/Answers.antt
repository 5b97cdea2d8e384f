use Rattle.rstp_run.proofs.Reached.{reached}
use Rattle.rstp_run.proofs.Orderly.{passing-in_tree}
use Rattle.rstp_run.proofs.laws.passing_is_in_tree.Goals as goal

pub returns : goal.returns
returns c = λ s can p. passing-in_tree s p (reached can.0 can.1 s can.2).orderly
