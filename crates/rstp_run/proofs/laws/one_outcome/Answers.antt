use Rattle.rstp_run.proofs.Within.{one_outcome}
use Rattle.rstp_run.proofs.laws.one_outcome.Goals as goal

pub returns : goal.returns
returns c = one_outcome
