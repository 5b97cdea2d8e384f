use Rattle.rstp_run.proofs.Within.{any_run}
use Rattle.rstp_run.proofs.laws.runs_happen.Goals as goal

pub returns : goal.returns
returns c = any_run
