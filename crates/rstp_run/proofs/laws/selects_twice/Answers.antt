use Rattle.rstp_run.proofs.Selects.{selects-twice}
use Rattle.rstp_run.proofs.laws.selects_twice.Goals as goal

pub returns : goal.returns
returns c = selects-twice
