use Rattle.rstp_run.proofs.Few.{events_are_short}
use Rattle.rstp_run.proofs.laws.events_are_short.Goals as goal

pub returns : goal.returns
returns c = events_are_short
