use Rattle.rstp_run.proofs.Settling.{events_settle}
use Rattle.rstp_run.proofs.laws.events_settle.Goals as goal

pub returns : goal.returns
returns c = events_settle
