use Rattle.rstp_run.proofs.Stays.{every_event_settles}
use Rattle.rstp_run.proofs.laws.every_event_settles.Goals as goal

pub returns : goal.returns
returns c = every_event_settles
