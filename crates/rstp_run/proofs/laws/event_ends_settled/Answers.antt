use Rattle.rstp_run.proofs.Stays.{event_ends_settled}
use Rattle.rstp_run.proofs.laws.event_ends_settled.Goals as goal

pub returns : goal.returns
returns c = event_ends_settled
