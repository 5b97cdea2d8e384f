use Rattle.rstp_run.proofs.Stays.{stays_settled}
use Rattle.rstp_run.proofs.laws.stays_settled.Goals as goal

pub returns : goal.returns
returns c = stays_settled
