use Rattle.rstp_run.proofs.Whole.{settled-off}
use Rattle.rstp_run.proofs.laws.settled_by_lists.Goals as goal

pub returns : goal.returns
returns c = settled-off
