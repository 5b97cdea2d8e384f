use Rattle.ev_fabric.proofs.Goings.{rests_run}
use Rattle.ev_fabric.proofs.later.rests_run.Goals as goal

pub returns : goal.returns
returns c = rests_run
