use Rattle.ev_fabric.proofs.Fabrics.{runs_sound}
use Rattle.ev_fabric.proofs.laws.every_run.Goals as goal

pub returns : goal.returns
returns c = runs_sound
