use Rattle.ev_fabric.proofs.Opened.{start_sound}
use Rattle.ev_fabric.proofs.laws.starts.Goals as goal

pub returns : goal.returns
returns c = start_sound
