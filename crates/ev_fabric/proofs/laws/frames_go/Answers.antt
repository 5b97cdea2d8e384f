use Rattle.ev_fabric.proofs.Sends.{frames_go}
use Rattle.ev_fabric.proofs.laws.frames_go.Goals as goal

pub returns : goal.returns
returns c = frames_go
