use Rattle.ev_fabric.proofs.Sends.{frames_come_out}
use Rattle.ev_fabric.proofs.laws.frames_come_out.Goals as goal

pub returns : goal.returns
returns c = frames_come_out
