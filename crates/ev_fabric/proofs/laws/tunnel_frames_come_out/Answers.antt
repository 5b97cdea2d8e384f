use Rattle.ev_fabric.proofs.Sends.{tunnel_frames_come_out}
use Rattle.ev_fabric.proofs.laws.tunnel_frames_come_out.Goals as goal

pub returns : goal.returns
returns c = tunnel_frames_come_out
