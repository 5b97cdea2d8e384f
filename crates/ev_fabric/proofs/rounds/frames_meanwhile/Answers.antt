use Rattle.ev_fabric.proofs.StationMeanwhile.{frames_meanwhile}
use Rattle.ev_fabric.proofs.rounds.frames_meanwhile.Goals as goal

pub returns : goal.returns
returns c = frames_meanwhile
