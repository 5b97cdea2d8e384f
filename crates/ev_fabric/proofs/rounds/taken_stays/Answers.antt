use Rattle.ev_fabric.proofs.StationTaken.{taken_stays}
use Rattle.ev_fabric.proofs.rounds.taken_stays.Goals as goal

pub returns : goal.returns
returns c = taken_stays
