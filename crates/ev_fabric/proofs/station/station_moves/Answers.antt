use Rattle.ev_fabric.proofs.StationMotion.{station_moves}
use Rattle.ev_fabric.proofs.station.station_moves.Goals as goal

pub returns : goal.returns
returns c = station_moves
