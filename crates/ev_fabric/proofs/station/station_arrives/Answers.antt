use Rattle.ev_fabric.proofs.StationRounds.{station_arrives}
use Rattle.ev_fabric.proofs.station.station_arrives.Goals as goal

pub returns : goal.returns
returns c = station_arrives
