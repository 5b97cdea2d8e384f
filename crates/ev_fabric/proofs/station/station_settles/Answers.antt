use Rattle.ev_fabric.proofs.StationAlone.{station_settles}
use Rattle.ev_fabric.proofs.station.station_settles.Goals as goal

pub returns : goal.returns
returns c = station_settles
