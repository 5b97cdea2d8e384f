use Rattle.ev_fabric.proofs.Stations.{agreed_station}
use Rattle.ev_fabric.proofs.station.agreed_station.Goals as goal

pub returns : goal.returns
returns c = agreed_station
