use Rattle.ev_fabric.proofs.Journeys.{station_from_port_to_port}
use Rattle.ev_fabric.proofs.station.station_from_port_to_port.Goals as goal

pub returns : goal.returns
returns c = station_from_port_to_port
