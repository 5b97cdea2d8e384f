use Rattle.ev_fabric.proofs.Journeys.{from_port_to_port}
use Rattle.ev_fabric.proofs.laws.from_port_to_port.Goals as goal

pub returns : goal.returns
returns c = from_port_to_port
