use Rattle.std.proofs.Common.{refl}
use Rattle.ether_wire.specs.Ports.{common_ports}
use Rattle.ether_wire.proofs.PortLemmas.{has_port-common}
use Rattle.ether_wire.proofs.ports.common_ports.Goals as goal

pub returns-clause-value : goal.returns-clause-value
unfolding common_ports
returns-clause-value c = refl

pub returns-clause-ports : goal.returns-clause-ports
unfolding common_ports
returns-clause-ports c = has_port-common c.args.set c.args.other
