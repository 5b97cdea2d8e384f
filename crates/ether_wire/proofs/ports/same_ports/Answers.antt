use Rattle.ether_wire.proofs.PortLemmas.{same_ports, has_port-none, are_ports}
use Rattle.ether_wire.proofs.ports.same_ports.Goals as goal

pub returns-clause-same : goal.returns-clause-same
returns-clause-same c = same_ports c.args.set c.args.other c.ranges.set.fits c.ranges.other.fits

pub returns-clause-none : goal.returns-clause-none
returns-clause-none c = has_port-none

pub returns-clause-ascend : goal.returns-clause-ascend
returns-clause-ascend c = are_ports c.args.set
