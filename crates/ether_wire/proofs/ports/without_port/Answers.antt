use Rattle.std.proofs.Common.{ap, ◌∙◌, ◌-◌}
use Rattle.std.specs.Int.RustNames.{bit_and}
use Rattle.ether_wire.specs.Ports.{has_port, without_port}
use Rattle.ether_wire.proofs.PortLemmas.{shifted_one, has_port-without}
use Rattle.ether_wire.proofs.ports.without_port.Goals as goal

pub returns-clause-value : goal.returns-clause-value
unfolding without_port
returns-clause-value c = ap (λ n. bit_and c.args.set (18446744073709551615 - n)) (shifted_one c.args.port c.requires)

pub returns-clause-ports : goal.returns-clause-ports
returns-clause-ports c p = ap (λ s. has_port s p) (returns-clause-value c)
    ∙ has_port-without c.args.set c.args.port c.ranges.set.fits c.requires p
