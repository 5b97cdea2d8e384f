use Rattle.std.proofs.Common.{ap, ◌∙◌}
use Rattle.std.specs.Int.RustNames.{bit_or}
use Rattle.ether_wire.specs.Ports.{has_port, with_port}
use Rattle.ether_wire.proofs.PortLemmas.{shifted_one, has_port-with}
use Rattle.ether_wire.proofs.ports.with_port.Goals as goal

pub returns-clause-value : goal.returns-clause-value
unfolding with_port
returns-clause-value c = ap (bit_or c.args.set) (shifted_one c.args.port c.requires)

pub returns-clause-ports : goal.returns-clause-ports
returns-clause-ports c p = ap (λ s. has_port s p) (returns-clause-value c)
    ∙ has_port-with c.args.set c.args.port c.requires p
