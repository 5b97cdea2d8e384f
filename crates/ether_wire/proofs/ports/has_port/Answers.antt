use Rattle.std.proofs.Common.{◌-◌, ◌==◌, sym, ap, ◌∙◌}
use Rattle.std.proofs.lemmas.Nat.Bits.{shr_and_one}
use Rattle.ether_wire.proofs.PortLemmas.{has_port-bit}
use Rattle.ether_wire.proofs.ports.has_port.Goals as goal

pub returns : goal.returns
returns c = ap (λ b. b == 1) (shr_and_one c.args.set (c.args.port - 1))
    ∙ sym (has_port-bit c.args.set c.args.port c.requires.least)
