use Rattle.std.proofs.Common.{◌≡◌, take}
use Rattle.ether_wire.specs.Ends.{with_text}
use Rattle.ev_script.specs.Printing.{hex_text}
use Rattle.ev_script.proofs.simulate.print.put_hex.Given as goal

abbrev pub invariant-loop-octet : goal.invariant-loop-octet
invariant-loop-octet g l = g.W.Out.end l.out
    ≡ with_text (g.W.Out.end l.initial.out) (hex_text (take l.octet-index l.octets))
