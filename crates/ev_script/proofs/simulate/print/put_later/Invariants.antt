use Rattle.std.proofs.Common.{◌≡◌, take}
use Rattle.std.specs.List.{flat_map}
use Rattle.ether_wire.specs.Ends.{with_text}
use Rattle.ev_script.specs.Printing.{later_words}
use Rattle.ev_script.proofs.simulate.print.put_later.Given as goal

abbrev pub invariant-loop-address : goal.invariant-loop-address
invariant-loop-address g l = g.W.Out.end l.out
    ≡ with_text (g.W.Out.end l.initial.out) (flat_map later_words (take l.address-index l.addresses))
