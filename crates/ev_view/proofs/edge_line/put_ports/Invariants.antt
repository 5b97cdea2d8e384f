use Rattle.std.proofs.Common.{◌≡◌, take}
use Rattle.ether_wire.specs.Ends.{with_text}
use Rattle.ev_view.specs.EdgeViews.{each_from, port_words}
use Rattle.ev_view.proofs.edge_line.put_ports.Given as goal

abbrev pub invariant-loop-place : goal.invariant-loop-place
invariant-loop-place g l = g.W.Out.end l.out
    ≡ with_text (g.W.Out.end l.initial.out) (each_from port_words 1 (take l.place l.vnis))
