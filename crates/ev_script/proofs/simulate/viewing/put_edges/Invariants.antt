use Rattle.std.proofs.Common.{◌≡◌, take}
use Rattle.ether_wire.specs.Ends.{with_text}
use Rattle.ev_view.specs.EdgeViews.{each_from, edge_line}
use Rattle.ev_script.proofs.simulate.viewing.put_edges.Given as goal

abbrev pub invariant-loop-place : goal.invariant-loop-place
invariant-loop-place g l = g.W.Out.end l.out
    ≡ with_text (g.W.Out.end l.initial.out) (each_from edge_line 1 (take l.place l.fabric.edges))
