use Rattle.std.proofs.Common.{◌≡◌, take}
use Rattle.ether_wire.specs.Ends.{with_text}
use Rattle.ev_run.specs.Inner.Sockets.{bound_at}
use Rattle.ev_run.specs.RunEdges.{sockets_text}
use Rattle.ev_view.specs.EdgeViews.{each_from}
use Rattle.ev_run.proofs.print.put_all_sockets.Given as goal

abbrev pub invariant-loop-place : goal.invariant-loop-place
invariant-loop-place g l = g.N.Out.end l.notes ≡ with_text (g.N.Out.end l.initial.notes)
    (each_from (λ number one. sockets_text l.table number (bound_at one)) 1 (take l.place l.sockets))
