use Rattle.std.proofs.Common.{◌≡◌, take}
use Rattle.ether_wire.specs.Ends.{with_text}
use Rattle.ev_run.specs.Inner.Sockets.{local_end}
use Rattle.ev_run.specs.RunEdges.{socket_text}
use Rattle.ev_view.specs.EdgeViews.{each_from}
use Rattle.ev_run.proofs.print.put_ports.Given as goal

abbrev pub invariant-loop-place : goal.invariant-loop-place
invariant-loop-place g l = g.N.Out.end l.notes ≡ with_text (g.N.Out.end l.initial.notes)
    (each_from (λ place port. socket_text l.table l.number place (local_end port)) 1 (take l.place l.ports))
