use Rattle.std.proofs.Common.{◌≡◌, take}
use Rattle.ether_wire.specs.Ends.{with_text}
use Rattle.ev_run.specs.RunEdges.{reports_from}
use Rattle.ev_run.proofs.print.put_reports.Given as goal

abbrev pub invariant-loop-place : goal.invariant-loop-place
invariant-loop-place g l = g.W.Out.end l.out ≡ with_text (g.W.Out.end l.initial.out)
    (reports_from 1 (take l.place l.ended))
