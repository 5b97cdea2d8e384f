use Rattle.std.proofs.Common.{◌≡◌, take}
use Rattle.ether_wire.specs.Ends.{with_text}
use Rattle.ev_run.specs.declared.print.Dropped.TheVariants.{NoRoom}
use Rattle.ev_run.specs.RunEdges.{dropped_text}
use Rattle.ev_view.specs.EdgeViews.{each_from}
use Rattle.ev_run.proofs.print.put_lines.Given as goal

abbrev pub invariant-loop-place : goal.invariant-loop-place
invariant-loop-place g l = g.N.Out.end l.notes
    ≡ with_text (g.N.Out.end l.initial.notes) (each_from (dropped_text NoRoom l.number) 0 (take l.place l.dropped))
