use Rattle.std.proofs.Common.{◌≡◌, take}
use Rattle.ether_wire.specs.Ends.{with_text}
use Rattle.ev_view.specs.EdgeViews.{each_from}
use Rattle.ev_view.specs.LinkLines.{link_line}
use Rattle.ev_view.proofs.link_lines.put_lines.Given as goal

abbrev pub invariant-loop-place : goal.invariant-loop-place
invariant-loop-place g l = g.W.Out.end l.out ≡ with_text (g.W.Out.end l.initial.out)
    (each_from (link_line l.number) 0 (take l.place l.rows))
