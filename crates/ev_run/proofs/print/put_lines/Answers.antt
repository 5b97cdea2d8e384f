use Rattle.std.proofs.Common.{get_or, refl, arith}
use Rattle.ev_run.specs.declared.print.Dropped.TheVariants.{NoRoom}
use Rattle.ev_run.specs.RunEdges.{dropped_text}
use Rattle.ev_view.proofs.Each.{written_from}
use Rattle.ev_run.proofs.print.put_lines.Goals as goal

pub loop-place-preserved : goal.loop-place-preserved
loop-place-preserved g c =
    let dropped = c.args.dropped.now in
    let place = c.loop-place.place in
    written_from (dropped_text NoRoom c.args.number) 0 dropped place place (get_or dropped place 0) 0
    (g.N.Out.end c.args.notes.now) (g.N.Out.end c.loop-place.notes) (g.N.Out.end c.put_dropped.new.notes) (omega arith)
    c.loop-place.invariant c.in_ok-put_dropped.ensures refl c.loop-place-test.true
