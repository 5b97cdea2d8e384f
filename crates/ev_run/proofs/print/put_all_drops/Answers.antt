use Rattle.ev_run.specs.RunEdges.{drops_text}
use Rattle.ev_view.proofs.Each.{each_written}
use Rattle.ev_run.proofs.print.put_all_drops.Goals as goal

pub loop-place-preserved : goal.loop-place-preserved
loop-place-preserved g c =
    let one = c.index-ended-place.result in
    each_written drops_text c.args.ended.now c.loop-place.place one one (g.N.Out.end c.args.notes.now)
    (g.N.Out.end c.loop-place.notes) (g.N.Out.end c.put_drops.new.notes) c.loop-place.invariant
    c.in_ok-put_drops.ensures c.index-ended-place.is c.loop-place-test.true
