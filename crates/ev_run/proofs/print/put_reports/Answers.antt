use Rattle.ev_run.specs.RunEdges.{ended_text}
use Rattle.ev_view.proofs.Each.{each_written}
use Rattle.ev_run.proofs.print.put_reports.Goals as goal

pub loop-place-preserved : goal.loop-place-preserved
loop-place-preserved g c =
    let one = c.index-ended-place.result in
    each_written ended_text c.args.ended.now c.loop-place.place one one (g.W.Out.end c.args.out.now)
    (g.W.Out.end c.loop-place.out) (g.W.Out.end c.put_ended.new.out) c.loop-place.invariant
    c.in_ok-put_ended.ensures c.index-ended-place.is c.loop-place-test.true
