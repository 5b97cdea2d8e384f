use Rattle.ev_view.specs.EdgeViews.{port_words}
use Rattle.ev_view.proofs.Each.{each_written}
use Rattle.ev_view.proofs.edge_line.put_ports.Goals as goal

pub loop-place-preserved : goal.loop-place-preserved
loop-place-preserved g c =
    let one = c.index-vnis-place.result in
    each_written port_words c.args.vnis.now c.loop-place.place one one (g.W.Out.end c.args.out.now)
    (g.W.Out.end c.loop-place.out) (g.W.Out.end c.put_port.new.out) c.loop-place.invariant
    c.in_ok-put_port.ensures c.index-vnis-place.is c.loop-place-test.true
