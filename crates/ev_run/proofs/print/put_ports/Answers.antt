use Rattle.std.proofs.Common.{ℕ, List}
use Rattle.ev_run.specs.declared.bound.Cable.{Cable}
use Rattle.ev_run.specs.Inner.Sockets.{local_end}
use Rattle.ev_run.specs.RunEdges.{socket_text}
use Rattle.ev_view.proofs.Each.{each_written}
use Rattle.ev_run.proofs.print.put_ports.Goals as goal

pub loop-place-preserved : goal.loop-place-preserved
loop-place-preserved g c =
    let text : ℕ → Cable → List ℕ = λ place port. socket_text c.args.table.now c.args.number place (local_end port) in
    let one = c.index-ports-place.result in
    each_written text c.args.ports.now c.loop-place.place one one (g.N.Out.end c.args.notes.now)
    (g.N.Out.end c.loop-place.notes) (g.N.Out.end c.put_cable.new.notes) c.loop-place.invariant
    c.in_ok-put_cable.ensures c.index-ports-place.is c.loop-place-test.true
