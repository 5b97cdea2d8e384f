use Rattle.std.proofs.Common.{ℕ, List}
use Rattle.ev_run.specs.declared.bound.Sockets.{Sockets}
use Rattle.ev_run.specs.Inner.Sockets.{bound_at}
use Rattle.ev_run.specs.RunEdges.{sockets_text}
use Rattle.ev_view.proofs.Each.{each_written}
use Rattle.ev_run.proofs.print.put_all_sockets.Goals as goal

pub loop-place-preserved : goal.loop-place-preserved
loop-place-preserved g c =
    let text : ℕ → Sockets → List ℕ = λ number one. sockets_text c.args.table.now number (bound_at one) in
    let one = c.index-sockets-place.result in
    each_written text c.args.sockets.now c.loop-place.place one one (g.N.Out.end c.args.notes.now)
    (g.N.Out.end c.loop-place.notes) (g.N.Out.end c.put_sockets.new.notes) c.loop-place.invariant
    c.in_ok-put_sockets.ensures c.index-sockets-place.is c.loop-place-test.true
