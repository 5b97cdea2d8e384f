use Rattle.std.proofs.Common.{◌≡◌, suc, ◌+◌, ◌<◌, arith, length, sym, ap, subst, ◌∙◌}
use Rattle.ev_edge.specs.Edge.{Edge}
use Rattle.ev_view.specs.EdgeViews.{edge_line}
use Rattle.ev_view.proofs.Each.{each_written}
use Rattle.ev_script.proofs.Each.{at_next, some_within}
use Rattle.ev_script.proofs.simulate.viewing.put_edges.Goals.{in-Some+in_ok-put_edge, in_default}
use Rattle.ev_script.proofs.simulate.viewing.put_edges.Goals as goal

pub loop-place-preserved : goal.loop-place-preserved
loop-place-preserved g c =
    let edges = c.args.fabric.now.edges in
    let place = c.loop-place.place in
    let next : place + 1 ≡ suc place = omega arith in
    let within : place < length edges = subst (λ n. place < n) c.edges-place-end.ensures c.loop-place-test.true in
    elim c.match-edge.branch [
      | in-Some+in_ok-put_edge w ↦
          let one : Edge = w.in-Some.edge.now in
          ap (g.W.Out.end) w.out-is
          ∙ each_written edge_line edges place one one (g.W.Out.end c.args.out.now) (g.W.Out.end c.loop-place.out)
          (g.W.Out.end w.put_edge.new.out) c.loop-place.invariant w.in_ok-put_edge.ensures
          (sym (at_next edges place (place + 1) one one next (sym w.in-Some.ensures))) within
      | in_default w ↦ absurd (some_within edges place (place + 1) next within (sym w.in_default.ensures))
    ]
