use Rattle.std.proofs.Common.{◌≡◌, ℕ, ◌+◌, ◌++◌, arith, ap, ◌∙◌}
use Rattle.ev_edge.specs.declared.config.EdgeConfig.{EdgeConfig}
use Rattle.ev_run.specs.Obstacles.{edge_obstacles}
use Rattle.ev_view.proofs.Each.{gives_more}
use Rattle.ev_run.proofs.obstacles.add_edges.Goals as goal

pub loop-place-preserved : goal.loop-place-preserved
loop-place-preserved c =
    let place = c.loop-place.place in
    let one : EdgeConfig = c.index-edges-place.result in
    let old = c.loop-place.found.items in
    let next : place + 1 ≡ 1 + place = omega arith in
    gives_more edge_obstacles 1 c.args.edges.now place one c.args.found.now.items old c.add_edge.new.found.items
    c.loop-place-test.true c.loop-place.invariant
    (c.in_ok-add_edge.ensures ∙ ap (λ (n : ℕ). old ++ edge_obstacles n one) next
    ∙ ap (λ (d : EdgeConfig). old ++ edge_obstacles (1 + place) d) c.index-edges-place.is)
