use Rattle.std.proofs.Common.{◌≡◌, ℕ, ◌+◌, ◌++◌, arith, ap, ◌∙◌}
use Rattle.ev_config.specs.declared.endpoint.PortEndpoints.{PortEndpoints}
use Rattle.ev_run.specs.Obstacles.{obstacles_at}
use Rattle.ev_view.proofs.Each.{gives_more}
use Rattle.ev_run.proofs.obstacles.add_ports.Goals as goal

pub loop-place-preserved : goal.loop-place-preserved
loop-place-preserved c =
    let gives = obstacles_at c.args.edges.now c.args.before.now c.args.links.now in
    let place = c.loop-place.place in
    let one : PortEndpoints = c.index-links-place.result in
    let old = c.loop-place.found.items in
    let next : place ≡ 0 + place = omega arith in
    let added : c.add_port.new.found.items ≡ old
    ++ gives place one = rw c.split_at.ensures.front at c.in_ok-add_port.ensures in
    gives_more gives 0 c.args.links.now place one c.args.found.now.items old c.add_port.new.found.items
    c.loop-place-test.true c.loop-place.invariant
    (added ∙ ap (λ (n : ℕ). old ++ gives n one) next
    ∙ ap (λ (d : PortEndpoints). old ++ gives (0 + place) d) c.index-links-place.is)
