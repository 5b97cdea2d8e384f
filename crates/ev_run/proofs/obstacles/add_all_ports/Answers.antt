use Rattle.std.proofs.Common.{◌≡◌, ℕ, ◌+◌, ◌++◌, arith, ap, ◌∙◌}
use Rattle.arrayvec.specs.ArrayVec.{ArrayVec}
use Rattle.ev_config.specs.declared.endpoint.PortEndpoints.{PortEndpoints}
use Rattle.ev_run.specs.Obstacles.{ports_at}
use Rattle.ev_view.proofs.Each.{gives_more}
use Rattle.ev_run.proofs.obstacles.add_all_ports.Goals as goal

pub loop-place-preserved : goal.loop-place-preserved
loop-place-preserved c =
    let gives = ports_at c.args.edges.now c.args.all.now in
    let place = c.loop-place.place in
    let one : ArrayVec PortEndpoints = c.index-all-place.result in
    let old = c.loop-place.found.items in
    let next : place ≡ 0 + place = omega arith in
    let front = rw c.split_at.ensures.front at c.in_ok-add_ports.ensures in
    let added : c.add_ports.new.found.items ≡ old ++ gives place one = rw c.as_slice.ensures.value at front in
    gives_more gives 0 c.args.all.now place one c.args.found.now.items old c.add_ports.new.found.items
    c.loop-place-test.true c.loop-place.invariant
    (added ∙ ap (λ (n : ℕ). old ++ gives n one) next
    ∙ ap (λ (d : ArrayVec PortEndpoints). old ++ gives (0 + place) d) c.index-all-place.is)
