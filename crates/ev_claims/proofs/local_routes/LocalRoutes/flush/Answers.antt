use Rattle.std.proofs.Common.{sym, ap, ◌∙◌, arith}
use Rattle.ether_wire.specs.Ports.{ports_after}
use Rattle.ev_claims.specs.LocalRoutes.{LocalRoutes, after_removals}
use Rattle.mac_arena.specs.Laws.{unpinned_on}
use Rattle.ev_claims.specs.Leaving.{flushed_at}
use Rattle.ev_claims.proofs.Flushing.{removals_joined, flushed_same, later_ports}
use Rattle.ev_claims.proofs.local_routes.LocalRoutes.flush.Goals as goal

pub loop-port-preserved : goal.loop-port-preserved
loop-port-preserved c =
    let e = c.loop-port.self in
    let set = c.args.ports in
    let port = c.in-Some.port in
    let rest = ports_after set port in
    (rw (flushed_same e.learned c.flush_port.new.self.learned rest (λ q in'. let later = later_ports set in' in
    c.flush_port.ensures.others q (omega (arith, later)) (λ same. omega (arith, later, same)))))
    ∙ ap (λ (b : LocalRoutes). after_removals b (flushed_at e.learned rest)) c.flush_port.ensures.after
    ∙ sym (removals_joined e (unpinned_on e.learned port) (flushed_at e.learned rest))
    ∙ (rw c.in-Some.ensures.some.rest) ∙ c.loop-port.invariant
