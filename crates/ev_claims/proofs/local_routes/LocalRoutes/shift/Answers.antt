use Rattle.std.proofs.Common.{◌≡◌, Some, true, sym, subst}
use Rattle.mac_arena.specs.Learning.{entry_at, is_pinned}
use Rattle.ev_claims.specs.LocalRoutes.{LocalRoutes, routes_of, vni_at}
use Rattle.ev_claims.proofs.Keeping.{shift_routes}
use Rattle.ev_claims.proofs.local_routes.LocalRoutes.shift.Goals as goal

pub invariant_of-self : goal.invariant_of-self
invariant_of-self c =
    let f = c.self.inside in
    let s = c.args.station.now in
    let old = sym c.self.view_is in
    shift_routes (routes_of f.speaker f.learned f.ports.items f.vnis.items) c.pin-pinned.new.self s c.args.port
    c.self.invariant
    (subst (λ (b : LocalRoutes). is_pinned (entry_at b.learned s) ≡ true) old c.requires.pinned)
    (subst (λ (b : LocalRoutes). vni_at b.ports c.args.port ≡ Some s.vni) old c.requires.port)
    c.pin-pinned.ensures.after
