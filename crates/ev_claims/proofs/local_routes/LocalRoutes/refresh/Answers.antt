use Rattle.std.proofs.Common.{◌≡◌, Some, false, sym, subst}
use Rattle.std.specs.Prelude.{IsSome}
use Rattle.mac_arena.specs.Learning.{entry_at, is_pinned}
use Rattle.ev_claims.specs.LocalRoutes.{LocalRoutes, routes_of, vni_at}
use Rattle.ev_claims.proofs.Keeping.{refresh_routes}
use Rattle.ev_claims.proofs.local_routes.LocalRoutes.refresh.Goals as goal

pub invariant_of-self : goal.invariant_of-self
invariant_of-self c =
    let f = c.self.inside in
    let s = c.args.station.now in
    let old = sym c.self.view_is in
    refresh_routes (routes_of f.speaker f.learned f.ports.items f.vnis.items) c.learn-learnt.new.self s c.args.port
    c.args.second c.learn-learnt.result c.self.invariant
    (subst (λ (b : LocalRoutes). IsSome (entry_at b.learned s)) old c.requires.there)
    (subst (λ (b : LocalRoutes). is_pinned (entry_at b.learned s) ≡ false) old c.requires.unpinned)
    (subst (λ (b : LocalRoutes). vni_at b.ports c.args.port ≡ Some s.vni) old c.requires.port)
    c.learn-learnt.ensures.after c.learn-learnt.ensures.answer
