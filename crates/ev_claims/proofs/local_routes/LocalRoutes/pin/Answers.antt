use Rattle.std.proofs.Common.{◌≡◌, ◌<◌, ◌^◌, Some, None, false, sym, subst, ◌∙◌}
use Rattle.mac_arena.specs.Learning.{entry_at, is_full}
use Rattle.ev_claims.specs.LocalRoutes.{LocalRoutes, routes_of, vni_at}
use Rattle.ev_claims.proofs.Keeping.{pin_routes}
use Rattle.ev_claims.proofs.local_routes.LocalRoutes.pin.Goals as goal

pub invariant_of-self-2 : goal.invariant_of-self-2
invariant_of-self-2 c =
    let f = c.self.inside in
    let s = c.args.station.now in
    let old = sym c.self.view_is in
    pin_routes (routes_of f.speaker f.learned f.ports.items f.vnis.items) c.pin-pinned.new.self c.originate.new.self s
    c.args.port c.self.invariant
    (subst (λ (b : LocalRoutes). entry_at b.learned s ≡ None → is_full b.learned ≡ false) old c.requires.room)
    (subst (λ (b : LocalRoutes). b.speaker.counter < 2 ^ 63) old c.requires.number)
    (subst (λ (b : LocalRoutes). vni_at b.ports c.args.port ≡ Some s.vni) old c.requires.port)
    c.pin-pinned.ensures.after
    (c.in_ok-originate.ensures.ok ∙ rw c.key_of.ensures)
