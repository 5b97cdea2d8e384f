use Rattle.std.proofs.Common.{◌≡◌, ◌<◌, ◌^◌, Some, None, false, sym, subst, ◌∙◌}
use Rattle.mac_arena.specs.Learning.{entry_at, is_full}
use Rattle.ev_claims.specs.LocalRoutes.{LocalRoutes, routes_of, vni_at}
use Rattle.ev_claims.proofs.Keeping.{advert_routes}
use Rattle.ev_claims.proofs.local_routes.LocalRoutes.advertise.Goals as goal

pub invariant_of-self-2 : goal.invariant_of-self-2
invariant_of-self-2 c =
    let f = c.self.inside in
    let s = c.args.station.now in
    let old = sym c.self.view_is in
    advert_routes (routes_of f.speaker f.learned f.ports.items f.vnis.items) c.learn-learnt.new.self
    c.originate.new.self s c.args.port c.args.second c.args.sequence
    c.learn-learnt.result c.self.invariant
    (subst (λ (b : LocalRoutes). entry_at b.learned s ≡ None) old c.requires.new)
    (subst (λ (b : LocalRoutes). is_full b.learned ≡ false) old c.requires.room)
    (subst (λ (b : LocalRoutes). b.speaker.counter < 2 ^ 63) old c.requires.number)
    (subst (λ (b : LocalRoutes). vni_at b.ports c.args.port ≡ Some s.vni) old c.requires.port)
    c.learn-learnt.ensures.after c.learn-learnt.ensures.answer
    (c.in_ok-originate.ensures.ok ∙ rw c.key_of.ensures)
