use Rattle.std.proofs.Common.{sym, subst, ap, ◌∙◌}
use Rattle.std.specs.Prelude.{IsSome}
use Rattle.route_wire.specs.declared.update.Content.TheVariants.{Withdrawn}
use Rattle.mac_arena.specs.Learning.{entry_at}
use Rattle.ev_claims.specs.Speaker.{after_originating}
use Rattle.ev_claims.specs.LocalRoutes.{LocalRoutes, routes_of, KeepsRoutes}
use Rattle.ev_claims.proofs.Learnt.{some}
use Rattle.ev_claims.proofs.Keeping.{removal_routes, known_advert, number_left, known_entry}
use Rattle.ev_claims.proofs.local_routes.LocalRoutes.remove.Goals as goal

pub withdraw-requires-clause-number : goal.withdraw-requires-clause-number
withdraw-requires-clause-number c =
    let f = c.self.inside in
    let e = routes_of f.speaker f.learned f.ports.items f.vnis.items in
    number_left c.self.invariant (some e.learned c.args.station.now (known_entry e c.args.station.now (subst (λ
    (b : LocalRoutes). IsSome (entry_at b.learned c.args.station.now)) (sym c.self.view_is) c.requires)).1)

pub withdraw-requires-clause-there : goal.withdraw-requires-clause-there
withdraw-requires-clause-there c =
    let f = c.self.inside in
    rw c.key_of-key.ensures (known_advert
    c.args.station.now c.self.invariant
    (subst (λ (b : LocalRoutes). IsSome (entry_at b.learned c.args.station.now)) (sym c.self.view_is) c.requires))

pub invariant_of-self : goal.invariant_of-self
invariant_of-self c =
    let f = c.self.inside in
    let e = routes_of f.speaker f.learned f.ports.items f.vnis.items in
    let x = known_entry e c.args.station.now (subst (λ (b : LocalRoutes). IsSome
    (entry_at b.learned c.args.station.now))
    (sym c.self.view_is) c.requires) in
    subst KeepsRoutes (λ i. routes_of (sym (c.withdraw.ensures ∙ ap (λ k. after_originating f.speaker k Withdrawn)
    c.key_of-key.ensures) i) (sym c.remove-was.ensures.after i) f.ports.items f.vnis.items)
    (removal_routes e c.args.station.now x.0 x.1 c.self.invariant)
