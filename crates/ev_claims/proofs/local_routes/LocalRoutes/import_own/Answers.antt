use Rattle.std.proofs.Common.{◌≡◌, sym, subst}
use Rattle.ev_claims.specs.LocalRoutes.{LocalRoutes, routes_of}
use Rattle.ev_claims.proofs.Keeping.{own_routes}
use Rattle.ev_claims.proofs.local_routes.LocalRoutes.import_own.Goals as goal

pub invariant_of-self : goal.invariant_of-self
invariant_of-self c =
    let f = c.self.inside in
    own_routes (routes_of f.speaker f.learned f.ports.items f.vnis.items) c.import_own.new.self c.args.update.now
    c.import_own.result
    (subst (λ (b : LocalRoutes). c.args.update.now.register.originator ≡ b.speaker.address)
    (sym c.self.view_is) c.requires)
    c.always_numbered.ensures c.self.invariant
    c.import_own.ensures.ok c.import_own.ensures.err c.import_own.ensures.ahead c.import_own.ensures.spent
