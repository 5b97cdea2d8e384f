use Rattle.std.proofs.Common.{◌≢◌, sym, subst}
use Rattle.ev_claims.specs.LocalRoutes.{LocalRoutes}
use Rattle.ev_claims.proofs.Keeping.{heard_routes}
use Rattle.ev_claims.proofs.local_routes.LocalRoutes.import.Goals as goal

pub invariant_of-self-in-None : goal.invariant_of-self-in-None
invariant_of-self-in-None c =
    let f = c.self.inside in
    heard_routes c.args.update.now
    c.import.result
    (subst (λ (b : LocalRoutes). c.args.update.now.register.originator ≢ b.speaker.address)
    (sym c.self.view_is) c.requires)
    c.self.invariant c.import.ensures.ok c.import.ensures.err

pub invariant_of-self-in-Some : goal.invariant_of-self-in-Some
invariant_of-self-in-Some c =
    let f = c.self.inside in
    heard_routes c.args.update.now
    c.import.result
    (subst (λ (b : LocalRoutes). c.args.update.now.register.originator ≢ b.speaker.address)
    (sym c.self.view_is) c.requires)
    c.self.invariant c.import.ensures.ok c.import.ensures.err
