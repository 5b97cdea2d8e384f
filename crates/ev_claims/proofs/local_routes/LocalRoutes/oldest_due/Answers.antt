use Rattle.std.proofs.Common.{true, false, refl, ap, ◌∙◌}
use Rattle.std.specs.Prelude.{slice_get}
use Rattle.std.proofs.lemmas.Bool.{le-leb, lt-leb}
use Rattle.ev_claims.specs.LocalRoutes.{LocalRoutes}
use Rattle.ev_claims.specs.Leaving.{due_in}
use Rattle.ev_claims.proofs.Ageing.{front_none, front_is}
use Rattle.ev_claims.proofs.local_routes.LocalRoutes.oldest_due.Goals as goal

pub returns-in_default-clause-first : goal.returns-in_default-clause-first
returns-in_default-clause-first c = front_none c.self.inside.learned c.args.limit c.in_default.ensures
    ∙ ap (λ (b : LocalRoutes). slice_get (due_in b.learned c.args.limit) 0) c.self.view_is

pub returns-in_default-look-clause-first : goal.returns-in_default-look-clause-first
returns-in_default-look-clause-first c = front_is c.self.inside.learned c.args.limit
    c.in-Some.ensures c.in_default-look.ensures false refl
    ∙ ap (λ (b : LocalRoutes). slice_get (due_in b.learned c.args.limit) 0) c.self.view_is

pub returns-then-entry-limit-clause-first : goal.returns-then-entry-limit-clause-first
returns-then-entry-limit-clause-first c = front_is c.self.inside.learned c.args.limit c.in-Some.ensures
    c.in-Some-look.ensures false
    (lt-leb c.in-Some-look.entry.last c.args.limit c.if-entry-limit.true)
    ∙ ap (λ (b : LocalRoutes). slice_get (due_in b.learned c.args.limit) 0) c.self.view_is

pub returns-clause-first : goal.returns-clause-first
returns-clause-first c = front_is c.self.inside.learned c.args.limit
    c.in-Some.ensures c.in-Some-look.ensures true
    (le-leb c.in-Some-look.entry.last c.args.limit c.if-entry-limit.false)
    ∙ ap (λ (b : LocalRoutes). slice_get (due_in b.learned c.args.limit) 0) c.self.view_is
