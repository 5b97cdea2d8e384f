use Rattle.std.proofs.Common.{◌≡◌, [], sym, subst, ◌∙◌}
use Rattle.ev_claims.specs.Speaker.{Speaker}
use Rattle.ev_claims.proofs.Hearing.{announced_speaker, nobody_first, announced_there}
use Rattle.ev_claims.proofs.speaker.Speaker.announce.Goals as goal

pub returns-in_default-clause-none : goal.returns-in_default-clause-none
returns-in_default-clause-none c = subst (λ (v : Speaker). v.pending ≡ []) c.self.view_is
    (nobody_first c.self.inside.pending.waiting (sym c.in_default.is ∙ c.first.ensures))

pub invariant_of-self : goal.invariant_of-self
invariant_of-self c =
    let f = c.self.inside in
    rw c.unmark_first.ensures (announced_speaker c.self.invariant)

pub returns-clause-none : goal.returns-clause-none
returns-clause-none c =
    let f = c.self.inside in
    announced_there
    c.register.result (c.args.self.now.pending ≡ []) c.self.invariant.numbers
    (sym c.in-Some.is ∙ c.first.ensures) c.register.ensures
