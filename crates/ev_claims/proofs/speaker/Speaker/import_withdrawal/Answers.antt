use Rattle.std.proofs.Common.{◌≡◌, ◌<◌, true, sym, subst}
use Rattle.ev_claims.specs.Speaker.{Speaker, is_newest}
use Rattle.ev_claims.proofs.Hearing.{earlier_speaker}
use Rattle.ev_claims.proofs.speaker.Speaker.import_withdrawal.Goals as goal

pub invariant_of-self : goal.invariant_of-self
invariant_of-self c =
    let f = c.self.inside in
    let u = c.args.update.now in
    let old = sym c.self.view_is in
    earlier_speaker u
    c.take.result c.self.invariant
    (subst (λ (v : Speaker). u.register.originator ≡ v.address) old c.requires.own)
    (subst (λ (v : Speaker). is_newest v u ≡ true) old c.requires.newest)
    (subst (λ (v : Speaker). u.value.incarnation < v.incarnation) old c.requires.past)
    c.requires.withdrawn c.take.ensures.table c.take.ensures.err
