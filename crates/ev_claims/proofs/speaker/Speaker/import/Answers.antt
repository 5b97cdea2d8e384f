use Rattle.std.proofs.Common.{◌≢◌, sym, subst}
use Rattle.ev_claims.specs.Speaker.{Speaker}
use Rattle.ev_claims.proofs.Said.{heard_speaker}
use Rattle.ev_claims.proofs.speaker.Speaker.import.Goals as goal

pub invariant_of-self : goal.invariant_of-self
invariant_of-self c =
    let f = c.self.inside in
    heard_speaker
    c.args.update.now c.take.result
    (subst (λ (v : Speaker). c.args.update.now.register.originator ≢ v.address) (sym c.self.view_is) c.requires)
    c.self.invariant c.take.ensures.table c.take.ensures.err
