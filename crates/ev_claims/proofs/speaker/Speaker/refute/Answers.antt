use Rattle.std.proofs.Common.{sym, ap, ◌∙◌}
use Rattle.route_wire.specs.declared.update.Register.{Register}
use Rattle.route_wire.specs.declared.update.Content.TheVariants.{Withdrawn}
use Rattle.ev_claims.specs.Speaker.{after_originating}
use Rattle.ev_claims.proofs.Hearing.{refuted_is}
use Rattle.ev_claims.proofs.speaker.Speaker.refute.Goals as goal

pub returns-in-Ok-clause-ok : goal.returns-in-Ok-clause-ok
returns-in-Ok-clause-ok c =
    c.in-Ok.ensures.ok ∙ ap (λ (q : Register). after_originating c.args.self.now q.key Withdrawn) c.register.ensures
    ∙ sym (refuted_is c.args.self.now c.args.update.now Withdrawn c.requires.own)
