use Rattle.std.proofs.Common.{◌+◌, sym, ap, subst, ◌∙◌}
use Rattle.std.specs.Prelude.{IsSome}
use Rattle.route_wire.specs.declared.update.Content.TheVariants.{Withdrawn}
use Rattle.ev_claims.specs.Pending.{marked}
use Rattle.ev_claims.specs.Inner.Pending.{Pending}
use Rattle.ev_claims.specs.Speaker.{Speaker, own_register, own_advert, after_originating}
use Rattle.ev_claims.specs.Inner.Speaker.{speaker_of, IsSpeaker}
use Rattle.ev_claims.proofs.Said.{there, said_is, said_speaker}
use Rattle.ev_claims.proofs.speaker.Speaker.withdraw.Goals as goal

pub returns : goal.returns
returns c =
    let f = c.self.inside in
    let table = said_is c.args.key c.self.invariant c.in-Some.ensures c.new-update.ensures
    c.register-2.ensures
    c.take-taken.ensures.table c.take-taken.ensures.unknown c.take-taken.ensures.no_memory in
    (λ i. (record {
      address = f.address;
      incarnation = f.incarnation;
      table = table i;
      counter = f.counter + 1;
      pending = (ap (λ (p : Pending). p.waiting) c.mark.ensures ∙ ap (marked f.pending.waiting)
          (c.register-3.ensures ∙ (there f.table (own_register (speaker_of f.address f.incarnation f.table f.counter
          f.pending) c.args.key) c.in-Some.last c.in-Some.ensures).named))
          i;
    }))
    ∙ ap (λ v. after_originating v c.args.key Withdrawn) c.self.view_is

pub invariant_of-self : goal.invariant_of-self
invariant_of-self c =
    let f = c.self.inside in
    let table = said_is c.args.key c.self.invariant c.in-Some.ensures c.new-update.ensures
    c.register-2.ensures
    c.take-taken.ensures.table c.take-taken.ensures.unknown c.take-taken.ensures.no_memory in
    subst (IsSpeaker _) (sym (ap (λ (p : Pending). p.known) c.mark.ensures)) (subst
    (λ v. IsSpeaker v f.pending.known) (sym ((λ i. record {
      address = f.address;
      incarnation = f.incarnation;
      table = table i;
      counter = f.counter + 1;
      pending = (ap (λ (p : Pending). p.waiting) c.mark.ensures ∙ ap (marked f.pending.waiting)
          (c.register-3.ensures ∙ (there f.table (own_register (speaker_of f.address f.incarnation f.table f.counter
          f.pending) c.args.key) c.in-Some.last c.in-Some.ensures).named))
          i;
    })))
    (said_speaker c.args.key Withdrawn c.self.invariant
    (subst (λ (v : Speaker). IsSome (own_advert v c.args.key)) (sym c.self.view_is) c.requires.there)
    c.in-Some.ensures))
