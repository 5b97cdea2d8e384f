use Rattle.std.proofs.Common.{◌+◌, sym, ap, subst, ◌∙◌}
use Rattle.route_wire.specs.Fields.{Fields}
use Rattle.route_join.proofs.Leaders.{on_ok}
use Rattle.ev_claims.specs.Pending.{marked}
use Rattle.ev_claims.specs.Inner.Pending.{Pending}
use Rattle.ev_claims.specs.Speaker.{own_register, after_originating}
use Rattle.ev_claims.specs.Inner.Speaker.{speaker_of, IsSpeaker}
use Rattle.ev_claims.proofs.Numbers.{said_numbers, said_rooms, said_joins}
use Rattle.ev_claims.proofs.speaker.Speaker.originate.Goals as goal

pub invariant_of-self-2 : goal.invariant_of-self-2
invariant_of-self-2 c =
    let f = c.self.inside in
    let k = c.args.key.now in
    let e = speaker_of f.address f.incarnation f.table f.counter f.pending in
    let table = on_ok c.take.result _ c.take.ensures.table (sym c.is_err.ensures.value ∙ c.if-is_err.false)
    ∙ (rw c.new-update.ensures) ∙ said_joins e k c.args.content c.self.invariant.numbers in
    rw (ap (λ (p : Pending). p.known) c.mark.ensures) (subst
    (λ v. IsSpeaker v c.make_room.new.self.known) (sym ((λ i. record {
      address = f.address;
      incarnation = f.incarnation;
      table = table i;
      counter = f.counter + 1;
      pending = (ap (λ (p : Pending). p.waiting) c.mark.ensures ∙ (λ i. marked (c.make_room.ensures.waiting i)
          ((c.register.ensures ∙ ap (λ (u : Fields). u.register) c.new-update.ensures) i))) i;
    }))) (record {
      numbers = said_numbers e k c.args.content c.self.invariant.numbers;
      rooms = said_rooms e k c.args.content c.make_room.new.self.known c.in_ok-make_room.ensures.known
          (λ j v at present. c.make_room.ensures.kept (own_register e j) (c.self.invariant.rooms j v at present));
    }))

pub returns-clause-ok : goal.returns-clause-ok
returns-clause-ok c =
    let f = c.self.inside in
    let k = c.args.key.now in
    let table = on_ok c.take.result _ c.take.ensures.table (sym c.is_err.ensures.value ∙ c.if-is_err.false)
    ∙ (rw c.new-update.ensures) ∙ said_joins (speaker_of f.address f.incarnation f.table f.counter
    f.pending) k c.args.content c.self.invariant.numbers in
    (λ i. (record {
      address = f.address;
      incarnation = f.incarnation;
      table = table i;
      counter = f.counter + 1;
      pending = (ap (λ (p : Pending). p.waiting) c.mark.ensures ∙ (λ i. marked (c.make_room.ensures.waiting i)
          ((c.register.ensures ∙ ap (λ (u : Fields). u.register) c.new-update.ensures) i))) i;
    })) ∙ ap (λ v. after_originating v k c.args.content) c.self.view_is
