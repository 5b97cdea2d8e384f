use Rattle.std.proofs.Common.{◌≡◌, ◌+◌, List, [], ◌∷◌, ◌++◌, take, refl, sym, ap, subst, ◌∙◌, arith}
use Rattle.std.proofs.lemmas.List.{take_more, take_all}
use Rattle.std.proofs.lemmas.List.Elements.{filter-append}
use Rattle.std.proofs.lemmas.Bool.Decides.{nat_tests}
use Rattle.route_wire.specs.Fields.{Fields}
use Rattle.ev_exchange.specs.Sending.{Sending, HasSaid, is_own, own_of}
use Rattle.ev_exchange.proofs.Sayings.{said_none, said_twice}
use Rattle.ev_exchange.proofs.sender.Sender.originate.Goals as goal

pub loop-update-init : goal.loop-update-init
loop-update-init g c = record { shut = λ e. refl; said = said_none c.args.self.now }

pub loop-update-preserved : goal.loop-update-preserved
loop-update-preserved g c =
    let us = c.args.updates.now in
    let o = c.args.originator in
    let place = c.loop-update.update-index in
    let one : Fields = c.update-item.result in
    let next : take (place + 1) us ≡ take place us ++ one ∷ [] = take_more us place one c.loop-update-test.true
    ∙ ap (λ (u : Fields). take place us ++ u ∷ []) (sym c.update-item.is) in
    record {
      shut = λ e. let same = c.loop-update.invariant.shut e in
          c.put_own.ensures.shut (ap (λ (s : Sending). s.is_open) same ∙ e) ∙ same;
      said = subst (HasSaid c.args.self.now c.put_own.new.self)
          (sym (ap (own_of o) next ∙ filter-append (is_own o) (take place us) (one ∷ [])))
          (said_twice c.args.self.now c.loop-update.self c.put_own.new.self (own_of o (take place us))
          (own_of o (one ∷ [])) c.loop-update.invariant.said c.put_own.ensures.said);
    }

pub returns-clause-said : goal.returns-clause-said
returns-clause-said g c =
    subst (λ (us : List Fields). HasSaid c.args.self.now c.loop-update.self (own_of c.args.originator us))
    (take_all c.loop-update.update-index c.args.updates.now (grind (arith, nat_tests))) c.loop-update.invariant.said
