use Rattle.std.proofs.Common.{◌≡◌, ◌+◌, [], ◌∷◌, ◌++◌, take, sym, ap, ◌∙◌, append_assoc, append-nil}
use Rattle.std.proofs.lemmas.List.{take_more, take_all}
use Rattle.std.proofs.lemmas.List.Elements.{filter-append}
use Rattle.std.proofs.lemmas.Bool.Decides.{nat_tests}
use Rattle.std.proofs.Common.{arith}
use Rattle.route_wire.specs.Fields.{Fields}
use Rattle.ev_exchange.specs.Sending.{is_own, own_of}
use Rattle.ev_run.proofs.records.add_own.Goals as goal

pub loop-update-init : goal.loop-update-init
loop-update-init c = sym (append-nil c.args.own.now.items)

pub loop-update-preserved : goal.loop-update-preserved
loop-update-preserved c =
    let us = c.args.updates.now in
    let o = c.args.originator in
    let place = c.loop-update.update-index in
    let one : Fields = c.update-item.result in
    let next : take (place + 1) us ≡ take place us ++ one ∷ [] = take_more us place one c.loop-update-test.true
    ∙ ap (λ (u : Fields). take place us ++ u ∷ []) (sym c.update-item.is) in
    c.in_ok-add_one.ensures ∙ ap (λ x. x ++ own_of o (one ∷ [])) c.loop-update.invariant
    ∙ append_assoc c.args.own.now.items (own_of o (take place us)) (own_of o (one ∷ []))
    ∙ ap (λ x. c.args.own.now.items ++ x)
    (sym (ap (own_of o) next ∙ filter-append (is_own o) (take place us) (one ∷ [])))

pub returns : goal.returns
returns c = c.loop-update.invariant ∙ ap (λ us. c.args.own.now.items ++ own_of c.args.originator us)
    (take_all c.loop-update.update-index c.args.updates.now (grind (arith, nat_tests)))
