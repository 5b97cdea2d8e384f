use Rattle.std.proofs.Common.{rules, ◌≡◌, ℕ, ◌+◌, ◌++◌, List, [], ◌∷◌, take, sym, subst, ap, ◌∙◌, Ok, add-one, length}
use Rattle.std.proofs.Math.Seq.{take-suc, take-length}
use Rattle.route_wire.specs.Fields.{Fields}
use Rattle.route_wire.specs.Record.{Reads}
use Rattle.route_wire.specs.Encode.{spelling_of}
use Rattle.ether_wire.proofs.Appending.{with_text_twice}
use Rattle.ev_book.proofs.Again.{ReadAgain, reads_more, answered}
use Rattle.ev_book.proofs.journal.put_records.Goals as goal
use Rattle.route_wire.specs.Records.{records_of}
use Rattle.route_wire.proofs.Records.{records-push}

pub loop-update-preserved : goal.loop-update-preserved
loop-update-preserved g c =
    let us = c.args.updates.now in
    let i = c.loop-update.update-index in
    let u : Fields = c.update-item.result in
    let next : take (i + 1) us ≡ take i us ++ u ∷ [] = ap (λ n. take n us) (add-one i)
    ∙ take-suc us i u c.loop-update-test.true ∙ ap (λ x. take i us ++ x ∷ []) (sym c.update-item.is) in
    let more : records_of (take (i + 1) us) ≡ records_of (take i us) ++ spelling_of u = ap records_of next
    ∙ records-push (take i us) u in
    let last : (rest : List ℕ) → Reads (spelling_of u ++ rest) (Ok u ∷ []) rest =
    λ rest. subst (λ (b : List ℕ). Reads (b ++ rest) (Ok u ∷ []) rest) c.write-record.ensures.octets
    (c.write-record.ensures.again rest) in
    record {
      written = search (rules, more, with_text_twice);
      failed = search rules;
      again = subst ReadAgain (sym next) (reads_more (take i us) u c.loop-update.invariant.again last);
    }

pub returns-clause-again : goal.returns-clause-again
returns-clause-again g c =
    let us = c.args.updates.now in
    let ended : c.loop-update.update-index ≡ length us = search rules in
    let all : take c.loop-update.update-index us ≡ us = ap (λ n. take n us) ended ∙ take-length us in
    answered us (subst ReadAgain all c.loop-update.invariant.again)
