use Rattle.std.proofs.Common.{List, ℕ, ap, sym, subst, ◌∙◌}
use Rattle.std.specs.Prelude.{eqb}
use Rattle.std.specs.List.{IsDistinct}
use Rattle.ev_report.specs.Originators.{parts, originators_from}
use Rattle.ev_report.proofs.Listing.{split_some, split_none, shorter_after, part_taken, part_wrong, part_last}
use Rattle.ev_report.proofs.Listing.{listed_wrong}
use Rattle.ether_wire.proofs.DistinctNumbers.{distinct_none}
use Rattle.ev_report.proofs.originators.read_originators.Goals as goal

pub loop-part-init : goal.loop-part-init
loop-part-init c = record {
  value = ap (λ (os : List ℕ). originators_from os (parts 44 c.args.list.now)) c.new-originators.ensures;
  distinct = subst (λ (os : List ℕ). IsDistinct eqb os) (sym c.new-originators.ensures) distinct_none;
}

pub returns-in_err-originators-clause-value : goal.returns-in_err-originators-clause-value
returns-in_err-originators-clause-value c =
    let items = c.loop-part.originators.items in
    let wrong = c.in_err-originators.field-0.0 in
    listed_wrong c.from_residual.result wrong c.from_residual.ensures.1
    ∙ sym (part_wrong items (wrong.part.now, wrong.fault) c.in-Some.part.now (parts 44 c.in-Some.after.now)
    c.in_err-originators.ensures.value)
    ∙ ap (originators_from items) (sym (split_some 44 c.loop-part.rest.now c.in-Some.part.now c.in-Some.after.now
    (sym c.in-Some.ensures))) ∙ c.loop-part.invariant.value

pub loop-part-smaller : goal.loop-part-smaller
loop-part-smaller c = shorter_after 44 c.loop-part.rest.now c.in-Some.part.now c.in-Some.after.now
    (sym c.in-Some.ensures)

pub loop-part-preserved : goal.loop-part-preserved
loop-part-preserved c =
    let items = c.loop-part.originators.items in
    record {
      value = sym (part_taken items c.in_ok-originators.originators.items c.in-Some.part.now
          (parts 44 c.in-Some.after.now) c.in_ok-originators.ensures.value)
          ∙ ap (originators_from items) (sym (split_some 44 c.loop-part.rest.now c.in-Some.part.now c.in-Some.after.now
          (sym c.in-Some.ensures))) ∙ c.loop-part.invariant.value;
      distinct = c.in_ok-originators.ensures.some.distinct;
    }

pub returns-clause-value : goal.returns-clause-value
returns-clause-value c =
    c.with_part-2.ensures.value ∙ sym (part_last c.loop-part.originators.items c.loop-part.rest.now)
    ∙ ap (originators_from c.loop-part.originators.items)
    (sym (split_none 44 c.loop-part.rest.now (sym c.in_default.ensures))) ∙ c.loop-part.invariant.value
