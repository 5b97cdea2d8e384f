use Rattle.std.proofs.Common.{◌≡◌, ◌≤◌, ◌++◌, length, take, sym, ap, ◌∙◌, append-nil, arith}
use Rattle.std.proofs.Math.Seq.{take-append_seam}
use Rattle.std.proofs.lemmas.List.{take_all}
use Rattle.route_join.specs.After.{page_len}
use Rattle.route_join.proofs.page.first_of.Goals as goal

pub returns-then-len-eq-PAGE : goal.returns-then-len-eq-PAGE
returns-then-len-eq-PAGE c =
    let first = c.loop-update.first in
    let len : length first.items ≡ page_len = omega (arith, first.ok.0, c.len.ensures, c.if-len-eq-PAGE.true) in
    sym (take-append_seam first.items c.loop-update.update-iterator)
    ∙ (λ i. take (len i) (c.loop-update.invariant.all i))

pub returns : goal.returns
returns c =
    let first = c.loop-update.first in
    let few : length first.items ≤ page_len = omega (arith, first.ok.0, c.loop-update.invariant.few) in
    sym (take_all page_len first.items few) ∙ ap (take page_len) (sym (append-nil first.items)
    ∙ ap (λ x. first.items ++ x) (sym c.in-None.ensures.steps.0) ∙ c.loop-update.invariant.all)
