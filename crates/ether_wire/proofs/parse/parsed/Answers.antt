use Rattle.std.proofs.Common.{◌≡◌, sym, ◌∙◌}
use Rattle.ether_wire.proofs.SpellingLemmas.{is_text, parsed_digits, at_err, at_ok}
use Rattle.ether_wire.proofs.parse.parsed.Goals as goal

pub returns-in_err-ok : goal.returns-in_err-ok
returns-in_err-ok c =
    let text = is_text c.args.text.now c.requires in
    absurd (at_err _ _ _ ⊥ (sym c.ok.ensures.value ∙ c.in_err-ok.was) c.from_utf8.ensures.cases
    (λ e refused. refused.0 text))

pub returns : goal.returns
returns c =
    let same = at_ok _ _ _ _ (sym c.ok.ensures.value ∙ c.in_ok-ok.was) c.from_utf8.ensures.cases in
    let digits : c.in_ok-ok.field-0.now ≡ c.args.text.now = same.0 in
    rw c.ok-2.ensures.value (parsed_digits c.args.text.now c.parse.result c.requires
    (rw digits at c.parse.ensures.value.0))
