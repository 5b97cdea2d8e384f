use Rattle.std.proofs.Common.{rules, arith, vec_len, ◌≡◌, ◌+◌, ◌++◌, ◌∷◌, [], ap, sym, ◌∙◌}
use Rattle.std.proofs.lemmas.List.FromFn.{map-range_with_len_more}
use Rattle.ev_book.specs.Opening.{opened_pass, opened_passes}
use Rattle.ev_book.proofs.book.new_passes.Goals as goal

pub loop-number-preserved : goal.loop-number-preserved
loop-number-preserved g c =
    let n = c.loop-number.number in
    let more : opened_passes (n + 1) ≡ opened_passes n ++ opened_pass n ∷ [] =
    map-range_with_len_more opened_pass 0 n n (omega arith) in
    let len : vec_len c.push.new.self ≡ n + 1 = search rules in
    let parts : c.split_off.new.self.parts + (n + 1) ≡ c.args.passes = search rules in
    record {
      parts = parts;
      len = len;
      amount = search rules;
      made = c.in_ok-push.ensures.items ∙ ap (λ xs. xs ++ c.new.result ∷ []) c.loop-number.invariant.made
          ∙ ap (λ p. opened_passes n ++ p ∷ []) c.new.ensures ∙ sym more;
    }
