use Rattle.std.proofs.Common.{rules, ◌≡◌, ap, sym, subst, ◌∙◌}
use Rattle.ev_book.specs.Closing.{TellsEach, counts_of, sum_of}
use Rattle.ev_book.proofs.Totalling.{tells_each, same_sum}
use Rattle.ev_book.proofs.book.Book.close.Goals as goal

pub returns-clause-each : goal.returns-clause-each
returns-clause-each g c =
    let given : c.as_slice.result.now ≡ c.args.passes.items = search rules in
    let told : c.own_counts-counts.result.items ≡ counts_of c.args.passes.items = c.own_counts-counts.ensures
    ∙ ap counts_of given in
    λ h. subst (TellsEach c.args.passes.items) (sym told) (tells_each c.args.passes.items h)

pub returns-clause-sum : goal.returns-clause-sum
returns-clause-sum g c =
    let given : c.as_slice.result.now ≡ c.args.passes.items = search rules in
    let told : c.own_counts-counts.result.items ≡ counts_of c.args.passes.items = c.own_counts-counts.ensures
    ∙ ap counts_of given in
    ap sum_of told ∙ same_sum c.args.passes.items ∙ search rules
