use Rattle.std.proofs.Common.{◌++◌, ◌∷◌, [], ap, ◌∙◌}
use Rattle.std.proofs.lemmas.List.{replicate-append-replicate}
use Rattle.ev_book.proofs.pass.repeated.Goals as goal

pub loop-place-preserved : goal.loop-place-preserved
loop-place-preserved g c = c.in_ok-push.ensures.items ∙ ap (λ xs. xs ++ c.args.value ∷ []) c.loop-place.invariant
    ∙ replicate-append-replicate c.loop-place.place 1 c.args.value
