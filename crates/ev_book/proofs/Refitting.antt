-- A pass fits again after its call, and the others still.
use Rattle.std.proofs.Common.{◌≡◌, Bool, true, false, ◌||◌, not, Option, Some, None}
use Rattle.std.proofs.Common.{Result, List, refl, ap, subst, ◌∙◌}
use Rattle.std.specs.Prelude.{slice_get}
use Rattle.std.specs.Cmp.{tied_itself}
use Rattle.std.specs.Ordering.{is_eq}
use Rattle.std.proofs.lemmas.Bool.{eq-eqb, and_from}
use Rattle.route_wire.specs.Inner.Totals.{register_total}
use Rattle.route_join.proofs.Tables.{not_newer_itself}
use Rattle.route_join.proofs.WinnerTrees.{set_here, set_there}
use Rattle.ev_edge.specs.declared.event.Event.{Event}
use Rattle.ev_edge.specs.declared.reply.Reply.{Reply}
use Rattle.ev_book.specs.declared.mark.Mark.{Mark}
use Rattle.ev_book.specs.declared.pass.Kept.{Kept}
use Rattle.ev_book.specs.declared.refusal.BookRefusal.{BookRefusal}
use Rattle.ev_book.specs.Mark.{is_same, same_mark}
use Rattle.ev_book.specs.Book.{BookState, PassState, kept_of, fits_kept, fits}
use Rattle.ev_book.specs.Entering.{Calls, Enters, is_spent}
use Rattle.ev_book.specs.Fitting.{FitAgain, FitsAgain}
use Rattle.ev_book.proofs.Counting.{fitting}

same_itself : (a : Mark) → is_same a a ≡ true
same_itself a = and_from _ _ (ap is_eq (tied_itself register_total a.register))
    (ap (λ newer. not (newer || newer)) (not_newer_itself a.value))

mark_itself : (m : Option Mark) → same_mark m m ≡ true
mark_itself None = refl
mark_itself (Some a) = same_itself a

-- the book's record of the pass is the pass's own
kept_itself : (p : PassState) → fits_kept (Some (kept_of p)) p ≡ true
kept_itself p = and_from _ _ (eq-eqb p.count p.count refl) (mark_itself p.mark)

entered_fits : (b b' : BookState) (p p' : PassState) (event : Event) (result : Result Reply BookRefusal)
    → fits b p ≡ true → Enters b p event result b' p' → FitAgain b b' p p'
entered_fits b b' p p' event result fit h = record {
  own =
      ap (λ n. fits_kept (slice_get b'.kept n) p') number
      ∙ ap (λ (kept : List Kept). fits_kept (slice_get kept p.number) p') h.kept
      ∙ ap (λ o. fits_kept o p') (set_here b.kept p.number (kept_of p') (fitting b.kept p fit).low)
      ∙ kept_itself p';
  others = λ q ne there.
      ap (λ (kept : List Kept). fits_kept (slice_get kept q.number) q) h.kept
      ∙ ap (λ o. fits_kept o q) (set_there b.kept p.number q.number (kept_of p') ne) ∙ there;
}
  where
    number : p'.number ≡ p.number
    number = ap (λ (x : PassState). x.number) h.pass

pub fits_again : FitsAgain
fits_again b b' p p' event result fit calls = go (is_spent p)
    (subst (λ x. Calls x (is_spent p) b p event result b' p') fit calls)
  where
    go : (spent : Bool) → Calls true spent b p event result b' p' → FitAgain b b' p p'
    go true h = record {
      own = (λ i. fits (h.book i) (h.pass i)) ∙ fit;
      others = λ q ne there. ap (λ x. fits x q) h.book ∙ there;
    }
    go false h = entered_fits b b' p p' event result fit h
