-- The counts and marks that a book keeps of its passes.
use Rattle.std.proofs.Common.{ℕ, zero, suc, replicate, ◌+◌, ◌<◌, ◌≡◌, inl, inr, true, Option, Some, None, IfSome, List}
use Rattle.std.proofs.Common.{length, get_or, set, slice_get, refl, ap, sym, subst, ◌∙◌, arith, eqb}
use Rattle.std.proofs.lemmas.Bool.{cases_eq, false≢true, eqb-true, and_parts as both}
use Rattle.std.proofs.lemmas.Option.{slice_get_within, get_or_from_slice_get}
use Rattle.std.proofs.lemmas.List.{get_or-set_same, get_or-set_other, length-set}
use Rattle.std.proofs.lemmas.List.Sums.{sum_by-set}
use Rattle.route_wire.specs.Fields.{Fields}
use Rattle.route_join.specs.Table.{Table, IsTableOf}
use Rattle.ev_edge.specs.Edge.{Edge, table_of}
use Rattle.ev_book.specs.declared.mark.Mark.{Mark}
use Rattle.ev_book.specs.declared.pass.Kept.{Kept}
use Rattle.ev_book.specs.Mark.{Holds, HoldsAt, same_mark, mark_of}
use Rattle.ev_book.specs.Book.{BookState, PassState, book_of, unused, kept_at, count_sum, IsGoodBook, fits_kept, fits}
use Rattle.ev_book.specs.Entering.{mark_then}
use Rattle.ev_book.proofs.Reaching.{same_options}

-- the pass agrees with the book's record of its number
pub record Fitting (kept : List Kept) (p : PassState) : Type 0 where
  pub low : p.number < length kept
  pub count : (kept_at kept p.number).count ≡ p.count
  pub mark : (kept_at kept p.number).mark ≡ p.mark

fitting_at : (kept : List Kept) (p : PassState) (o : Option Kept) → slice_get kept p.number ≡ o → fits_kept o p ≡ true
    → Fitting kept p
fitting_at kept p None is h = absurd (false≢true h)
fitting_at kept p (Some k) is h =
    let parts = both (eqb k.count p.count) (same_mark k.mark p.mark) h in
    let at : get_or kept p.number unused ≡ k = get_or_from_slice_get kept p.number k unused is in
    record {
      low = slice_get_within kept p.number k is;
      count = ap (λ (x : Kept). x.count) at ∙ eqb-true k.count p.count parts.0;
      mark = ap (λ (x : Kept). x.mark) at ∙ same_options k.mark p.mark parts.1;
    }

pub fitting : (kept : List Kept) (p : PassState) → fits_kept (slice_get kept p.number) p ≡ true → Fitting kept p
fitting kept p h = fitting_at kept p (slice_get kept p.number) refl h

-- so the table has its mark
pub fitting_holds : (b : BookState) (total : ℕ) (p : PassState) → IsGoodBook b total → fits b p ≡ true
    → HoldsAt (table_of b.edge) p.mark
fitting_holds b total p good h =
    let f = fitting b.kept p h in
    subst (HoldsAt (table_of b.edge)) f.mark (good.marks p.number f.low)

-- it has the mark after a call
pub then_holds : (s t : Table) (m : Option Mark) (o : Option Fields) → ((k : Mark) → Holds s k → Holds t k)
    → HoldsAt s m → IfSome o (λ u. Holds t (mark_of u)) → HoldsAt t (mark_then m o)
then_holds s t m (Some u) on h new = new
then_holds s t None None on h new = tt
then_holds s t (Some k) None on h new = on k h

on_marks : (s t : Table) → ((k : Mark) → Holds s k → Holds t k) → (m : Option Mark) → HoldsAt s m → HoldsAt t m
on_marks s t on None h = tt
on_marks s t on (Some k) h = on k h

-- one call more, a journal that has grown, and a mark that holds
pub entered : (b : BookState) (total : ℕ) (p : PassState) (edge : Edge) (journal : List Fields) (mark : Option Mark)
    → IsGoodBook b total → fits b p ≡ true → IsTableOf journal (table_of edge)
    → ((k : Mark) → Holds (table_of b.edge) k → Holds (table_of edge) k) → HoldsAt (table_of edge) mark
    → IsGoodBook (book_of edge journal (set b.kept p.number (record { count = p.count + 1; mark = mark }))) (total + 1)
entered b total p edge journal mark good h table on new =
    let f = fitting b.kept p h in
    let k : Kept = record { count = p.count + 1; mark = mark } in
    record {
      table = table;
      marks = λ n lt.
          let lt' : n < length b.kept = rw length-set at lt in
          elim (cases_eq n p.number) [
            | inl e ↦ (let P : Kept → Type 0 = λ x. HoldsAt (table_of edge) x.mark in
                subst P (sym (ap (λ i. get_or (set b.kept p.number k) i unused) e
                ∙ get_or-set_same b.kept p.number k unused f.low)) new)
            | inr ne ↦ (let P : Kept → Type 0 = λ x. HoldsAt (table_of edge) x.mark in
                subst P (sym (get_or-set_other b.kept p.number n k unused ne))
                (on_marks (table_of b.edge) (table_of edge) on (kept_at b.kept n).mark (good.marks n lt')))
          ];
      counts = (let sum = sum_by-set (λ (x : Kept). x.count) b.kept p.number k unused f.low in let was = good.counts in
          let count = f.count in omega (arith, sum, was, count));
    }

-- what fits as it is seen, fits as it is kept
pub fits_from : (b v : BookState) (p w : PassState) → b ≡ v → p ≡ w → fits v w ≡ true → fits b p ≡ true
fits_from b v p w is is' h = ap (λ x. fits x p) is ∙ ap (fits v) is' ∙ h

-- ---- the opening

no_calls : (n : ℕ) → count_sum (replicate n unused) ≡ 0
no_calls zero = refl
no_calls (suc n) = no_calls n

unmarked : (n k : ℕ) → k < length (replicate n unused) → (kept_at (replicate n unused) k).mark ≡ None
unmarked zero k lt = refl
unmarked (suc n) zero lt = refl
unmarked (suc n) (suc k) lt = unmarked n k (omega (arith, lt))

-- passes that have called nothing, over the journal of an edge
pub opened_good : (edge : Edge) (journal : List Fields) (n : ℕ) → IsTableOf journal (table_of edge)
    → IsGoodBook (book_of edge journal (replicate n unused)) 0
opened_good edge journal n table = record {
  table = table;
  marks = λ k lt. subst (HoldsAt (table_of edge)) (sym (unmarked n k lt)) tt;
  counts = no_calls n;
}
