-- The counts of passes that are given back: each its own, and their sum.
use Rattle.std.proofs.Common.{◌≡◌, ℕ, zero, suc, ◌+◌, ◌<◌, Bool, false, if◌then◌else◌, Some, List, [], ◌∷◌, length, map}
use Rattle.std.proofs.Common.{get_or, refl, ap, sym, ◌∙◌, arith, eqb}
use Rattle.std.specs.List.{AllByRecursion, IsDistinct, fold}
use Rattle.std.proofs.lemmas.Bool.{eq-eqb}
use Rattle.ev_book.specs.declared.pass.Counted.{Counted}
use Rattle.ev_book.specs.Book.{PassState}
use Rattle.ev_book.specs.Closing.{counts_of, sum_of, count_in, AreNumbered, TellsEach}
use Rattle.ev_book.specs.Inner.Closing.{calls_of}

abbrev numbers : List PassState → List ℕ
numbers passes = map (λ (p : PassState). p.number) passes

other_number : (n : ℕ) (passes : List PassState) (p : PassState) (k : ℕ) → k < length passes → get_or passes k p ≡ p
    → AllByRecursion (λ m. eqb n m ≡ false) (numbers passes) → eqb n p.number ≡ false
other_number n [] p k l e h = absurd (omega (arith, l))
other_number n (x ∷ xs) p zero l e h = ap (λ (y : PassState). eqb n y.number) (sym e) ∙ h.0
other_number n (x ∷ xs) p (suc k) l e h = other_number n xs p k (omega (arith, l)) e h.1

told_at : (passes : List PassState) (p : PassState) (k : ℕ) → k < length passes → get_or passes k p ≡ p
    → AreNumbered passes → count_in (counts_of passes) p.number ≡ Some p.count
unfolding IsDistinct
told_at [] p k l e h = absurd (omega (arith, l))
told_at (x ∷ xs) p zero l e h =
    ap (λ (y : PassState). if eqb y.number p.number then Some y.count else count_in (counts_of xs) p.number) e
    ∙ ap (λ (b : Bool). if b then Some p.count else count_in (counts_of xs) p.number) (eq-eqb p.number p.number refl)
told_at (x ∷ xs) p (suc k) l e h =
    ap (λ (b : Bool). if b then Some x.count else count_in (counts_of xs) p.number)
    (other_number x.number xs p k (omega (arith, l)) e h.0)
    ∙ told_at xs p k (omega (arith, l)) e h.1

pub tells_each : (passes : List PassState) → AreNumbered passes → TellsEach passes (counts_of passes)
tells_each passes h = λ p c. told_at passes p c.0 c.1 c.2 h

-- from any sum of those before
same_from : (n : ℕ) (passes : List PassState) → fold (λ (m : ℕ) (c : Counted). m + c.count) n (counts_of passes)
    ≡ fold (λ (m : ℕ) (p : PassState). m + p.count) n passes
same_from n [] = refl
same_from n (p ∷ ps) = same_from (n + p.count) ps

pub same_sum : (passes : List PassState) → sum_of (counts_of passes) ≡ calls_of passes
same_sum passes = same_from 0 passes
