-- Streams of records.
use Rattle.std.proofs.Common.{◌≡◌, ℕ, false, List, [], ◌∷◌, take, drop, Result, refl, sym, ap, ◌∙◌}
use Rattle.route_wire.specs.declared.stream.Whole.{Whole}
use Rattle.route_wire.specs.declared.stream.Whole.TheVariants.{Length}
use Rattle.route_wire.specs.Fields.{Fields}
use Rattle.route_wire.specs.Record.{reading, AnswersUpTo, is_length}

pub same_length : (m n : ℕ) → Length m ≡ Length n → m ≡ n
same_length m n e = cc

no_length : (w : Whole) (n : ℕ) → w ≡ Length n → is_length w ≡ false → ⊥
no_length w n e f = cc

pub read_once : (newest : ℕ) (s : List ℕ) (xs ys : List (Result Fields ℕ)) (r t : List ℕ) → AnswersUpTo newest s xs r
    → AnswersUpTo newest s ys t → (xs ≡ ys) × (r ≡ t)
read_once newest s [] [] r t a b = (refl, sym a.reads ∙ b.reads)
read_once newest s [] (y ∷ ys) r t a b = absurd (no_length _ _ b.reads.1 (rw a.reads a.ended))
read_once newest s (x ∷ xs) [] r t a b = absurd (no_length _ _ a.reads.1 (rw b.reads b.ended))
read_once newest s (x ∷ xs) (y ∷ ys) r t a b =
    let same = same_length _ _ (sym a.reads.1 ∙ b.reads.1) in
    let tails = read_once newest (drop a.reads.0 s) xs ys r t (record { reads = a.reads.3; ended = a.ended })
    (record { reads = rw same b.reads.3; ended = b.ended }) in
    let heads : x ≡ y = sym a.reads.2 ∙ ap (λ (k : ℕ). reading (take k s)) same ∙ b.reads.2 in
    (λ i. heads i ∷ tails.0 i, tails.1)
