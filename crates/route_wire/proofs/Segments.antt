-- Whether one of ten octets isn't 0, by the number of the first eight.
use Rattle.std.proofs.Common.{◌≡◌, ℕ, ◌+◌, ◌*◌, ◌^◌, ◌<◌, ◌≤◌, Bool, not, ◌||◌, ◌==◌, List, [], ◌∷◌}
use Rattle.std.proofs.Common.{length, take, slice_index, zero, suc, refl, arith}
use Rattle.std.specs.List.{list_any}
use Rattle.std.proofs.lemmas.Bool.Decides.{nat_tests}
use Rattle.std.proofs.Math.Nat.{mul-pos, zero-mul}
use Rattle.std.proofs.lemmas.List.Folds.{list_any_more}
use Rattle.byteorder.specs.Endian.{big_number}
use Rattle.byteorder.specs.Numbers.{big_from-cons}

abbrev pub is_set : ℕ → Bool
is_set x = not (x == 0)

-- a number of two digits isn't 0 exactly if one of them isn't
either : (x m n : ℕ) → (0 < x → 0 < m) → (x ≡ 0 → m ≡ 0) → is_set x || is_set n ≡ is_set (m + n)
either x m n some none = grind (arith, nat_tests)

any_number : (n : ℕ) (xs : List ℕ) → n ≤ length xs
    → (0 < 256 ^ n) × (list_any is_set (take n xs) ≡ is_set (big_number n xs))
any_number zero xs h = (omega arith, refl)
any_number (suc n) [] h = absurd (omega (arith, h))
any_number (suc n) (x ∷ xs) h =
    let below = any_number n xs (omega (arith, h)) in (
      omega (arith, below.0),
      rw (below.1, big_from-cons 0 n x xs) (either x (x * 256 ^ n) (big_number n xs)
          (λ some. mul-pos some below.0) (λ none. rw none (zero-mul (256 ^ n)))),
    )

pub any_of_ten : (xs : List ℕ) → 10 ≤ length xs
    → list_any is_set (take 10 xs)
    ≡ (is_set (big_number 8 xs) || is_set (slice_index xs 8)) || is_set (slice_index xs 9)
any_of_ten xs h =
    rw (
      list_any_more is_set xs 9 0 (omega arith),
      list_any_more is_set xs 8 0 (omega arith),
      (any_number 8 xs (omega arith)).1,
    )
