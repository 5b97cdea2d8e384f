-- A test of all numbers below a bound, which computes.
use Rattle.std.proofs.Common.{◌≡◌, ℕ, zero, suc, ◌-◌, ◌<◌, Bool, true, ◌&&◌, T, inl, inr, arith, eq-zero-or-pos}
use lib.Ieee.Fits.{and_l, and_r}

-- the test holds of each number below a bound
abbrev pub all_below : (ℕ → Bool) → ℕ → Bool
all_below test zero = true
all_below test (suc p) = test p && all_below test p

pub one_below : (test : ℕ → Bool) (n p : ℕ) → T (all_below test n) → p < n → T (test p)
one_below test zero p t h = absurd (omega arith)
one_below test (suc n) p t h =
    elim (eq-zero-or-pos (n - p)) [
      | inl z ↦ let e : p ≡ n = omega arith in rw e (and_l _ (all_below test n) t)
      | inr g ↦ one_below test n p (and_r _ (all_below test n) t) (omega arith)
    ]
