-- The table of decimal digits has the two of each number below 100 at its place.
use Rattle.std.proofs.Common.{◌≡◌, ℕ, ◌+◌, ◌*◌, ◌/◌, ◌%◌, ◌<◌, Bool, ◌&&◌, eqb, get_or}
use Rattle.std.proofs.Common.{eqb→eq}
use lib.Ieee.Fits.{and_l, and_r}
use Rattle.ether_wire.specs.declared.text.TheConstants.{DECIMAL_PAIRS}
use Rattle.ether_wire.proofs.AllBelow.{one_below}

are_both : ℕ → Bool
are_both p = eqb (get_or DECIMAL_PAIRS (2 * p) 0) (48 + p / 10 % 10)
    && eqb (get_or DECIMAL_PAIRS (2 * p + 1) 0) (48 + p % 10)

pub tens_at : (p : ℕ) → p < 100 → get_or DECIMAL_PAIRS (2 * p) 0 ≡ 48 + p / 10 % 10
unfolding are_both
tens_at p h = eqb→eq _ _ (and_l _ (eqb (get_or DECIMAL_PAIRS (2 * p + 1) 0) (48 + p % 10))
    (one_below are_both 100 p tt h))

pub ones_at : (p : ℕ) → p < 100 → get_or DECIMAL_PAIRS (2 * p + 1) 0 ≡ 48 + p % 10
unfolding are_both
ones_at p h = eqb→eq _ _ (and_r (eqb (get_or DECIMAL_PAIRS (2 * p) 0) (48 + p / 10 % 10)) _
    (one_below are_both 100 p tt h))
