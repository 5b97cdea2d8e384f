-- The table of hexadecimal digits has the two of each octet at its place.
use Rattle.std.proofs.Common.{◌≡◌, ℕ, ◌+◌, ◌*◌, ◌/◌, ◌%◌, ◌<◌, Bool, false, ◌&&◌, eqb, get_or}
use Rattle.std.proofs.Common.{eqb→eq}
use Rattle.std.specs.Fmt.{digit_glyph}
use lib.Ieee.Fits.{and_l, and_r}
use Rattle.ether_wire.specs.declared.text.TheConstants.{HEX_PAIRS}
use Rattle.ether_wire.proofs.AllBelow.{one_below}

are_both : ℕ → Bool
are_both p = eqb (get_or HEX_PAIRS (2 * p) 0) (digit_glyph false (p / 16))
    && eqb (get_or HEX_PAIRS (2 * p + 1) 0) (digit_glyph false (p % 16))

pub high_at : (p : ℕ) → p < 256 → get_or HEX_PAIRS (2 * p) 0 ≡ digit_glyph false (p / 16)
unfolding are_both
high_at p h = eqb→eq _ _ (and_l _ (eqb (get_or HEX_PAIRS (2 * p + 1) 0) (digit_glyph false (p % 16)))
    (one_below are_both 256 p tt h))

pub low_at : (p : ℕ) → p < 256 → get_or HEX_PAIRS (2 * p + 1) 0 ≡ digit_glyph false (p % 16)
unfolding are_both
low_at p h = eqb→eq _ _ (and_r (eqb (get_or HEX_PAIRS (2 * p) 0) (digit_glyph false (p / 16))) _
    (one_below are_both 256 p tt h))
