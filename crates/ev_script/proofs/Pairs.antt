-- Octets that pairs of hexadecimal digits spell.
use Rattle.std.proofs.Common.{◌≡◌, ℕ, ◌<◌, ◌≤◌, List, [], ◌∷◌, length, get_or, drop, refl, arith}
use Rattle.ev_script.specs.Script.{octet_of, octets_of}

octets_pair : (s : List ℕ) → 2 ≤ length s → octets_of s ≡ octet_of (get_or s 0 0) (get_or s 1 0) ∷ octets_of (drop 2 s)
octets_pair [] h = absurd (omega arith)
octets_pair (x ∷ []) h = absurd (omega arith)
octets_pair (x ∷ y ∷ s) h = refl

octets_short : (s : List ℕ) → length s < 2 → octets_of s ≡ []
octets_short [] h = refl
octets_short (x ∷ []) h = refl
octets_short (x ∷ y ∷ s) h = absurd (omega arith)
