-- Facts on booleans that the proofs of the spanning tree's crates share.
use Rattle.std.proofs.Common.{◌≡◌, Bool, true, false, ◌&&◌, refl}

-- false isn't true
pub no : {A : Type 0} → false ≡ true → A
no h = let e : ⊥ = cc in absurd e

-- the first of two
pub and_left : (a b : Bool) → a && b ≡ true → a ≡ true
and_left true b h = refl
and_left false b h = no h

-- the second of two
pub and_right : (a b : Bool) → a && b ≡ true → b ≡ true
and_right true b h = h
and_right false b h = no h

-- not both, and the first
pub and_second_off : (a b : Bool) → a && b ≡ false → a ≡ true → b ≡ false
and_second_off true b h k = h
and_second_off false b h k = no k
