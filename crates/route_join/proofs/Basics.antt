-- Facts on lists that several proofs share.
use Rattle.std.proofs.Common.{◌≡◌, ℕ, ◌∙◌, List, [], ◌∷◌, ◌++◌, Contains, refl, lit<, lit≤, arith}
use Rattle.std.specs.List.{IsDistinct}
use Rattle.route_wire.specs.Fields.{Fields}
use Rattle.route_join.specs.Table.{AreOriginators}

-- one originator
pub one_originator : (o : ℕ) → AreOriginators (o ∷ [])
unfolding IsDistinct
one_originator o = record { some = lit< tt; few = lit≤ tt; distinct = (tt, tt) }

-- a list with one more at its end
pub pushed : (xs ys new : List ℕ) (a b : ℕ) → new ≡ xs ++ a ∷ [] → xs ≡ ys → a ≡ b → new ≡ ys ++ b ∷ []
pushed xs ys new a b e p q = e ∙ λ i. p i ++ q i ∷ []

-- the first of a list is in it
pub first_there : (u : Fields) (us : List Fields) → Contains (u ∷ us) u
first_there u us = (0, omega arith, refl)
