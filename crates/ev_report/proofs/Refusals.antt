-- Refusals of a whole record are numbered below 15, so that none is for memory: only a table refuses an update so.
use Rattle.std.proofs.Common.{◌≡◌, ℕ, ◌<◌, Bool, true, false, ◌==◌, List, [], ◌∷◌, Option, Some, None, Result, Ok, Err}
use Rattle.std.proofs.Common.{refl, sym, ap, ◌∙◌, arith}
use Rattle.std.proofs.lemmas.Bool.Decides.{nat_tests}
use Rattle.route_wire.specs.declared.stream.Whole.{Whole}
use Rattle.route_wire.specs.declared.stream.Whole.TheVariants.{Rest, Fault, Length}
use Rattle.route_wire.specs.declared.stream.Next.TheVariants.{Refused}
use Rattle.route_wire.specs.Fields.{Fields}
use Rattle.ether_wire.specs.Frame.{first_of}
use Rattle.route_wire.specs.Refusal.{refusal_of}
use Rattle.route_wire.specs.Record.{reading, header_in, route_of, update_in, unless_refused}
use Rattle.route_wire.specs.Feed.{next_by, answer_of}

below : (a b c d e f g h : Bool) (r : ℕ) → first_of ((a, 5) ∷ (b, 6) ∷ (c, 7) ∷ (d, 8) ∷ (e, 9) ∷ (f, 10) ∷ (g, 11)
    ∷ (h, 14) ∷ []) ≡ Some r → r < 15
below true b c d e f g h r k = let is : 5 ≡ r = cc in omega arith
below false true c d e f g h r k = let is : 6 ≡ r = cc in omega arith
below false false true d e f g h r k = let is : 7 ≡ r = cc in omega arith
below false false false true e f g h r k = let is : 8 ≡ r = cc in omega arith
below false false false false true f g h r k = let is : 9 ≡ r = cc in omega arith
below false false false false false true g h r k = let is : 10 ≡ r = cc in omega arith
below false false false false false false true h r k = let is : 11 ≡ r = cc in omega arith
below false false false false false false false true r k = let is : 14 ≡ r = cc in omega arith
below false false false false false false false false r k = cc

refused : (o : Option ℕ) (u : Fields) (r : ℕ) → unless_refused o u ≡ Err r → o ≡ Some r
refused None u r k = cc
refused (Some x) u r k = cc

refusal_below : (bytes : List ℕ) (r : ℕ) → reading bytes ≡ Err r → r < 15
unfolding reading
refusal_below bytes r k = below _ _ _ _ _ _ _ _ r (refused (refusal_of (header_in bytes) (route_of bytes))
    (update_in (header_in bytes) (route_of bytes)) r k)

pub refused_below : (w : Whole) (rest : List ℕ) (r : ℕ) → Refused r ≡ next_by w rest → r < 15
refused_below Rest rest r k = cc
refused_below (Fault f) rest r k = cc
refused_below (Length n) rest r k = go (reading rest) refl k
  where
    go : (x : Result Fields ℕ) → reading rest ≡ x → Refused r ≡ answer_of x → r < 15
    go (Ok u) e k = cc
    go (Err y) e k = let same : r ≡ y = cc in refusal_below rest r (e ∙ ap Err (sym same))

pub refused_otherwise : (w : Whole) (rest : List ℕ) (r : ℕ) → Refused r ≡ next_by w rest → (r == 15) ≡ false
refused_otherwise w rest r k = let less = refused_below w rest r k in grind (arith, nat_tests)
