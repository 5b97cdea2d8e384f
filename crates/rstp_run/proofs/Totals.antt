-- Sums over the ports of a bridge, and what changes of ports do to them.
use Rattle.rstp_run.proofs.Basics.{Effect, Number, Off, On}
use Rattle.rstp_run.proofs.Names.{[], arith, Bool, enumerate_from, false, List, list_any, map, None, Option, PortState}
use Rattle.rstp_run.proofs.Names.{refl, Some, slice_get, slice_set, telling_others, test_at, true, with_propagation, ℕ}
use Rattle.rstp_run.proofs.Names.{◌+◌, ◌||◌, ◌∷◌, ◌≡◌, ◌≤◌}
use Rattle.std.proofs.lemmas.Option.{slice_get-map as map_at}

-- the sum of a number of each port
abbrev pub total : Number → List PortState → ℕ
total f [] = 0
total f (port ∷ ports) = f port + total f ports

-- a number that is 0 unless the condition holds
abbrev pub if_so : ℕ → Bool → ℕ
if_so n true = n
if_so n false = 0

module _ (n : ℕ) (b : Bool) where
  pub if_so-on : On b → if_so n b ≡ n
  if_so-on h = grind arith

  pub if_so-off : Off b → if_so n b ≡ 0
  if_so-off h = grind arith

  pub if_so-le : if_so n b ≤ n
  if_so-le = grind arith

-- each port changes by its place, and its number falls by 1 if the port has the mark
pub total-marks : (f : Number) (mark : PortState → Bool) (does : ℕ × PortState → PortState)
    → ((e : ℕ × PortState) → f (does e) + if_so 1 (mark e.1) ≤ f e.1) → (n : ℕ) (ports : List PortState)
    → total f (map does (enumerate_from n ports)) + if_so 1 (list_any mark ports) ≤ total f ports
total-marks f mark does falls n [] = omega arith
total-marks f mark does falls n (x ∷ xs) =
    let first : f (does (n, x)) + if_so 1 (mark x) ≤ f x = falls (n, x) in
    omega (arith, first, total-marks f mark does falls (n + 1) xs, either (mark x) (list_any mark xs))
  where
    either : (a b : Bool) → if_so 1 (a || b) ≤ if_so 1 a + if_so 1 b
    either true b = omega arith
    either false b = omega arith

-- the port of a test that holds
pub tested_at : (test : PortState → Bool) (ports : List PortState) (p : ℕ) → On (test_at p test ports)
    → (port : PortState) × (slice_get ports p ≡ Some port) × (On (test port))
tested_at test ports p h = go (slice_get ports p) refl
  where
    go : (o : Option PortState) → slice_get ports p ≡ o
        → (port : PortState) × (slice_get ports p ≡ Some port) × (On (test port))
    go None at = (let e = rw at at h in cc)
    go (Some port) at = (port, at, rw at at h)

pub slice_get-map : (does : Effect) (ports : List PortState) (p : ℕ) (port : PortState)
    → slice_get ports p ≡ Some port → slice_get (map does ports) p ≡ Some (does port)
slice_get-map does ports p port at = rw (map_at does ports p, at)

-- one port changes and tells all others
pub told : (p : ℕ) (does : Effect) (ports : List PortState) (port : PortState)
    → slice_get ports p ≡ Some port
    → telling_others p does ports ≡ slice_set (map with_propagation ports) p (does port)
told p does ports port at = rw at
