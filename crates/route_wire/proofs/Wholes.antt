-- How long a whole record is.
use Rattle.std.proofs.Common.{◌≡◌, ℕ, ◌+◌, ◌≤◌, Bool, ◌&&◌, ◌||◌, ◌==◌, nat_lt, cond, List, length, slice_index}
use Rattle.std.proofs.Common.{Option, Some, None, refl, arith}
use Rattle.std.proofs.lemmas.Bool.Decides.{nat_tests}
use Rattle.route_wire.specs.declared.stream.Whole.{Whole}
use Rattle.route_wire.specs.declared.stream.Whole.TheVariants.{Rest, Length}
use Rattle.route_wire.specs.Stream.{follow_of, fault_of, whole_or_rest, whole_up_to, IsWhole}
use Rattle.route_wire.specs.Record.{route_place}

-- the fault of a stream of l octets, by the tests of its octets
abbrev pub fault_by : ℕ → Bool → Bool → Bool → Bool → Bool → Option ℕ
fault_by l a b c d e =
    cond (nat_lt 0 l && a) (Some 1) (cond (nat_lt 1 l && b) (Some 1) (cond (nat_lt 2 l && c) (Some 2)
    (cond (nat_lt 3 l && d) (Some 3) (cond (nat_lt 5 l && e) (Some 4) None))))

-- the result for l octets without a fault, of a record of n octets
abbrev pub whole_by : ℕ → ℕ → Whole
whole_by l n = cond (nat_lt l 6) Rest (cond (nat_lt l n) Rest (Length n))

ends_at : (l m n : ℕ) → whole_by l m ≡ Length n → (m ≤ l) × (m ≡ n)
ends_at l m n h = grind (arith, nat_tests)

pub ends_whole : (s : List ℕ) (o : Option ℕ) (n : ℕ) → whole_or_rest s o ≡ Length n
    → (o ≡ None) × (6 + follow_of s ≤ length s) × (6 + follow_of s ≡ n)
ends_whole s (Some f) n h = cc
ends_whole s None n h = let e = ends_at (length s) (6 + follow_of s) n h in (refl, e.0, e.1)

-- the version and the last test bound the length
bounds : (l version follow : ℕ) (a b c d : Bool) → 6 + follow ≤ l
    → fault_by l a b c d (nat_lt follow (cond (version == 1) 15 19) || nat_lt 512 follow) ≡ None
    → (15 ≤ follow) × (cond (version == 1) 21 25 ≤ 6 + follow) × (follow ≤ 512)
bounds l version follow a b c d fits h = grind (arith, nat_tests)

-- how long the whole record at the front of a stream is
pub found_long : (newest : ℕ) (s : List ℕ) (n : ℕ) → whole_up_to newest s ≡ Length n
    → (21 ≤ n) × (route_place s ≤ n) × (n ≤ 518) × (n ≤ length s)
found_long newest s n h =
    let e = ends_whole s (fault_of newest s) n h in
    let b = bounds (length s) (slice_index s 2) (follow_of s) _ _ _ _ e.1 e.0 in
    omega arith

pub whole_long : (s : List ℕ) → IsWhole s → (21 ≤ length s) × (route_place s ≤ length s)
whole_long s h = let e = found_long 3 s (length s) h in (e.0, e.1)
