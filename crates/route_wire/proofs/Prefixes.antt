-- More octets do not change the result for a fault or a whole record, and they continue a proper beginning of one.
use Rattle.std.proofs.Common.{◌≡◌, ◌≢◌, ◌⊎◌, inl, inr, ℕ, ◌+◌, ◌≤◌, Bool, true, false, not, ◌&&◌, ◌||◌, ◌==◌, nat_lt}
use Rattle.std.proofs.Common.{List, ◌∷◌, ◌++◌, length, take, drop, slice_index, Option, Some, None, refl, sym, ap, ◌∙◌}
use Rattle.std.proofs.Common.{arith, length-append}
use Rattle.std.proofs.lemmas.Bool.{cases_lt, both_ways}
use Rattle.std.proofs.lemmas.Bool.Decides.{nat_tests}
use Rattle.std.proofs.lemmas.List.{length-take-le, take-append-drop}
use Rattle.route_wire.specs.declared.stream.Whole.{Whole}
use Rattle.route_wire.specs.declared.stream.Whole.TheVariants.{Rest, Fault, Length}
use Rattle.route_wire.specs.Stream.{follow_of, least_of, fault_of, whole_or_rest, whole_up_to, whole_of, IsWhole}
use Rattle.route_wire.specs.Stream.{FindsWhole}
use Rattle.route_wire.specs.Feed.{is_rest, IsHeld}
use Rattle.route_wire.proofs.Wholes.{fault_by, whole_by, ends_whole, found_long}

-- ---- faults
-- the fault that the first l octets show
abbrev fault_within : ℕ → ℕ → List ℕ → Option ℕ
fault_within newest l s =
    fault_by l (not (slice_index s 0 == 0x45)) (not (slice_index s 1 == 0x56))
    (slice_index s 2 == 0 || nat_lt newest (slice_index s 2))
    (not (slice_index s 3 == 1) && not (slice_index s 3 == 2))
    (nat_lt (follow_of s) (least_of s) || nat_lt 512 (follow_of s))

within : (newest : ℕ) (s more : List ℕ) → fault_within newest (length s) (s ++ more) ≡ fault_of newest s
within newest (a ∷ b ∷ c ∷ d ∷ e ∷ f ∷ s) more = refl
within newest s more = refl

decided : (l k : ℕ) (a b c d e : Bool) → l ≤ k → (6 ≤ l) ⊎ (fault_by l a b c d e ≢ None)
    → fault_by k a b c d e ≡ fault_by l a b c d e
decided l k a b c d e le h = grind (arith, nat_tests)

-- six octets decide the fault, and so do those that show it
same_fault : (newest : ℕ) (s more : List ℕ) → (6 ≤ length s) ⊎ (fault_of newest s ≢ None)
    → fault_of newest (s ++ more) ≡ fault_of newest s
same_fault newest s more h =
    let decides = rw (← within newest s more) at h in
    decided (length s) (length (s ++ more)) _ _ _ _ _ (omega (arith, length-append {A = ℕ})) decides
    ∙ within newest s more

same_follow : (s more : List ℕ) → 6 ≤ length s → follow_of (s ++ more) ≡ follow_of s
same_follow (a ∷ b ∷ c ∷ d ∷ e ∷ f ∷ s) more six = refl
same_follow s more six = absurd (omega arith)

-- ---- faults and whole records
ended : (l k n : ℕ) → l ≤ k → 6 ≤ n → is_rest (whole_by l n) ≡ false → (n ≤ l) × (whole_by k n ≡ whole_by l n)
ended l k n le six h = grind (arith, nat_tests)

stays : (s t : List ℕ) (o : Option ℕ) → length s ≤ length t → (6 ≤ length s → follow_of t ≡ follow_of s)
    → is_rest (whole_or_rest s o) ≡ false
    → ((6 ≤ length s) ⊎ (o ≢ None)) × (whole_or_rest t o ≡ whole_or_rest s o)
stays s t (Some f) le follow h = (inr (λ e. cc), refl)
stays s t None le follow h =
    let e = ended (length s) (length t) (6 + follow_of s) le (omega arith) h in
    (inl (omega arith), rw (follow (omega arith)) e.1)

-- the result is the same after more octets, unless it is a proper beginning
pub settled : (newest : ℕ) (s more : List ℕ) → is_rest (whole_up_to newest s) ≡ false
    → whole_up_to newest (s ++ more) ≡ whole_up_to newest s
settled newest s more h =
    let e = stays s (s ++ more) (fault_of newest s) (omega (arith, length-append {A = ℕ})) (same_follow s more) h in
    ap (whole_or_rest (s ++ more)) (same_fault newest s more e.0) ∙ e.1

pub whole_followed : (newest : ℕ) (s more : List ℕ) (n : ℕ) → whole_up_to newest s ≡ Length n
    → whole_up_to newest (s ++ more) ≡ Length n
whole_followed newest s more n h = settled newest s more (ap is_rest h) ∙ h

exact : (n : ℕ) → 6 ≤ n → whole_by n n ≡ Length n
exact n six = grind (arith, nat_tests)

-- the whole record that a stream begins with is one whole record
pub whole_front : (newest : ℕ) (s : List ℕ) (n : ℕ) → whole_up_to newest s ≡ Length n
    → whole_up_to newest (take n s) ≡ Length (length (take n s))
whole_front newest s n h =
    let e = ends_whole s (fault_of newest s) n h in
    let len = length-take-le n s (omega arith) in
    let fault = rw take-append-drop at (same_fault newest (take n s) (drop n s) (inl (omega arith))) in
    let follow = rw take-append-drop at (same_follow (take n s) (drop n s) (omega arith)) in
    let all : 6 + follow_of (take n s) ≡ length (take n s) = omega arith in
    ap (whole_or_rest (take n s)) (sym fault ∙ e.0) ∙ rw all (exact (length (take n s)) (omega arith))

-- a whole record that is found is at the front of the stream
pub finds_whole : (s : List ℕ) (w : Whole) → w ≡ whole_of s → FindsWhole s w
finds_whole s Rest h = tt
finds_whole s (Fault f) h = tt
finds_whole s (Length n) h =
    let l = found_long 3 s n (sym h) in (omega arith, l.3, whole_front 3 s n (sym h))

older : (l newest version : ℕ) (a b d e : Bool) → newest ≤ 3
    → fault_by l a b (version == 0 || nat_lt newest version) d e ≡ None
    → fault_by l a b (version == 0 || nat_lt 3 version) d e ≡ None
older l newest version a b d e le h = grind (arith, nat_tests)

-- a record that is whole for versions up to `newest` is whole for all versions
pub whole_of_all : (newest : ℕ) (s : List ℕ) → newest ≤ 3 → whole_up_to newest s ≡ Length (length s) → IsWhole s
whole_of_all newest s le h =
    let none = (ends_whole s (fault_of newest s) (length s) h).0 in
    ap (whole_or_rest s) (older (length s) newest (slice_index s 2) _ _ _ _ le none ∙ sym none) ∙ h

-- ---- proper beginnings
unfaulty : (s : List ℕ) (o : Option ℕ) → is_rest (whole_or_rest s o) ≡ true → o ≡ None
unfaulty s (Some f) h = cc
unfaulty s None h = refl

reached : (l m : ℕ) → 6 ≤ l → is_rest (whole_by l m) ≡ nat_lt l m
reached l m six = grind (arith, nat_tests)

-- a record continues after its first octets until its length is reached
pub goes_on : (newest : ℕ) (s t : List ℕ) → 6 ≤ length s → is_rest (whole_up_to newest s) ≡ true
    → is_rest (whole_up_to newest (s ++ t)) ≡ nat_lt (length s + length t) (6 + follow_of s)
goes_on newest s t six rest =
    rw (same_fault newest s t (inl six), unfaulty s (fault_of newest s) rest, same_follow s t six, length-append)
    (reached (length s + length t) (6 + follow_of s) (omega arith))

-- if a record is held whole, no other octets are held
pub held_whole : (newest : ℕ) (s : List ℕ) (n : ℕ) → IsHeld newest s → whole_up_to newest s ≡ Length n
    → whole_up_to newest s ≡ Length (length s)
held_whole newest s n held h = elim (cases_lt n (length s)) [
  | inl less ↦ absurd (both_ways _ (ap is_rest (whole_front newest s n h)) (held n less))
  | inr le ↦ h ∙ ap Length (omega (arith, (found_long newest s n h).3))
]
