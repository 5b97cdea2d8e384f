-- Sets of ports, port by port.
use Rattle.std.proofs.Common.{◌≡◌, ◌≢◌, ℕ, zero, suc, ◌+◌, ◌-◌, ◌*◌, ◌/◌, ◌%◌, ◌^◌, ◌<◌, ◌≤◌, min, max, Bool, true}
use Rattle.std.proofs.Common.{false, not, cond, ◌&&◌, ◌||◌, ◌==◌, List, [], ◌∷◌, filter, length, Contains, inl, inr}
use Rattle.std.proofs.Common.{refl, sym, ap, ◌∙◌, arith}
use Rattle.std.proofs.lemmas.Bool.Decides.{eqb_tells, leb_tells, nat_tests}
use Rattle.std.proofs.lemmas.Bool.{eqb-true, eq-eqb, false_from_ne_true, true≢false}
use Rattle.std.proofs.lemmas.List.Elements.{All-contains, All-contains_itself, All-filter, filter_passes}
use Rattle.std.proofs.lemmas.List.Elements.{Contains-append_right}
use Rattle.std.proofs.lemmas.List.FromFn.{length-range_with_len, get_or-range_with_len}
use Rattle.std.proofs.lemmas.List.Kept.{IsStrictlyIncreasing-filter}
use Rattle.std.proofs.lemmas.Nat.Bits.{bit_at_and, bit_at_or, bit_at-pow_same, bit_at-pow_other, bit_at_not, bit_at-lt}
use Rattle.std.proofs.lemmas.Nat.Bits.{bit_at-zero, bit_at_above, same_from_bits_below, bit_at-trailing_zeros}
use Rattle.std.proofs.Math.Nat.{div-div-eq-div-mul, div-le_self, mod-eq_of_lt}
use Rattle.std.proofs.lemmas.Nat.{pow-add}
use Rattle.std.proofs.Math.Pow.{pow-lt}
use Rattle.std.specs.Int.{bit_at, bit_not, w64, trailing_zeros}
use Rattle.std.specs.List.{range_with_len}
use Rattle.std.specs.List.Sorted.{IsStrictlyIncreasing}
use Rattle.ether_wire.specs.Ports.{IsPort, IsNextPort, has_port, with_port, without_port, common_ports, ports_after}
use Rattle.ether_wire.specs.Ports.{ports_of, ArePortsOf}

-- a port's bit
pub has_port-bit : (set p : ℕ) → 1 ≤ p → has_port set p ≡ (bit_at set (p - 1) == 1)
unfolding has_port
has_port-bit set zero h = absurd (omega arith)
has_port-bit set (suc bit) h = (λ i. bit_at set (same i) == 1)
  where
    same : bit ≡ suc bit - 1
    same = omega arith

pub has_port-none : (p : ℕ) → has_port 0 p ≡ false
unfolding has_port
has_port-none zero = refl
has_port-none (suc bit) = ap (λ b. b == 1) (bit_at-zero bit)

-- a set of 64 bits has no port above 64
pub has_port-above : (set p : ℕ) → set < 2 ^ 64 → 64 < p → has_port set p ≡ false
unfolding has_port
has_port-above set zero small h = refl
has_port-above set (suc bit) small h = ap (λ b. b == 1) (bit_at_above set 64 bit small (omega arith))

-- of two bits: the greater is 1 where one of them is, the lesser where both are
max_is : (a b : ℕ) → a < 2 → b < 2 → (max a b == 1) ≡ (a == 1 || b == 1)
max_is a b h k = grind (arith, nat_tests)

min_is : (a b : ℕ) → a < 2 → b < 2 → (min a b == 1) ≡ (a == 1 && b == 1)
min_is a b h k = grind (arith, nat_tests)

pub has_port-common : (set other p : ℕ) → has_port (common_ports set other) p ≡ (has_port set p && has_port other p)
unfolding has_port common_ports
has_port-common set other zero = refl
has_port-common set other (suc bit) = ap (λ b. b == 1) (bit_at_and set other bit)
    ∙ min_is (bit_at set bit) (bit_at other bit) (bit_at-lt set bit) (bit_at-lt other bit)

-- a number with only the bit of one port
only_bit : (p bit : ℕ) → 1 ≤ p → (bit_at (2 ^ (p - 1)) bit == 1) ≡ (p == suc bit)
only_bit p bit least = elim (eqb_tells bit (p - 1)) [
  | inl same ↦ ap (λ k. bit_at (2 ^ (p - 1)) k == 1) same.1 ∙ ap (λ b. b == 1) (bit_at-pow_same (p - 1))
      ∙ sym (eq-eqb p (suc bit) (let e = same.1 in omega arith))
  | inr other ↦ ap (λ b. b == 1) (bit_at-pow_other (p - 1) bit other.1)
      ∙ sym (false_from_ne_true (p == suc bit) (λ is. other.1 (let e = eqb-true p (suc bit) is in omega arith)))
]

or_turned : (a b : Bool) → (a || b) ≡ (b || a)
or_turned true true = refl
or_turned true false = refl
or_turned false true = refl
or_turned false false = refl

and_turned : (a b : Bool) → (a && b) ≡ (b && a)
and_turned true true = refl
and_turned true false = refl
and_turned false true = refl
and_turned false false = refl

not_zero : (p : ℕ) → 1 ≤ p → (p == 0) ≡ false
not_zero p least = false_from_ne_true (p == 0) (λ is. let e = eqb-true p 0 is in absurd (omega (arith, e)))

pub has_port-with : (set p : ℕ) → IsPort p → (q : ℕ) → has_port (with_port set p) q ≡ (p == q || has_port set q)
unfolding has_port with_port
has_port-with set p h zero = sym (ap (λ b. b || false) (not_zero p h.least))
has_port-with set p h (suc bit) =
    ap (λ b. b == 1) (bit_at_or set (2 ^ (p - 1)) bit)
    ∙ max_is (bit_at set bit) (bit_at (2 ^ (p - 1)) bit) (bit_at-lt set bit) (bit_at-lt (2 ^ (p - 1)) bit)
    ∙ ap (λ b. bit_at set bit == 1 || b) (only_bit p bit h.least)
    ∙ or_turned (bit_at set bit == 1) (p == suc bit)

-- the bits of all ports but one
others_bit : (p bit : ℕ) → IsPort p → bit < 64 → (bit_at (bit_not w64 (2 ^ (p - 1))) bit == 1) ≡ not (p == suc bit)
others_bit p bit h low =
    let small : 2 ^ (p - 1) < 2 ^ 64 = pow-lt {i = p - 1} {j = 64} (let a = h.least in let b = h.most in omega arith) in
    ap (λ b. b == 1) (bit_at_not w64 (2 ^ (p - 1)) bit small low)
    ∙ turned (bit_at (2 ^ (p - 1)) bit) (bit_at-lt (2 ^ (p - 1)) bit)
    ∙ ap not (only_bit p bit h.least)
  where
    turned : (b : ℕ) → b < 2 → (1 - b == 1) ≡ not (b == 1)
    turned b h = grind (arith, nat_tests)

pub has_port-without : (set p : ℕ) → set < 2 ^ 64 → IsPort p → (q : ℕ)
    → has_port (without_port set p) q ≡ (not (p == q) && has_port set q)
unfolding has_port without_port
has_port-without set p small h zero = and_turned false (not (p == 0))
has_port-without set p small h (suc bit) =
    ap (λ b. b == 1) (bit_at_and set (bit_not w64 (2 ^ (p - 1))) bit)
    ∙ min_is (bit_at set bit) (bit_at (bit_not w64 (2 ^ (p - 1))) bit) (bit_at-lt set bit)
    (bit_at-lt (bit_not w64 (2 ^ (p - 1))) bit)
    ∙ elim (leb_tells 64 bit) [
      | inr low ↦ ap (λ b. bit_at set bit == 1 && b) (others_bit p bit h low.1)
          ∙ and_turned (bit_at set bit == 1) (not (p == suc bit))
      | inl high ↦
          let gone : (bit_at set bit == 1) ≡ false = ap (λ b. b == 1) (bit_at_above set 64 bit small high.1) in
          ap (λ b. b && (bit_at (bit_not w64 (2 ^ (p - 1))) bit == 1)) gone ∙ and_turned false (not (p == suc bit))
          ∙ ap (λ b. not (p == suc bit) && b) (sym gone)
    ]

pub same_ports : (set other : ℕ) → set < 2 ^ 64 → other < 2 ^ 64
    → ((p : ℕ) → IsPort p → has_port set p ≡ has_port other p) → set ≡ other
unfolding has_port
same_ports set other h k same = same_from_bits_below 64 set other h k (λ bit low.
    let is = same (suc bit) (record { least = omega arith; most = omega arith }) in
    let a = bit_at-lt set bit in
    let b = bit_at-lt other bit in
    grind (arith, nat_tests))

-- ---- the ports in ascending order

-- no port from a on
none_from : (set a n : ℕ) → ((q : ℕ) → a ≤ q → has_port set q ≡ false) → filter (has_port set) (range_with_len a n) ≡ []
none_from set a zero none = refl
none_from set a (suc n) none = rw (none a (omega arith)) (none_from set (a + 1) n (λ q h. none q (omega arith)))

-- p is the first of them from a on
first_from : (set a n p : ℕ) → a ≤ p → p < a + n → ((q : ℕ) → a ≤ q → q < p → has_port set q ≡ false)
    → has_port set p ≡ true
    → filter (has_port set) (range_with_len a n) ≡ p ∷ filter (has_port set) (range_with_len (p + 1) (a + n - (p + 1)))
first_from set a zero p low high none there = absurd (omega arith)
first_from set a (suc n) p low high none there = elim (eqb_tells a p) [
  | inl same ↦
      let is : has_port set a ≡ true = ap (has_port set) same.1 ∙ there in
      let size : n ≡ a + suc n - (p + 1) = (let e = same.1 in omega arith) in
      rw is (λ i. same.1 i ∷ filter (has_port set) (range_with_len (same.1 i + 1) (size i)))
  | inr other ↦
      let below : a + 1 ≤ p = (let e = other.1 in omega arith) in
      let size : a + 1 + n - (p + 1) ≡ a + suc n - (p + 1) = omega arith in
      rw (none a (omega arith) (omega arith)) (first_from set (a + 1) n p below (omega arith)
      (λ q h k. none q (omega arith) k) there ∙ (λ i. p ∷ filter (has_port set) (range_with_len (p + 1) (size i))))
]

-- the bits of a number without its lowest ones
bit_at-later : (set after bit : ℕ) → bit_at (set / 2 ^ after) bit ≡ bit_at set (after + bit)
bit_at-later set after bit = (λ i. div-div-eq-div-mul set (2 ^ after) (2 ^ bit) i % 2)
    ∙ (λ i. set / sym (pow-add 2 after bit) i % 2)

-- a port after a number, in the set without the lowest bits
has_port-later : (set after bit : ℕ) → has_port set (after + 1 + bit) ≡ (bit_at (set / 2 ^ after) bit == 1)
has_port-later set after bit =
    let place : after + 1 + bit - 1 ≡ after + bit = omega arith in
    has_port-bit set (after + 1 + bit) (omega arith) ∙ ap (λ k. bit_at set k == 1) place
    ∙ sym (ap (λ b. b == 1) (bit_at-later set after bit))

pub none_after : (set after : ℕ) → set < 2 ^ 64 → set / 2 ^ after ≡ 0 → ports_after set after ≡ []
unfolding ports_after has_port
none_after set after small h = none_from set (after + 1) (64 - after) (λ q above.
    let place : q ≡ after + 1 + (q - (after + 1)) = omega arith in
    ap (has_port set) place ∙ has_port-later set after (q - (after + 1)) ∙ ap (λ n. bit_at n (q - (after + 1)) == 1) h
    ∙ ap (λ b. b == 1) (bit_at-zero (q - (after + 1))))

pub all_passed : (set after : ℕ) → 64 ≤ after → ports_after set after ≡ []
unfolding ports_after
all_passed set after h = (λ i. filter (has_port set) (range_with_len (after + 1) (none i)))
  where
    none : 64 - after ≡ 0
    none = omega arith

pub next_is : (set after : ℕ) → set < 2 ^ 64 → after < 64 → set / 2 ^ after ≢ 0
    → IsNextPort set after (after + 1 + trailing_zeros w64 (set / 2 ^ after))
unfolding ports_after has_port
next_is set after small low some =
    let rest : ℕ = set / 2 ^ after in
    let zeros : ℕ = trailing_zeros w64 rest in
    let lowest = bit_at-trailing_zeros w64 rest (omega (arith, some))
    (omega (arith, div-le_self set (2 ^ after), small)) in
    let there : has_port set (after + 1 + zeros) ≡ true = has_port-later set after zeros ∙ ap (λ b. b == 1) lowest.1 in
    let most : after + 1 + zeros ≤ 64 = elim (leb_tells 65 (after + 1 + zeros)) [
      | inl high ↦ absurd (true≢false (sym there ∙ has_port-above set (after + 1 + zeros) small high.1))
      | inr low ↦ omega (arith, low.1)
    ] in
    let first = first_from set (after + 1) (64 - after) (after + 1 + zeros) (omega arith) (omega (arith, most, low))
    (λ q above below.
    let place : q ≡ after + 1 + (q - (after + 1)) = omega arith in
    ap (has_port set) place ∙ has_port-later set after (q - (after + 1))
    ∙ ap (λ b. b == 1) (lowest.2 (q - (after + 1)) (omega (arith, above, below)))) there in
    let size : after + 1 + (64 - after) - (after + 1 + zeros + 1) ≡ 64 - (after + 1 + zeros) = omega (arith, low) in
    record {
      port = record { least = omega arith; most = most };
      later = omega arith;
      there = there;
      rest = first ∙ (λ i. (after + 1 + zeros) ∷ filter (has_port set)
          (range_with_len (after + 1 + zeros + 1) (size i)));
    }

-- the value of `1 << (p - 1)`
pub shifted_one : (p : ℕ) → IsPort p → 1 * 2 ^ (p - 1) % 2 ^ 64 ≡ 2 ^ (p - 1)
shifted_one p h =
    let one : 1 * 2 ^ (p - 1) ≡ 2 ^ (p - 1) = omega arith in
    ap (λ n. n % 2 ^ 64) one ∙ mod-eq_of_lt (pow-lt {i = p - 1} {j = 64} (let a = h.least in let b = h.most in
    omega arith))

Contains-range : (a n p : ℕ) → a ≤ p → p < a + n → Contains (range_with_len a n) p
Contains-range a n p low high = (
  p - a,
  rw length-range_with_len (omega arith),
  get_or-range_with_len a n (p - a) p (omega arith) ∙ omega arith,
)

in_range : (a n p : ℕ) → Contains (range_with_len a n) p → (a ≤ p) × (p < a + n)
in_range a n p (k, below, at) =
    let within : k < n = rw length-range_with_len at below in
    let is : p ≡ a + k = sym at ∙ get_or-range_with_len a n k p within in
    (omega (arith, is), omega (arith, is, within))

rising : (a n : ℕ) → IsStrictlyIncreasing (range_with_len a n)
rising a n k below =
    let within : k + 1 < n = rw length-range_with_len at below in
    let here = get_or-range_with_len a n k 0 (omega (arith, within)) in
    let next = get_or-range_with_len a n (k + 1) 0 within in
    omega (arith, here, next)

pub Contains-filter : (p : ℕ → Bool) (xs : List ℕ) (o : ℕ) → Contains xs o → p o ≡ true → Contains (filter p xs) o
Contains-filter p [] o (k, below, at) h = absurd (omega arith)
Contains-filter p (x ∷ xs) o (zero, below, at) h =
    let passes : p x ≡ true = ap p at ∙ h in
    let first : 0 < length (x ∷ filter p xs) = omega arith in
    rw passes (0, first, at)
Contains-filter p (x ∷ xs) o (suc k, below, at) h =
    let rest = Contains-filter p xs o (k, omega arith, at) h in
    elim (p x) as (λ b. Contains (cond b (x ∷ filter p xs) (filter p xs)) o) [
      | true ↦ Contains-append_right (x ∷ []) (filter p xs) o rest
      | false ↦ rest
    ]

pub in_filter : (p : ℕ → Bool) (xs : List ℕ) (o : ℕ) → Contains (filter p xs) o → Contains xs o × (p o ≡ true)
in_filter p xs o there = (
  All-contains (Contains xs) (filter p xs) o (All-filter p (Contains xs) xs (All-contains_itself xs)) there,
  All-contains (λ x. p x ≡ true) (filter p xs) o (filter_passes p xs) there,
)

are_from : (set a n : ℕ) → a ≡ 1 → n ≡ 64 → ArePortsOf set (filter (has_port set) (range_with_len a n))
are_from set a n one all = record {
  ascending = IsStrictlyIncreasing-filter (has_port set) (range_with_len a n) (rising a n);
  exact = λ p. (
    λ there.
        let is = in_filter (has_port set) (range_with_len a n) p there in
        let within = in_range a n p is.0 in
        (record { least = omega (arith, within.0, one); most = omega (arith, within.1, one, all) }, is.1),
    λ is. Contains-filter (has_port set) (range_with_len a n) p
        (Contains-range a n p (let h = is.0.least in omega (arith, h, one)) (let h = is.0.most in
        omega (arith, h, one, all))) is.1,
  );
}

pub are_ports : (set : ℕ) → ArePortsOf set (ports_of set)
unfolding ports_after
are_ports set = are_from set 1 64 refl refl

-- each member of a set of 64 bits is a port
pub is_port : (set p : ℕ) → set < 2 ^ 64 → has_port set p ≡ true → IsPort p
unfolding has_port
is_port set zero small there = absurd (true≢false (sym there))
is_port set (suc bit) small there = record {
  least = omega arith;
  most = elim (leb_tells 65 (suc bit)) [
    | inl high ↦ absurd (true≢false (sym there ∙ has_port-above set (suc bit) small high.1))
    | inr low ↦ omega (arith, low.1)
  ];
}

-- each port of the set without a port is in the set
pub has_port-less : (set p q : ℕ) → has_port (without_port set p) q ≡ true → has_port set q ≡ true
unfolding has_port without_port
has_port-less set p zero there = there
has_port-less set p (suc bit) there =
    let rest : ℕ = bit_not w64 (2 ^ (p - 1)) in
    first (bit_at set bit == 1) (bit_at rest bit == 1)
    (sym (ap (λ b. b == 1) (bit_at_and set rest bit) ∙ min_is (bit_at set bit) (bit_at rest bit) (bit_at-lt set bit)
    (bit_at-lt rest bit)) ∙ there)
  where
    first : (a b : Bool) → (a && b) ≡ true → a ≡ true
    first true b h = refl
    first false b h = h
