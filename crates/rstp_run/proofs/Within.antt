-- The mask has exactly the ports at which the flush rule fired.
-- The result of an event refers only to existing ports.
use Rattle.ether_wire.proofs.PortLemmas.{has_port-bit, has_port-none}
use Rattle.ether_wire.specs.Ports.{has_port, with_port}
use Rattle.rstp_run.proofs.Basics.{Off, On, parts}
use Rattle.rstp_run.proofs.Names.{[], All-cons, All-nil, AreNumberedFrom, add-one, ap, arith, Bool, Bpdu, Count, direct}
use Rattle.rstp_run.proofs.Names.{done, Event, eqb-false, eqb-true, Firing, false, flushed, flushes, Goes, Going, guard}
use Rattle.rstp_run.proofs.Names.{Happens, IsSettled, IsTrue, if◌then◌else◌, inl, inr, is_flush, List, length, None}
use Rattle.rstp_run.proofs.Names.{Option, PortSettings, PortState, port_number, Rule, Run, refl, Settings, Some}
use Rattle.rstp_run.proofs.Names.{slice_get, slice_get_cases, start, subst, suc, swept, swept_on, sym, Tree, true, zero}
use Rattle.rstp_run.proofs.Names.{ℕ, ◌&&◌, ◌+◌, ◌-◌, ◌<◌, ◌==◌, ◌^◌, ◌||◌, ◌↔◌, ◌∙◌, ◌∷◌, ◌≡◌, ◌≢◌, ◌≤◌, ◌⊎◌}
use Rattle.rstp_run.proofs.Steps.{length-ports_after}
use Rattle.rstp_run.proofs.Whole.{both-ways, settled_or_not, swept-ends, swept-run}
use Rattle.rstp_run.specs.Events.{IsPort, IsSameOutcome, sent_from, with_sent}
use Rattle.std.proofs.Common.{All, bit_or, max, ◌%◌}
use Rattle.std.proofs.lemmas.List.{append-nil}
use Rattle.std.proofs.lemmas.List.Elements.{All-head, All-tail}
use Rattle.std.proofs.lemmas.Nat.Bits.{bit_at-lt, bit_at-pow_other, bit_at-pow_same, bit_at_or}
use Rattle.std.specs.Int.{bit_at}

one_more : (same : Bool) (m q p : ℕ) (rest : Bool) → (q == p) ≡ same → (bit_at m p == 1) ≡ rest
    → (bit_at (bit_or m (2 ^ q)) p == 1) ≡ (same || rest)
one_more true m q p rest is before =
    let here = eqb-true q p is in
    let bit : bit_at (2 ^ q) p ≡ 1 = rw here (bit_at-pow_same p) in
    let small = bit_at-lt m p in
    let full : max (bit_at m p) 1 ≡ 1 = omega arith in
    rw (bit_at_or m (2 ^ q) p, bit, full) refl
one_more false m q p rest is before =
    let other : p ≢ q = λ e. eqb-false q p is (sym e) in
    let bit = bit_at-pow_other q p other in
    let same : max (bit_at m p) 0 ≡ bit_at m p = omega arith in
    rw (bit_at_or m (2 ^ q) p, bit, same) before

-- port p + 1 is bit p
at_bit : (m p : ℕ) → has_port m (p + 1) ≡ (bit_at m p == 1)
at_bit m p =
    let some : 1 ≤ p + 1 = omega arith in
    let back : p + 1 - 1 ≡ p = omega arith in
    rw (has_port-bit m (p + 1) some, back)

with_bit : (m q : ℕ) → with_port m (q + 1) ≡ bit_or m (2 ^ q)
unfolding with_port
with_bit m q = let back : q + 1 - 1 ≡ q = omega arith in rw back

step : (b : Bool) (m q p : ℕ) (rest : Bool) → has_port m (p + 1) ≡ rest
    → has_port (if b then with_port m (q + 1) else m) (p + 1) ≡ ((b && q == p) || rest)
step false m q p rest before = before
step true m q p rest before =
    rw (with_bit m q, at_bit (bit_or m (2 ^ q)) p) (one_more (q == p) m q p rest refl (rw at_bit at before))

has_port-flushed : (firings : List Firing) (p : ℕ) → has_port (flushed firings 0) (p + 1) ≡ flushes p firings
has_port-flushed [] p = has_port-none (p + 1)
has_port-flushed (f ∷ earlier) p =
    step (is_flush f.rule) (flushed earlier 0) f.place p (flushes p earlier) (has_port-flushed earlier p)

-- a whole sweep from no firings meets the definition of an event
pub happens-from_goes : {event : Event} {limit : ℕ} {s m t : Tree} {b : Count} {settled : Bool} → m ≡ direct event s
    → Goes swept_on done m (record { fired = 0; limit = limit; flush = 0 }) t b
    → (On settled → IsSettled t) → (Off settled → IsSettled t → ⊥) → (Off settled → b.fired ≡ b.limit)
    → Happens event limit s t settled b.flush
happens-from_goes {limit = limit} {t = t} start goes is_so not_so full = record {
  firings = goes.firings;
  run = rw (← start) goes.run;
  order = ap (swept limit) (sym start) ∙ goes.order [] refl
      ∙ ap (λ list. record { tree = t; firings = list }) (append-nil goes.firings);
  few = omega (arith, goes.fired, goes.limit, goes.within);
  settles = both-ways is_so not_so;
  unsettled = λ off. omega (arith, goes.fired, goes.limit, full off);
  flush = λ p. rw goes.flush (has_port-flushed goes.firings p);
  bits = goes.flush;
}

pub any_run : (event : Event) (limit : ℕ) (s t : Tree) (firings : List Firing)
    → swept limit (direct event s) ≡ record { tree = t; firings = firings }
    → (settled : Bool) × Happens event limit s t settled (flushed firings 0)
any_run event limit s t firings order =
    elim (settled_or_not t) [
      | inl rests ↦ (true, happens true (λ e. rests) (λ e q. cc) (λ e. cc))
      | inr goes_on ↦ (false, happens false (λ e. absurd (cc)) (λ e. goes_on) (λ e. full goes_on ends))
    ]
  where
    runs : Run firings (direct event s) t × (length firings ≤ limit)
    runs = subst (λ (g : Going). Run g.firings (direct event s) g.tree × (length g.firings ≤ limit)) order
        (swept-run limit (direct event s))

    ends : (limit ≤ length firings) ⊎ IsSettled t
    ends = subst (λ (g : Going). (limit ≤ length g.firings) ⊎ IsSettled g.tree) order
        (swept-ends limit (direct event s))

    happens : (settled : Bool) → (On settled → IsSettled t) → (Off settled → IsSettled t → ⊥)
        → (Off settled → length firings ≡ limit) → Happens event limit s t settled (flushed firings 0)
    happens settled is_so not_so all = record {
      firings = firings;
      run = runs.0;
      order = order;
      few = runs.1;
      settles = both-ways is_so not_so;
      unsettled = all;
      flush = has_port-flushed firings;
      bits = refl;
    }

    full : (IsSettled t → ⊥) → (limit ≤ length firings) ⊎ IsSettled t → length firings ≡ limit
    full goes_on (inl all) = omega (arith, all, runs.1)
    full goes_on (inr rests) = absurd (goes_on rests)

-- two answers to the same question
same_answer : (b c : Bool) (P : Type 0) → IsTrue b ↔ P → IsTrue c ↔ P → b ≡ c
same_answer true true P h k = refl
same_answer true false P h k = let e : On false = k.1 (h.0 refl) in cc
same_answer false true P h k = let e : On false = h.1 (k.0 refl) in cc
same_answer false false P h k = refl

pub one_outcome : (event : Event) (limit : ℕ) (s t t' : Tree) (settled settled' : Bool) (mask mask' : ℕ)
    → Happens event limit s t settled mask → Happens event limit s t' settled' mask'
    → IsSameOutcome t t' settled settled' mask mask'
one_outcome event limit s t t' settled settled' mask mask' h k =
    let same : record { tree = t; firings = h.firings } ≡ record { tree = t'; firings = k.firings } =
    sym h.order ∙ k.order in
    let bridge : t ≡ t' = ap (λ (g : Going). g.tree) same in
    record {
      bridge = bridge;
      settles = same_answer settled settled' (IsSettled t) h.settles (rw bridge k.settles);
      flush = h.bits ∙ ap (λ (g : Going). flushed g.firings 0) same ∙ sym k.bits;
    }

either : (a b : Bool) → On (a || b) → (On a) ⊎ (On b)
either true b h = inl refl
either false b h = inr h

-- a rule is enabled only at a place that has a port
place_within : (rule : Rule) (s : Tree) (p : ℕ) → On (guard rule s p) → p < length s.ports
place_within rule s p holds =
    elim (slice_get_cases s.ports p).1 [
      | inl (x, within, found, same) ↦ within
      | inr (past, none) ↦ (let e = rw none at holds in cc)
    ]

pub run_length : (firings : List Firing) (s t : Tree) → Run firings s t → length t.ports ≡ length s.ports
run_length [] s t same = rw same
run_length (f ∷ earlier) s t (mid, run, fires) =
    rw (fires.1, length-ports_after f.rule mid f.place) (run_length earlier s mid run)

flushes_within : (firings : List Firing) (s t : Tree) (p : ℕ) → Run firings s t → On (flushes p firings)
    → p < length s.ports
flushes_within [] s t p run h = cc
flushes_within (f ∷ earlier) s t p (mid, run, fires) h =
    elim (either (is_flush f.rule && f.place == p) (flushes p earlier) h) [
      | inl now ↦
          let here = eqb-true f.place p (parts now).1 in
          let within = place_within f.rule mid f.place fires.0 in
          let same = run_length earlier s mid run in
          omega arith
      | inr before ↦ flushes_within earlier s mid p run before
    ]

-- the set has only existing ports
pub flush-within : {event : Event} {limit : ℕ} {s t : Tree} {settled : Bool} {mask : ℕ}
    → Happens event limit s t settled mask
    → (p : ℕ) → On (has_port mask p) → IsPort p (length t.ports)
unfolding has_port
flush-within happens zero there = cc
flush-within {t = t} happens (suc p) there =
    let flushed : On (flushes p happens.firings) = sym (happens.flush p) ∙ rw (add-one p) there in
    omega (arith, run_length happens.firings _ t happens.run, flushes_within happens.firings _ t p happens.run flushed)

-- a message at one of `many` ports; the first has the number n
abbrev IsFrom : ℕ → ℕ → ℕ × Bpdu → Type 0
IsFrom n many sent = (n ≤ sent.0) × (sent.0 < n + many)

module _ (n many : ℕ) where
  later : (sent : List (ℕ × Bpdu)) → All (IsFrom (n + 1) many) sent → All (IsFrom n (suc many)) sent
  later sent all = all_map (λ e h. (omega (arith, h.0), omega (arith, h.1))) sent all
    where
      all_map : ((e : ℕ × Bpdu) → IsFrom (n + 1) many e → IsFrom n (suc many) e) → (es : List (ℕ × Bpdu))
          → All (IsFrom (n + 1) many) es → All (IsFrom n (suc many)) es
      all_map f [] h = All-nil (IsFrom n (suc many))
      all_map f (e ∷ es) h =
          All-cons (IsFrom n (suc many)) e es (f e (All-head (IsFrom (n + 1) many) e es h))
          (all_map f es (All-tail (IsFrom (n + 1) many) e es h))

  first : (n ≤ n) × (n < n + suc many)
  first = omega arith

  with_first : (slot : Option Bpdu) (rest : List (ℕ × Bpdu)) → All (IsFrom n (suc many)) rest
      → All (IsFrom n (suc many)) (with_sent n slot rest)
  with_first None rest all = all
  with_first (Some message) rest all = All-cons (IsFrom n (suc many)) (n, message) rest (first) all

sent_within : (n : ℕ) (ports : List PortState) → All (IsFrom n (length ports)) (sent_from n ports)
sent_within n [] = All-nil (IsFrom n 0)
sent_within n (x ∷ xs) = with_first n (length xs) x.slot (sent_from (n + 1) xs)
    (later n (length xs) (sent_from (n + 1) xs) (sent_within (n + 1) xs))

at_ports : (ports : List PortState) (sent : List (ℕ × Bpdu)) → All (IsFrom 1 (length ports)) sent
    → All (λ e. IsPort e.0 (length ports)) sent
at_ports ports [] h = All-nil (λ e. IsPort e.0 (length ports))
at_ports ports (e ∷ es) h =
    let here = All-head (IsFrom 1 (length ports)) e es h in
    All-cons (λ e. IsPort e.0 (length ports)) e es (here.0, omega (arith, here.1))
    (at_ports ports es (All-tail (IsFrom 1 (length ports)) e es h))

-- messages are sent only at existing ports
pub sent-at_ports : (ports : List PortState) → All (λ e. IsPort e.0 (length ports)) (sent_from 1 ports)
sent-at_ports ports = at_ports ports (sent_from 1 ports) (sent_within 1 ports)

-- the port at place p has the number p + 1
number_at : (n : ℕ) (ports : List PortState) (p : ℕ) (port : PortState) → slice_get ports p ≡ Some port
    → AreNumberedFrom n ports
    → port_number port.identifier ≡ (n + p) % 2 ^ 12
number_at n [] p port at h = cc
number_at n (x ∷ xs) zero port at h =
    let same : port ≡ x = cc in
    let here : n + 0 ≡ n = omega arith in
    rw (same, here) h.0
number_at n (x ∷ xs) (suc p) port at h =
    let step : n + suc p ≡ n + 1 + p = omega arith in
    rw step (number_at (n + 1) xs p port at h.1)

small : (p : ℕ) → 1 ≤ p → p < 2 ^ 8 → (1 + (p - 1)) % 2 ^ 12 ≡ p
small p low high = omega arith

pub port-number : (ports : List PortState) (p : ℕ) (port : PortState) → 1 ≤ p → p < 2 ^ 8
    → slice_get ports (p - 1) ≡ Some port → AreNumberedFrom 1 ports
    → port_number port.identifier ≡ p
port-number ports p port low high at h = number_at 1 ports (p - 1) port at h ∙ small p low high

pub length-start : (settings : Settings) (ports : List PortSettings) → 1 ≤ length ports
    → 1 ≤ length (start settings ports).ports
length-start settings [] some = absurd (omega arith)
length-start settings (x ∷ xs) some = omega arith

pub number-at : (ports : List PortState) (p : ℕ) (port : PortState) → slice_get ports p ≡ Some port
    → AreNumberedFrom 1 ports
    → port_number port.identifier ≡ (p + 1) % 2 ^ 12
number-at ports p port at h =
    let swapped : p + 1 ≡ 1 + p = omega arith in
    rw swapped (number_at 1 ports p port at h)
