-- A list of own updates, no key twice.
use Rattle.std.proofs.Common.{◌≡◌, ◌≢◌, inl, inr, ℕ, zero, suc, ◌+◌, ◌≤◌, true, false, Some}
use Rattle.std.proofs.Common.{List, [], ◌∷◌, length, refl, sym, ap, ◌∙◌, arith}
use Rattle.std.specs.Prelude.{Contains, IsSome, slice_get, eqb}
use Rattle.std.specs.List.{AllByRecursion, IsDistinct}
use Rattle.std.specs.Cmp.{nat_eq_equiv}
use Rattle.std.specs.FinMap.{get-empty}
use Rattle.std.proofs.lemmas.Bool.{eq-eqb, false≢true, or_left, or_right, or_parts}
use Rattle.std.proofs.lemmas.Map.Keys.{IsDistinct-IsPermutation}
use Rattle.std.proofs.lemmas.List.Sorted.{length_permutation}
use Rattle.route_wire.specs.declared.update.Key.{Key}
use Rattle.route_wire.specs.declared.update.Key.TheVariants.{Flood}
use Rattle.route_wire.specs.declared.update.Register.{Register}
use Rattle.route_wire.specs.declared.update.Content.{Content}
use Rattle.route_wire.specs.declared.update.Content.TheVariants.{Withdrawn, Advert as Advertised}
use Rattle.route_wire.specs.declared.update.Value.{Value}
use Rattle.route_wire.specs.Fields.{Fields, flood_advert}
use Rattle.route_wire.specs.Order.{register_cmp}
use Rattle.route_join.specs.Table.{value_at, with_updates}
use Rattle.route_join.proofs.Tables.{at_same, at_other}
use Rattle.mac_arena.specs.declared.station.Station.{Station}
use Rattle.mac_arena.specs.Station.{is_same}
use Rattle.mac_arena.specs.Learning.{entry_at}
use Rattle.mac_arena.specs.ListsName.{stands, AreOnce}
use Rattle.mac_arena.proofs.Entries.{same_self, eq_same}
use Rattle.ev_claims.specs.Speaker.{Speaker, own_register, own, IsPresent, IsOwnAt, KeepsNumbers, next_value}
use Rattle.ev_claims.specs.Speaker.{after_originating}
use Rattle.ev_claims.specs.Speaker.{after_importing, silent}
use Rattle.ev_claims.specs.declared.opening.Start.{Start}
use Rattle.ev_claims.specs.Opening.{IsOpening, Opens, after_floods, floods_of}
use Rattle.ev_claims.specs.LocalRoutes.{LocalRoutes, entries, key_of, after_removal, after_removals}
use Rattle.ev_claims.specs.Changes.{OwnChanges, Says, registers_in, after_originations, said_updates}
use Rattle.ev_claims.proofs.Numbers.{key_or_other, now_said, said_before, news_joins, own_stays}
use Rattle.ev_claims.proofs.Learnt.{same_station, size_gone, removal_there}
use Rattle.ev_claims.proofs.Keeping.{known_entry}
use Rattle.ev_claims.proofs.Changed.{nothing_changes, more_changes}

-- ---- the values that are older than the next number

-- no own value is of a later incarnation, nor of this one with a number above the counter
pub record IsBehind (e : Speaker) : Type 0 where
  pub past : (k : Key) (v : Value) → own e k ≡ Some v → v.incarnation ≤ e.incarnation
  pub counted : (k : Key) (v : Value) → own e k ≡ Some v → IsPresent e v → v.counter ≤ e.counter

pub kept_behind : (e : Speaker) → KeepsNumbers e → IsBehind e
kept_behind e h = record { past = h.past; counted = h.counted }

said_behind : {e : Speaker} (k : Key) (c : Content) → IsBehind e → IsBehind (after_originating e k c)
said_behind {e} k c h = record {
  past = λ j v is. elim (key_or_other j k) [
    | inl same ↦ rw (← now_said e k c same is) (omega arith)
    | inr ne ↦ h.past j v (said_before e k c ne is)
  ];
  counted = λ j v is present. elim (key_or_other j k) [
    | inl same ↦ rw (← now_said e k c same is) (omega arith)
    | inr ne ↦ omega (arith, h.counted j v (said_before e k c ne is) present)
  ];
}

-- another's update changes no own value
pub heard_behind : (e : Speaker) (u : Fields) → u.register.originator ≢ e.address → IsBehind e
    → IsBehind (after_importing e u)
heard_behind e u other h = record {
  past = λ k v is. h.past k v (sym (own_stays e u other k) ∙ is);
  counted = λ k v is present. h.counted k v (sym (own_stays e u other k) ∙ is) present;
}

-- so the table takes the next own updates
sayings_join : (e : Speaker) (ss : List (Key × Content)) → IsBehind e
    → (after_originations e ss).table ≡ with_updates e.table (said_updates e ss)
sayings_join e [] h = refl
sayings_join e (s ∷ ss) h =
    sayings_join (after_originating e s.0 s.1) ss (said_behind s.0 s.1 h)
    ∙ ap (λ t. with_updates t (said_updates (after_originating e s.0 s.1) ss)) (sym (news_joins e s.0 s.1
    (h.past s.0) (h.counted s.0)))

-- ---- no key twice

abbrev pub AreApart : List (Key × Content) → Type 0
AreApart [] = Unit {0}
AreApart (s ∷ ss) = ((i : ℕ) (t : Key × Content) → slice_get ss i ≡ Some t → t.0 ≢ s.0) × AreApart ss

said_count : (e : Speaker) (ss : List (Key × Content)) → length (said_updates e ss) ≡ length ss
said_count e [] = refl
said_count e (s ∷ ss) = rw (said_count (after_originating e s.0 s.1) ss)

-- a register with one of these updates belongs to one of the keys
said_of : (e : Speaker) (ss : List (Key × Content)) (r : Register) → Contains (registers_in (said_updates e ss)) r
    → (i : ℕ) × (t : Key × Content) × (slice_get ss i ≡ Some t) × (own_register e t.0 ≡ r)
said_of e [] r (k, less, is) = absurd (omega (arith, less))
said_of e (s ∷ ss) r (zero, less, is) = (0, s, refl, is)
said_of e (s ∷ ss) r (suc k, less, is) = let h = said_of (after_originating e s.0 s.1) ss r (k, omega (arith, less), is)
    in
    (suc h.0, h.1, h.2, h.3)

not_again : (e : Speaker) (s : Key × Content) (ss : List (Key × Content)) → AreApart (s ∷ ss)
    → Contains (registers_in (said_updates (after_originating e s.0 s.1) ss)) (own_register e s.0) → ⊥
not_again e s ss apart in' = let h = said_of (after_originating e s.0 s.1) ss (own_register e s.0) in' in
    apart.0 h.0 h.1 h.2 (ap (λ (r : Register). r.key) h.3)

sayings_change : (e : Speaker) (ss : List (Key × Content)) → AreApart ss
    → OwnChanges e (after_originations e ss) (registers_in (said_updates e ss))
sayings_change e [] apart = nothing_changes e
sayings_change e (s ∷ ss) apart =
    more_changes s.1 (not_again e s ss apart)
    (sayings_change (after_originating e s.0 s.1) ss apart.1)

sayings_numbered : (e : Speaker) (ss : List (Key × Content)) → AreApart ss → (i : ℕ) (u : Fields)
    → slice_get (said_updates e ss) i ≡ Some u → IsOwnAt (after_originations e ss) (e.counter + (i + 1)) u
sayings_numbered e [] apart i u at = cc
sayings_numbered e (s ∷ ss) apart zero u at =
    let same : (record { register = own_register e s.0; value = next_value e s.1 }) ≡ u = cc in
    let rest = sayings_change (after_originating e s.0 s.1) ss apart.1 in
    rw (← same) (record {
      own = sym rest.address;
      there = rest.others (own_register e s.0) refl (not_again e s ss apart)
          ∙ at_same e.table (own_register e s.0) (next_value e s.1);
      present = sym rest.incarnation;
      numbered = omega arith;
    })
sayings_numbered e (s ∷ ss) apart (suc i) u at =
    let later = sayings_numbered (after_originating e s.0 s.1) ss apart.1 i u at in
    record {
      own = later.own;
      there = later.there;
      present = later.present;
      numbered = omega (arith, later.numbered);
    }

sayings_foreign : (e : Speaker) (ss : List (Key × Content)) (r : Register) → r.originator ≢ e.address
    → value_at (after_originations e ss).table r ≡ value_at e.table r
sayings_foreign e [] r ne = refl
sayings_foreign e (s ∷ ss) r ne = sayings_foreign (after_originating e s.0 s.1) ss r ne
    ∙ at_other e.table (own_register e s.0) (next_value e s.1) r (λ same. ne (ap (λ (q : Register). q.originator) same))

-- an edge that makes these updates makes them and no other
pub says : (e new : Speaker) (ss : List (Key × Content)) → new ≡ after_originations e ss → AreApart ss → IsBehind e
    → Says e new ss
says e new ss is apart h = rw is (record {
  after = refl;
  changes = sayings_change e ss apart;
  count = said_count e ss;
  numbered = sayings_numbered e ss apart;
  table = sayings_join e ss h;
  foreign = sayings_foreign e ss;
})

pub one_apart : (k : Key) (c : Content) → AreApart ((k, c) ∷ [])
one_apart k c = (λ i t at same. (cc (at)), tt)

-- ---- stations that go

abbrev pub withdrawals : List Station → List (Key × Content)
withdrawals [] = []
withdrawals (s ∷ ss) = (key_of s, Withdrawn) ∷ withdrawals ss

pub removals_say : (e : LocalRoutes) (ss : List Station) → (after_removals e ss).speaker
    ≡ after_originations e.speaker (withdrawals ss)
removals_say e [] = refl
removals_say e (s ∷ ss) = removals_say (after_removal e s) ss

pub withdrawals_count : (ss : List Station) → length (withdrawals ss) ≡ length ss
withdrawals_count [] = refl
withdrawals_count (s ∷ ss) = rw (withdrawals_count ss)

not_withdrawn : (s : Station) (ss : List Station) → stands ss s ≡ false → (i : ℕ) (t : Key × Content)
    → slice_get (withdrawals ss) i ≡ Some t → t.0 ≢ key_of s
not_withdrawn s [] not i t at same = cc
not_withdrawn s (x ∷ ss) not zero t at same =
    let head : Key × Content = (key_of x, Withdrawn) in
    let first : head ≡ t = cc in
    absurd (false≢true (sym not ∙ or_left (is_same x s) (stands ss s)
    (eq_same x s (same_station (ap (λ (q : Key × Content). q.0) first ∙ same)))))
not_withdrawn s (x ∷ ss) not (suc i) t at same = not_withdrawn s ss (or_parts (is_same x s) (stands ss s) not).1 i t at
    same

pub withdrawals_apart : (ss : List Station) → AreOnce ss → AreApart (withdrawals ss)
withdrawals_apart [] once = tt
withdrawals_apart (s ∷ ss) once = (not_withdrawn s ss once.0, withdrawals_apart ss once.1)

-- as many are learnt fewer as go
pub removals_size : (e : LocalRoutes) (ss : List Station) → AreOnce ss
    → ((s : Station) → stands ss s ≡ true → IsSome (entry_at e.learned s))
    → entries (after_removals e ss) + length ss ≡ entries e
removals_size e [] once known = omega arith
removals_size e (s ∷ ss) once known =
    let entry = known_entry e s (known s (or_left (is_same s s) (stands ss s) (same_self s))) in
    omega (
      arith,
      size_gone e.learned s entry.0 entry.1,
      (removals_size (after_removal e s) ss once.1 (λ q in'. rw
          (removal_there e.learned s q (apart q in')) (known q (or_right (is_same s q) (stands ss q) in')))),
    )
  where
    apart : (q : Station) → stands ss q ≡ true → q ≢ s
    apart q in' same = false≢true (sym once.0 ∙ (rw same) ∙ in')

-- ---- the opening

floods_say : (e : Speaker) (vs : List ℕ) → after_floods e vs ≡ after_originations e (floods_of vs)
floods_say e [] = refl
floods_say e (v ∷ vs) = floods_say (after_originating e (Flood v) (Advertised flood_advert)) vs

not_flooded : (v : ℕ) (vs : List ℕ) → AllByRecursion (λ w. eqb v w ≡ false) vs → (i : ℕ) (t : Key × Content)
    → slice_get (floods_of vs) i ≡ Some t → t.0 ≢ Flood v
not_flooded v [] apart i t at same = cc
not_flooded v (w ∷ vs) apart zero t at same =
    let head : Key × Content = (Flood w, Advertised flood_advert) in
    let first : head ≡ t = cc in
    let keys = ap (λ (q : Key × Content). q.0) first ∙ same in
    let is : w ≡ v = cc in
    let bad = sym apart.0 ∙ eq-eqb v w (sym is) in
    cc
not_flooded v (w ∷ vs) apart (suc i) t at same = not_flooded v vs apart.1 i t at same

floods_apart : (vs : List ℕ) → IsDistinct eqb vs → AreApart (floods_of vs)
unfolding IsDistinct
floods_apart [] distinct = tt
floods_apart (v ∷ vs) distinct = (not_flooded v vs distinct.0, floods_apart vs distinct.1)

silent_behind : (address incarnation : ℕ) (originators : List ℕ) → IsBehind (silent address incarnation originators)
silent_behind address incarnation originators = record {
  past = λ k v is. absurd (nothing k v is);
  counted = λ k v is present. absurd (nothing k v is);
}
  where
    nothing : (k : Key) (v : Value) → own (silent address incarnation originators) k ≢ Some v
    nothing k v is = cc (sym (get-empty {X = Value} register_cmp (own_register
        (silent address incarnation originators) k)) ∙ is)

pub opens : (s : Start) (e : LocalRoutes) → IsOpening s e → IsDistinct eqb s.vnis.items → Opens s e
opens s e h distinct = record {
  says = says (silent s.address s.incarnation s.originators.items) e.speaker (floods_of e.vnis) (h.speaker
      ∙ floods_say (silent s.address s.incarnation s.originators.items) e.vnis)
      (floods_apart e.vnis (IsDistinct-IsPermutation eqb nat_eq_equiv.symm s.vnis.items e.vnis h.vnis distinct))
      (silent_behind s.address s.incarnation s.originators.items);
  count = length_permutation s.vnis.items e.vnis h.vnis;
}
