-- which own registers change, and under which numbers
use Rattle.std.proofs.Common.{◌≡◌, ℕ, zero, suc, ◌+◌, ◌-◌, ◌<◌, ◌≤◌, ◌++◌, inl, inr, Bool, true, false, not, eqb, cond}
use Rattle.std.proofs.Common.{Option, Some, None, List, [], ◌∷◌, length, refl, sym, ap, ◌∙◌, arith}
use Rattle.std.specs.Prelude.{slice_get, Contains, ◌||◌, ◌&&◌, filter}
use Rattle.std.specs.List.{list_any, range_with_len}
use Rattle.std.specs.Cmp.{nat_eq_equiv}
use Rattle.std.proofs.Math.Bool.{or_assoc}
use Rattle.std.proofs.lemmas.Bool.{ne_eqb, eqb-true, false≢true, false_from_ne_true, cases_Bool, cond_both, and_parts}
use Rattle.std.proofs.lemmas.Bool.{and_right, or_parts, or_from, or_left, or_right}
use Rattle.std.proofs.lemmas.Map.Views.{list_any-from_Contains, Contains-from_any}
use Rattle.std.proofs.lemmas.Option.{slice_get_within}
use Rattle.ether_wire.specs.Ports.{IsPort, has_port, ports_after, ports_of}
use Rattle.ether_wire.proofs.PortLemmas.{are_ports}
use Rattle.route_wire.specs.declared.update.Register.{Register}
use Rattle.route_wire.specs.declared.update.Content.TheVariants.{Withdrawn}
use Rattle.route_wire.specs.declared.update.Key.{Key}
use Rattle.route_wire.specs.declared.update.Content.{Content}
use Rattle.route_join.proofs.Tables.{at_same, at_other}
use Rattle.mac_arena.specs.declared.station.Station.{Station}
use Rattle.mac_arena.specs.declared.station.Entry.{Entry}
use Rattle.mac_arena.specs.Station.{is_same}
use Rattle.mac_arena.specs.Learning.{Learning, entry_at, is_pinned, stations_at}
use Rattle.mac_arena.specs.ListsName.{ListsName, stands, is_on, ages, AreOnce}
use Rattle.mac_arena.specs.Laws.{is_due, due_among, unpinned_among, unpinned_on}
use Rattle.mac_arena.proofs.Entries.{same_self, same_true, eq_same}
use Rattle.mac_arena.proofs.Going.{due_exact, unpinned_exact}
use Rattle.ev_claims.specs.Speaker.{Speaker, own_register, next_value, after_originating}
use Rattle.ev_claims.specs.LocalRoutes.{LocalRoutes, KeepsRoutes, AreGood, key_of, vni_at, after_removal}
use Rattle.ev_claims.specs.LocalRoutes.{after_removals}
use Rattle.ev_claims.specs.Leaving.{due_in, flushed_at, flushed_in, goes_by_flush}
use Rattle.ev_claims.specs.Changes.{OwnChanges, IsNumbered, registers_of}
use Rattle.ev_claims.specs.Laws.{AgesOut, FlushesOut}
use Rattle.ev_claims.proofs.Learnt.{same_station, removal_here, removal_there}

-- ---- nothing, and one register
pub nothing_changes : (e : Speaker) → OwnChanges e e []
nothing_changes e = record {
  address = refl;
  incarnation = refl;
  own = λ i r at. absurd (cc (at));
  numbers = λ i r at. cc;
  others = λ r mine none. refl;
  counter = omega arith;
  pending = refl;
}

-- ---- one register, then others
pub more_changes : {e : Speaker} {k : Key} (c : Content) {new : Speaker} {rs : List Register}
    → (Contains rs (own_register e k) → ⊥) → OwnChanges (after_originating e k c) new rs
    → OwnChanges e new (own_register e k ∷ rs)
more_changes {e} {k} c {new} {rs} once h = record {
  address = h.address;
  incarnation = h.incarnation;
  own = mine;
  numbers = numbers;
  others = λ r of none. h.others r of (λ in'. none (suc in'.0, (omega (arith, in'.1)), in'.2))
      ∙ at_other e.table (own_register e k) (next_value e c) r (λ same. none (0, omega arith, sym same));
  counter = omega (arith, h.counter);
  pending = h.pending;
}
  where
    mine : (i : ℕ) (r : Register) → slice_get (own_register e k ∷ rs) i ≡ Some r → r.originator ≡ e.address
    mine zero r at = let same : own_register e k ≡ r = cc in sym (ap (λ (q : Register). q.originator) same)
    mine (suc i) r at = h.own i r at

    numbers : (i : ℕ) (r : Register) → slice_get (own_register e k ∷ rs) i ≡ Some r
        → IsNumbered new r (e.counter + (i + 1))
    numbers zero r at =
        let same : own_register e k ≡ r = cc in
        rw (← same) (record {
          value = next_value e c;
          there = h.others (own_register e k) refl once ∙ at_same e.table (own_register e k) (next_value e c);
          present = sym h.incarnation;
          number = omega arith;
        })
    numbers (suc i) r at = (let later = h.numbers i r at in record {
      value = later.value;
      there = later.there;
      present = later.present;
      number = omega (arith, later.number);
    })

-- ---- stations that go
pub stands_among : (e : Speaker) (s : Station) (ss : List Station)
    → Contains (registers_of e ss) (own_register e (key_of s)) → stands ss s ≡ true
stands_among e s [] (k, less, is) = absurd (omega (arith, less))
stands_among e s (x ∷ ss) (zero, less, is) = or_left (is_same x s) (stands ss s)
    (eq_same x s (same_station (ap (λ (r : Register). r.key) is)))
stands_among e s (x ∷ ss) (suc k, less, is) = or_right (is_same x s) (stands ss s)
    (stands_among e s ss (k, omega (arith, less), is))

pub removals_change : (e : LocalRoutes) (ss : List Station) → AreOnce ss
    → OwnChanges e.speaker (after_removals e ss).speaker (registers_of e.speaker ss)
removals_change e [] once = nothing_changes e.speaker
removals_change e (s ∷ ss) once =
    more_changes Withdrawn
    (λ in'. false≢true (sym once.0 ∙ stands_among e.speaker s ss in'))
    (removals_change (after_removal e s) ss once.1)

pub removals_entries : (e : LocalRoutes) (ss : List Station) (s : Station)
    → entry_at (after_removals e ss).learned s ≡ cond (stands ss s) None (entry_at e.learned s)
removals_entries e [] s = refl
removals_entries e (x ∷ ss) s = removals_entries (after_removal e x) ss s ∙ go (is_same x s) refl (stands ss s)
  where
    go : (b : Bool) → is_same x s ≡ b → (d : Bool) → cond d None (entry_at (after_removal e x).learned s)
        ≡ cond (b || d) None (entry_at e.learned s)
    go true same true = refl
    go true same false = (rw (same_true x s same)) ∙ removal_here e.learned x
    go false ne true = refl
    go false ne false = removal_there e.learned x s (λ same. false≢true (sym ne ∙ eq_same x s (sym same)))

-- ---- by age
due_off : (t : Learning) (limit : ℕ) (ss : List Station) (s : Station) → stands ss s ≡ false
    → stands (due_among t limit ss) s ≡ false
due_off t limit [] s h = refl
due_off t limit (x ∷ ss) s h =
    let off = or_parts (is_same x s) (stands ss s) h in
    cond_both (is_due limit (entry_at t x)) (x ∷ due_among t limit ss) [] (λ ys. stands ys s ≡ false)
    (λ e. or_from (is_same x s) (stands (due_among t limit ss) s) off.0 (due_off t limit ss s off.1)) (λ e. refl)

pub due_once : (t : Learning) (limit : ℕ) (ss : List Station) → AreOnce ss → AreOnce (due_among t limit ss)
due_once t limit [] h = tt
due_once t limit (x ∷ ss) h = cond_both (is_due limit (entry_at t x)) (x ∷ due_among t limit ss) [] AreOnce
    (λ e. (due_off t limit ss x h.0, due_once t limit ss h.1)) (λ e. tt)

pub ages_out : {e : LocalRoutes} (limit : ℕ) → AreGood e → AgesOut e limit
ages_out {e} limit h = record {
  exactly = λ s. removals_entries e (due_in e.learned limit) s
      ∙ rw (due_exact e.learned limit h.lists s);
  changes = removals_change e (due_in e.learned limit) (due_once e.learned limit e.learned.ageing h.lists.ageing_once);
}

-- ---- by port
stands_append : (xs ys : List Station) (s : Station) → stands (xs ++ ys) s ≡ (stands xs s || stands ys s)
stands_append [] ys s = refl
stands_append (x ∷ xs) ys s = (rw (stands_append xs ys s))
    ∙ sym (or_assoc (is_same x s) (stands xs s) (stands ys s))

-- whether an entry is behind one of these ports
abbrev pub on_any : List ℕ → Option Entry → Bool
on_any ps o = list_any (is_on o) ps

-- ports that rise from a number on
abbrev pub Climbs : ℕ → List ℕ → Type 0
Climbs a [] = Unit {0}
Climbs a (p ∷ ps) = (a < p) × Climbs p ps

flushed_stands : (t : Learning) (lists : ListsName t) (a : ℕ) (ps : List ℕ) (s : Station) → Climbs a ps
    → stands (flushed_at t ps) s ≡ (ages (entry_at t s) && on_any ps (entry_at t s))
flushed_stands t lists a [] s climbs = sym (and_right (ages (entry_at t s)) false refl)
flushed_stands t lists a (p ∷ ps) s climbs =
    stands_append (unpinned_on t p) (flushed_at t ps) s
    ∙ (λ i. unpinned_exact t p (omega (arith, climbs.0)) lists s i || flushed_stands t lists p ps s climbs.1 i)
    ∙ both (ages (entry_at t s)) (is_on (entry_at t s) p) (on_any ps (entry_at t s))
  where
    both : (d a b : Bool) → ((d && a) || (d && b)) ≡ (d && (a || b))
    both true a b = refl
    both false a b = refl

-- an entry is at only one port
not_later : (o : Option Entry) (p a : ℕ) (ps : List ℕ) → is_on o p ≡ true → p ≤ a → Climbs a ps → on_any ps o ≡ false
not_later o p a [] on low climbs = refl
not_later None p a (q ∷ ps) on low climbs = cc
not_later (Some x) p a (q ∷ ps) on low climbs =
    let more = climbs.0 in
    or_from (eqb x.port q) (on_any ps (Some x)) (ne_eqb x.port q (λ same. omega
    (arith, eqb-true x.port p on, same, low, more)))
    (not_later (Some x) p q ps on (omega (arith, low, more)) climbs.1)

pub once_joined : (xs ys : List Station) → AreOnce xs → AreOnce ys
    → ((s : Station) → stands xs s ≡ true → stands ys s ≡ false) → AreOnce (xs ++ ys)
once_joined [] ys a b apart' = b
once_joined (x ∷ xs) ys a b apart' = (
  stands_append xs ys x
      ∙ or_from (stands xs x) (stands ys x) a.0 (apart' x (or_left (is_same x x) (stands xs x) (same_self x))),
  once_joined xs ys a.1 b (λ s h. apart' s (or_right (is_same x s) (stands xs s) h)),
)

unpinned_off : (t : Learning) (xs : List Station) (s : Station) → stands xs s ≡ false
    → stands (unpinned_among t xs) s ≡ false
unpinned_off t [] s h = refl
unpinned_off t (x ∷ xs) s h =
    let off = or_parts (is_same x s) (stands xs s) h in
    cond_both (is_pinned (entry_at t x)) (unpinned_among t xs) (x ∷ unpinned_among t xs) (λ ys. stands ys s ≡ false)
    (λ e. unpinned_off t xs s off.1)
    (λ e. or_from (is_same x s) (stands (unpinned_among t xs) s) off.0 (unpinned_off t xs s off.1))

unpinned_once : (t : Learning) (xs : List Station) → AreOnce xs → AreOnce (unpinned_among t xs)
unpinned_once t [] h = tt
unpinned_once t (x ∷ xs) h = cond_both (is_pinned (entry_at t x)) (unpinned_among t xs) (x ∷ unpinned_among t xs)
    AreOnce (λ e. unpinned_once t xs h.1) (λ e. (unpinned_off t xs x h.0, unpinned_once t xs h.1))

pub flushed_once : (t : Learning) (lists : ListsName t) (a : ℕ) (ps : List ℕ) → Climbs a ps → AreOnce (flushed_at t ps)
flushed_once t lists a [] climbs = tt
flushed_once t lists a (p ∷ ps) climbs = once_joined (unpinned_on t p) (flushed_at t ps)
    (unpinned_once t (stations_at t.ports (p - 1)) (lists.ports_once (p - 1))) (flushed_once t lists p ps climbs.1)
    (λ s h.
    flushed_stands t lists p ps s climbs.1
    ∙ and_right (ages (entry_at t s)) (on_any ps (entry_at t s)) (not_later (entry_at t s) p p ps (and_parts (ages
    (entry_at t s)) (is_on (entry_at t s) p) (sym (unpinned_exact t p (omega (arith, climbs.0)) lists s)
    ∙ h)).1 (omega arith)
    climbs.1))

-- ---- the ports of a set
climbs_from : (p : ℕ → Bool) (a n : ℕ) → Climbs a (filter p (range_with_len (a + 1) n))
climbs_from p a zero = tt
climbs_from p a (suc n) =
    let later = filter p (range_with_len (a + 1 + 1) n) in
    let rest = climbs_from p (a + 1) n in
    cond_both (p (a + 1)) ((a + 1) ∷ later) later (Climbs a) (λ e. (omega arith, rest)) (λ e. lower later rest)
  where
    lower : (xs : List ℕ) → Climbs (a + 1) xs → Climbs a xs
    lower [] h = tt
    lower (x ∷ xs) h = (omega (arith, h.0), h.1)

pub ports_climb : (set : ℕ) → Climbs 0 (ports_of set)
unfolding ports_after
ports_climb set = climbs_from (has_port set) 0 64

any_is : (set : ℕ) {n : ℕ} → IsPort n → list_any (eqb n) (ports_of set) ≡ has_port set n
any_is set {n} port = elim (cases_Bool (has_port set n)) [
  | inl has ↦ list_any-from_Contains nat_eq_equiv n (ports_of set) (((are_ports set).exact n).1 (port, has)) ∙ sym has
  | inr not ↦ false_from_ne_true (list_any (eqb n) (ports_of set)) (λ h. false≢true (sym not
      ∙ (((are_ports set).exact n).0 (Contains-from_any eqb-true n (ports_of set) h)).1)) ∙ sym not
]

port_range : (ports : List ℕ) (n : ℕ) {v : ℕ} → vni_at ports n ≡ Some v → length ports ≤ 64 → IsPort n
port_range ports zero at few = cc
port_range ports (suc l) {v} at few = record {
  least = omega arith;
  most = (omega (arith, slice_get_within ports l v at, few));
}

pub flushed_exact : {e : LocalRoutes} (set : ℕ) → KeepsRoutes e → ListsName e.learned → (s : Station)
    → stands (flushed_in e.learned set) s ≡ goes_by_flush set (entry_at e.learned s)
flushed_exact {e} set h lists s = flushed_stands e.learned lists 0 (ports_of set) s (ports_climb set)
    ∙ go (entry_at e.learned s) refl
  where
    go : (o : Option Entry) → entry_at e.learned s ≡ o → (ages o && on_any (ports_of set) o) ≡ goes_by_flush set o
    go None at = refl
    go (Some x) at = rw (any_is set (port_range e.ports x.port (h.ports s x at) h.few))

pub flushes_out : (e : LocalRoutes) (set : ℕ) → AreGood e → FlushesOut e set
flushes_out e set h = record {
  exactly = λ s. removals_entries e (flushed_in e.learned set) s
      ∙ rw (flushed_exact set h.routes h.lists s);
  changes = removals_change e (flushed_in e.learned set)
      (flushed_once e.learned h.lists 0 (ports_of set) (ports_climb set));
}
