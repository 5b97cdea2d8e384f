-- stations told apart, and the map that the nodes hold
use Rattle.std.proofs.Common.{ℕ, zero, suc, ◌+◌, ◌-◌, ◌<◌, ◌≡◌, ◌≢◌, ◌⊎◌, inl, inr, true, false, cond, eqb, ◌&&◌}
use Rattle.std.proofs.Common.{Option, Some, None, List, [], ◌∷◌, length, get_or, set, nat_cmp, refl, ap, sym, ◌∙◌}
use Rattle.std.proofs.Common.{arith}
use Rattle.std.specs.Cmp.{IsTotalOrder, nat_cmp_total, tied_itself}
use Rattle.std.specs.Ordering.{is_eq}
use Rattle.std.specs.declared.cmp.Ordering.{Ordering}
use Rattle.std.specs.declared.cmp.Ordering.TheVariants.{Equal}
use Rattle.std.specs.FinMap.{FinMap, get, insert, remove, len, IsAntisymmetric, get-empty, get-insert, get-remove}
use Rattle.std.specs.FinMap.{same_map, len-insert, len-remove}
use Rattle.std.proofs.lemmas.Cmp.{on_total, then_total}
use Rattle.std.proofs.lemmas.Map.Lookups.{exact_pairs, exact_unsigned}
use Rattle.std.proofs.lemmas.List.{get_or_past, get_or-set_same, get_or-set_other}
use Rattle.std.proofs.lemmas.Bool.{eq-eqb, cases_eq, cases_lt, cases_Bool, false≢true}
use Rattle.std.proofs.lemmas.Option.{none-some, same_Some}
use Rattle.mac_arena.specs.declared.station.Station.{Station}
use Rattle.mac_arena.specs.declared.station.Entry.{Entry}
use Rattle.mac_arena.specs.declared.station.Learned.{Learned}
use Rattle.mac_arena.specs.Station.{station_cmp, is_same}
use Rattle.mac_arena.specs.Nodes.{slot_at, entries_of}

pub station_total : IsTotalOrder station_cmp
station_total = then_total (on_total (λ s. s.vni) nat_cmp_total) (on_total (λ s. s.mac) nat_cmp_total)

pub station_exact : IsAntisymmetric station_cmp
station_exact a b h = ap (λ (p : ℕ × ℕ). record { vni = p.0; mac = p.1 })
    (exact_pairs nat_cmp nat_cmp exact_unsigned exact_unsigned (a.vni, a.mac) (b.vni, b.mac) h)

equal_from : (o : Ordering) → is_eq o ≡ true → o ≡ Equal
equal_from o e = grind arith

pub same_true : (a b : Station) → is_same a b ≡ true → a ≡ b
same_true a b h = station_exact a b (equal_from (station_cmp a b) h)

pub same_self : (a : Station) → is_same a a ≡ true
same_self a = ap is_eq (tied_itself station_total a)

pub eq_same : (a b : Station) → a ≡ b → is_same a b ≡ true
eq_same a b e = rw e (same_self b)

pub ne_same : (a b : Station) → a ≢ b → is_same a b ≡ false
ne_same a b ne = elim (cases_Bool (is_same a b)) [
  | inl e ↦ absurd (ne (same_true a b e))
  | inr e ↦ e
]

pub same_or_other : (a b : Station) → (a ≡ b) ⊎ (a ≢ b)
same_or_other a b = elim (cases_Bool (is_same a b)) [
  | inl e ↦ inl (same_true a b e)
  | inr e ↦ inr (λ s. false≢true (sym e ∙ eq_same a b s))
]

-- the derived test of two stations if it fails
pub differs : (a b : Station) → false ≡ (eqb a.vni b.vni && eqb a.mac b.mac) → a ≢ b
differs a b h e = false≢true (rw (e, eq-eqb b.vni b.vni refl, eq-eqb b.mac b.mac refl) at h)

-- ---- one entry of a map

abbrev pub Map : Type 0
Map = FinMap station_cmp Entry

get_put : (m : Map) (s : Station) (e : Entry) (q : Station)
    → get (insert m s e) q ≡ cond (is_same q s) (Some e) (get m q)
get_put m s e q = get-insert station_total m s e q

pub get_here : (m : Map) (s : Station) (e : Entry) → get (insert m s e) s ≡ Some e
get_here m s e = rw (get_put, same_self)

pub get_there : (m : Map) (s : Station) (e : Entry) (q : Station) → q ≢ s → get (insert m s e) q ≡ get m q
get_there m s e q ne = rw (get_put, ne_same q s ne)

pub gone_here : (m : Map) (s : Station) → get (remove m s) s ≡ None
gone_here m s = rw (get-remove station_total m s s, same_self s)

pub gone_there : (m : Map) (s q : Station) → q ≢ s → get (remove m s) q ≡ get m q
gone_there m s q ne = rw (get-remove station_total m s q, ne_same q s ne)

-- maps that agree at one key and elsewhere
alike : (m n : Map) (s : Station) → get m s ≡ get n s → ((q : Station) → q ≢ s → get m q ≡ get n q) → m ≡ n
alike m n s here there = same_map station_total station_exact m n (λ q. elim (same_or_other q s) [
  | inl e ↦ rw e here
  | inr ne ↦ there q ne
])

-- a key that is set twice has the last value
pub insert_twice : (m : Map) (s : Station) (a b : Entry) → insert (insert m s a) s b ≡ insert m s b
insert_twice m s a b = alike _ _ s (simp get_here) (λ q ne. simp (get_there, ne))

pub remove_inserted : (m : Map) (s : Station) (a : Entry) → remove (insert m s a) s ≡ remove m s
remove_inserted m s a = alike _ _ s (simp gone_here) (λ q ne. simp (gone_there, get_there, ne))

pub insert_same : (m : Map) (s : Station) (e : Entry) → get m s ≡ Some e → insert m s e ≡ m
insert_same m s e is = alike _ _ s (get_here m s e ∙ sym is) (get_there m s e)

pub insert_gone : (m : Map) (s : Station) (e : Entry) → get m s ≡ Some e → insert (remove m s) s e ≡ m
insert_gone m s e is = alike _ _ s (get_here _ s e ∙ sym is) (λ q ne. simp (get_there, gone_there, ne))

pub len_new : (m : Map) (s : Station) (e : Entry) → get m s ≡ None → len (insert m s e) ≡ len m + 1
len_new m s e none = rw (len-insert station_total m s e, none)

pub len_known : (m : Map) (s : Station) (e a : Entry) → get m s ≡ Some a → len (insert m s e) ≡ len m
len_known m s e a some = rw (len-insert station_total m s e, some)

pub len_gone : (m : Map) (s : Station) (a : Entry) → get m s ≡ Some a → len (remove m s) ≡ len m - 1
len_gone m s a some = rw (len-remove station_total m s, some)

-- ---- the map of the nodes

abbrev pub Slots : Type 0
Slots = List (Option Learned)

-- no two nodes hold one station
abbrev pub AreAlone : Slots → Type 0
AreAlone slots = (n m : ℕ) (x y : Learned) → slot_at slots n ≡ Some x → slot_at slots m ≡ Some y → x.station ≡ y.station
    → n ≡ m

abbrev pub IsOff : Option Learned → Station → Type 0
IsOff v s = (x : Learned) → v ≡ Some x → x.station ≢ s

-- a station that is at no node isn't in the map
pub entry_none : (slots : Slots) (s : Station) → ((n : ℕ) → IsOff (slot_at slots n) s) → get (entries_of slots) s ≡ None
entry_none [] s off = get-empty station_cmp s
entry_none (None ∷ slots) s off = entry_none slots s (λ n. off (suc n))
entry_none (Some x ∷ slots) s off = get_there (entries_of slots) x.station x.entry s (λ e. off 0 x refl (sym e))
    ∙ entry_none slots s (λ n. off (suc n))

-- the first node that holds the station decides
entry_first : (slots : Slots) (n : ℕ) (x : Learned) → slot_at slots n ≡ Some x
    → ((m : ℕ) → m < n → IsOff (slot_at slots m) x.station) → get (entries_of slots) x.station ≡ Some x.entry
entry_first [] n x is off = cc
entry_first (None ∷ slots) zero x is off = cc
entry_first (None ∷ slots) (suc n) x is off = entry_first slots n x is (λ m h. off (suc m) (omega arith))
entry_first (Some y ∷ slots) zero x is off = rw (same_Some y x is) (get_here (entries_of slots) x.station x.entry)
entry_first (Some y ∷ slots) (suc n) x is off =
    get_there (entries_of slots) y.station y.entry x.station (λ e. off 0 (omega arith) y refl (sym e))
    ∙ entry_first slots n x is (λ m h. off (suc m) (omega arith))

-- a station that is alone is at no node before its own
pub first_alone : (slots : Slots) → AreAlone slots → (n : ℕ) (x : Learned) → slot_at slots n ≡ Some x
    → (m : ℕ) → m < n → IsOff (slot_at slots m) x.station
first_alone slots alone n x is m h y at e = absurd (let same = alone m n y x at is e in omega (arith, same, h))

pub entry_is : (slots : Slots) → AreAlone slots → (n : ℕ) (x : Learned) → slot_at slots n ≡ Some x
    → get (entries_of slots) x.station ≡ Some x.entry
entry_is slots alone n x is = entry_first slots n x is (first_alone slots alone n x is)

-- a station of the map is at a node
pub node_of : (slots : Slots) (s : Station) (e : Entry) → get (entries_of slots) s ≡ Some e
    → (n : ℕ) × (slot_at slots n ≡ Some (record { station = s; entry = e }))
node_of [] s e is = absurd (none-some e (sym (get-empty station_cmp s) ∙ is))
node_of (None ∷ slots) s e is = let r = node_of slots s e is in (suc r.0, r.1)
node_of (Some x ∷ slots) s e is = elim (same_or_other s x.station) [
  | inl same ↦ (0, rw (same, same_Some x.entry e (sym (get_here (entries_of slots) x.station x.entry) ∙ rw same at is)))
  | inr ne ↦ (let r = node_of slots s e (sym (get_there (entries_of slots) x.station x.entry s ne) ∙ is) in
      (suc r.0, r.1))
]

-- a change of a node that holds another station, before and after
pub entry_kept : (slots : Slots) (n : ℕ) (v : Option Learned) (s : Station) → IsOff (slot_at slots n) s → IsOff v s
    → get (entries_of (set slots n v)) s ≡ get (entries_of slots) s
entry_kept [] n v s off off' = refl
entry_kept (u ∷ slots) zero v s off off' = rw (aside u off, aside v off')
  where
    aside : (u : Option Learned) → IsOff u s → get (entries_of (u ∷ slots)) s ≡ get (entries_of slots) s
    aside None off = refl
    aside (Some x) off = get_there (entries_of slots) x.station x.entry s (λ e. off x refl (sym e))
entry_kept (None ∷ slots) (suc n) v s off off' = entry_kept slots n v s off off'
entry_kept (Some x ∷ slots) (suc n) v s off off' =
    simp (get_put, entry_kept slots n v s off off')

pub slot_below : (slots : Slots) (n : ℕ) (x : Learned) → slot_at slots n ≡ Some x → n < length slots
slot_below slots n x is = elim (cases_lt n (length slots)) [
  | inl h ↦ h
  | inr h ↦ absurd (none-some x (sym (get_or_past slots n None h) ∙ is))
]

pub slot_here : (slots : Slots) (n : ℕ) (v : Option Learned) → n < length slots → slot_at (set slots n v) n ≡ v
slot_here slots n v h = get_or-set_same slots n v None h

pub slot_there : (slots : Slots) (n m : ℕ) (v : Option Learned) → m ≢ n → slot_at (set slots n v) m ≡ slot_at slots m
slot_there slots n m v ne = get_or-set_other slots n m v None ne

-- what holds of the item of a list that changes and of each other one
pub at_each : {A : Type 0} (P : ℕ → A → Type 0) (xs : List A) (n : ℕ) (v d : A) → n < length xs → P n v
    → ((m : ℕ) → m ≢ n → P m (get_or xs m d)) → (m : ℕ) → P m (get_or (set xs n v) m d)
at_each P xs n v d h here there m = elim (cases_eq m n) [
  | inl e ↦ rw (e, get_or-set_same xs n v d h) here
  | inr ne ↦ rw (get_or-set_other xs n m v d ne) (there m ne)
]

-- ---- the map after a change of one node

pub entries_set : (slots : Slots) (n : ℕ) (x : Learned) → n < length slots → AreAlone (set slots n (Some x))
    → ((q : Station) → q ≢ x.station → IsOff (slot_at slots n) q)
    → entries_of (set slots n (Some x)) ≡ insert (entries_of slots) x.station x.entry
entries_set slots n x h alone off = alike _ _ x.station
    (entry_is (set slots n (Some x)) alone n x (slot_here slots n (Some x) h)
    ∙ sym (get_here (entries_of slots) x.station x.entry))
    (λ q ne. entry_kept slots n (Some x) q (off q ne) (λ y is e. ne (rw (same_Some x y is) (sym e)))
    ∙ sym (get_there (entries_of slots) x.station x.entry q ne))

pub entries_unset : (slots : Slots) (n : ℕ) (x : Learned) → AreAlone slots → slot_at slots n ≡ Some x
    → entries_of (set slots n None) ≡ remove (entries_of slots) x.station
entries_unset slots n x alone is = alike _ _ x.station
    (entry_none (set slots n None) x.station (at_each (λ m v. IsOff v x.station) slots n None None (slot_below slots n
    x is)
    (λ y e. absurd (none-some y e)) (λ m ne y at same. ne (alone m n y x at is same)))
    ∙ sym (gone_here (entries_of slots) x.station))
    (λ q ne. entry_kept slots n None q (λ y at e. ne (sym e ∙ ap (λ (z : Learned). z.station)
    (same_Some y x (sym at ∙ is)))) (λ y e. absurd (none-some y e)) ∙ sym (gone_there (entries_of slots) x.station q
    ne))
