-- A table whose lists name its stations is one that nodes hold: each station's node is the place where it stands.
use Rattle.std.proofs.Common.{ℕ, zero, suc, ◌+◌, ◌<◌, ◌≡◌, inl, inr, Bool, true, false, cond, eqb, ◌||◌}
use Rattle.std.proofs.Common.{◌&&◌, Option, Some, None, List, [], ◌∷◌, length, map, refl, ap, sym, ◌∙◌, arith}
use Rattle.std.specs.Prelude.{is_some, is_none, slice_index_or, count_by}
use Rattle.std.specs.Option.{option_map}
use Rattle.std.specs.FinMap.{get, len, len-empty, same_map}
use Rattle.std.proofs.Math.ListN.{get_or-map as get_or-map_same}
use Rattle.std.proofs.lemmas.List.{length-map}
use Rattle.std.proofs.lemmas.List.Sums.{sum_by-cons}
use Rattle.std.proofs.lemmas.Bool.{cases_eq, cases_Bool, eq-eqb, ne_eqb, false≢true, or_right, and_parts}
use Rattle.std.proofs.lemmas.Option.{none-some, same_Some}
use Rattle.idx_links.specs.Links.{has, Apart, list_at}
use Rattle.mac_arena.specs.declared.station.Station.{Station}
use Rattle.mac_arena.specs.declared.station.Entry.{Entry}
use Rattle.mac_arena.specs.declared.station.Learned.{Learned}
use Rattle.mac_arena.specs.Station.{station_cmp, is_same}
use Rattle.mac_arena.specs.Entry.{pinned_at}
use Rattle.mac_arena.specs.Orders.{Orders}
use Rattle.mac_arena.specs.Learning.{Learning, entry_at, stations_at, bucket_in, place_of, is_at}
use Rattle.mac_arena.specs.Nodes.{slot_at, station_in, last_of, entries_of, learning_of, in_chain, in_port}
use Rattle.mac_arena.specs.Nodes.{in_ageing, NeverFalls}
use Rattle.mac_arena.specs.ListsName.{ListsName, stands, AreOnce, Rises, is_on, ages, last_at}
use Rattle.mac_arena.proofs.Entries.{Slots, AreAlone, station_total, station_exact, same_true, same_self, eq_same}
use Rattle.mac_arena.proofs.Entries.{ne_same, entry_is, entry_none, len_new}
use Rattle.mac_arena.proofs.Tables.{Found, same_learning}
use Rattle.mac_arena.proofs.Looking.{on_known, ages_known}

-- ---- who stands where

abbrev place_at : Learning → ℕ → Option Station
place_at v n = slice_index_or v.places n None

abbrev pub entry_or : Option Entry → Entry
entry_or None = pinned_at 0
entry_or (Some e) = e

abbrev pub learned_as : Learning → Station → Learned
learned_as v s = record { station = s; entry = entry_or (entry_at v s) }

abbrev pub slots_of : Learning → Slots
slots_of v = map (option_map (learned_as v)) v.places

abbrev pub node : Learning → Station → ℕ
node v s = place_of v.places s

abbrev pub nodes_of : Learning → Orders
nodes_of v = record {
  nodes = length v.places;
  chains = map (map (node v)) v.chains;
  ports = map (map (node v)) v.ports;
  ageing = map (node v) v.ageing;
  free = v.free;
}

abbrev pub buckets_of : Learning → ℕ
buckets_of v = length v.chains

found_place : (places : List (Option Station)) (n : ℕ) (s : Station) → slice_index_or places n None ≡ Some s
    → slice_index_or places (place_of places s) None ≡ Some s
found_place [] n s is = cc
found_place (None ∷ places) zero s is = cc
found_place (None ∷ places) (suc n) s is = found_place places n s is
found_place (Some x ∷ places) n s is = elim (cases_Bool (is_same x s)) [
  | inl t ↦ rw (t, same_true x s t)
  | inr t ↦ rw t (elim n as (λ n. slice_index_or (Some x ∷ places) n None ≡ Some s
      → slice_index_or places (place_of places s) None ≡ Some s) [
        | zero ↦ λ is. absurd (false≢true (sym t ∙ eq_same x s (same_Some x s is)))
        | suc n ↦ found_place places n s
      ] is)
]

is_there : (o : Option Entry) → is_some o ≡ true → (e : Entry) × (o ≡ Some e)
is_there None h = absurd (false≢true h)
is_there (Some e) h = (e, refl)

-- the station at a place on a list
abbrev on_list : List Station → Option Station → Bool
on_list xs None = false
on_list xs (Some s) = stands xs s

module _ (v : Learning) (named : ListsName v) where
  slot_is : (n : ℕ) → slot_at (slots_of v) n ≡ option_map (learned_as v) (place_at v n)
  slot_is n = get_or-map_same (option_map (learned_as v)) v.places n None

  -- a known station is at its node
  known_place : (s : Station) → is_some (entry_at v s) ≡ true → place_at v (node v s) ≡ Some s
  known_place s some = (let e = is_there (entry_at v s) some in let at = named.placed s e.0 e.1 in
      found_place v.places at.0 s at.1)

  -- whose node is it
  same_node : (x : Station) (n : ℕ) → place_at v (node v x) ≡ Some x → eqb (node v x) n ≡ is_at (place_at v n) x
  same_node x n at = elim (cases_eq (node v x) n) [
    | inl e ↦ rw (eq-eqb (node v x) n e, ← e, at, same_self x)
    | inr ne ↦ rw (ne_eqb (node v x) n ne) (sym (off (place_at v n)
        (λ is. ne (named.one_place (node v x) n x at is))))
  ]
    where
      off : (o : Option Station) → (o ≡ Some x → ⊥) → is_at o x ≡ false
      off None never = refl
      off (Some s) never = ne_same s x (λ same. never (ap Some same))

  turned : (o : Option Station) (x : Station) (xs : List Station) → (is_at o x || on_list xs o) ≡ on_list (x ∷ xs) o
  turned None x xs = refl
  turned (Some s) x xs = elim (cases_Bool (is_same s x)) [
    | inl t ↦ rw (t, eq_same x s (sym (same_true s x t)))
    | inr t ↦ rw (t, ne_same x s (λ e. false≢true (sym t ∙ eq_same s x (sym e))))
  ]

  abbrev AllKnown : List Station → Type 0
  AllKnown xs = (s : Station) → stands xs s ≡ true → is_some (entry_at v s) ≡ true

  later : (x : Station) (xs : List Station) → AllKnown (x ∷ xs) → AllKnown xs
  later x xs h s on = h s (or_right (is_same x s) (stands xs s) on)

  first : (x : Station) (xs : List Station) → AllKnown (x ∷ xs) → place_at v (node v x) ≡ Some x
  first x xs h = known_place x (h x (rw (same_self x)))

  has_node : (xs : List Station) (n : ℕ) → AllKnown xs → has (map (node v) xs) n ≡ on_list xs (place_at v n)
  has_node [] n h = none (place_at v n)
    where
      none : (o : Option Station) → false ≡ on_list [] o
      none None = refl
      none (Some s) = refl
  has_node (x ∷ xs) n h = (λ i. same_node x n (first x xs h) i || has_node xs n (later x xs h) i)
      ∙ turned (place_at v n) x xs

  nodes_apart : (xs : List Station) → AllKnown xs → AreOnce xs → Apart (map (node v) xs)
  nodes_apart [] h once = tt
  nodes_apart (x ∷ xs) h once = (
    has_node xs (node v x) (later x xs h) ∙ ap (on_list xs) (first x xs h) ∙ once.0,
    nodes_apart xs (later x xs h) once.1,
  )

  -- ---- the content of each list

  on_chain : (b : ℕ) → AllKnown (stations_at v.chains b)
  on_chain b s on = (and_parts _ _ (sym (named.chains b s) ∙ on)).0

  on_port : (l : ℕ) → AllKnown (stations_at v.ports l)
  on_port l s on = on_known (entry_at v s) (l + 1) (sym (named.ports l s) ∙ on)

  on_ageing : AllKnown v.ageing
  on_ageing s on = ages_known (entry_at v s) (sym (named.ageing s) ∙ on)

  -- a statement about a node holds for the entry of its station
  said : (F : Option Learned → Bool) (G : Station → Option Entry → Bool) (xs : List Station) → F None ≡ false
      → ((s : Station) (e : Entry) → F (Some (record { station = s; entry = e })) ≡ G s (Some e))
      → ((s : Station) → stands xs s ≡ G s (entry_at v s)) → AllKnown xs → (n : ℕ)
      → has (map (node v) xs) n ≡ F (slot_at (slots_of v) n)
  said F G xs none some names h n = rw (has_node xs n h, slot_is n) (go (place_at v n) refl)
    where
      go : (p : Option Station) → place_at v n ≡ p → on_list xs p ≡ F (option_map (learned_as v) p)
      go None is = sym none
      go (Some s) is = (let e = is_there (entry_at v s) (named.known n s is) in rw (names s, e.1) (sym (some s e.0)))

  from_slot : (n : ℕ) (x : Learned) → slot_at (slots_of v) n ≡ Some x
      → (place_at v n ≡ Some x.station) × (entry_at v x.station ≡ Some x.entry)
  from_slot n x is = go (place_at v n) refl (sym (slot_is n) ∙ is)
    where
      go : (p : Option Station) → place_at v n ≡ p → option_map (learned_as v) p ≡ Some x
          → (place_at v n ≡ Some x.station) × (entry_at v x.station ≡ Some x.entry)
      go None at e = absurd (none-some x e)
      go (Some s) at e = (let known = is_there (entry_at v s) (named.known n s at) in
          rw (← same_Some (learned_as v s) x e) (at, rw known.1))

  alone : AreAlone (slots_of v)
  alone n m x y at at' same = named.one_place n m x.station (from_slot n x at).0 ((from_slot m y at').0
      ∙ ap Some (sym same))

  -- who is last heard when
  last_is : (n : ℕ) (s : Station) → place_at v n ≡ Some s → last_of (slot_at (slots_of v) n) ≡ last_at (entry_at v s)
  last_is n s at = (let e = is_there (entry_at v s) (named.known n s at) in rw (slot_is n, at, e.1))

  stands_at : (xs : List Station) (n : ℕ) (p : Option Station) → place_at v n ≡ p → on_list xs p ≡ true
      → (s : Station) × (place_at v n ≡ Some s) × (stands xs s ≡ true)
  stands_at xs n None is h = absurd (false≢true h)
  stands_at xs n (Some s) is h = (s, is, h)

  rises : (xs : List Station) → AllKnown xs → Rises v xs → NeverFalls (slots_of v) (map (node v) xs)
  rises [] h r = tt
  rises (x ∷ xs) h r = (
    λ m on.
        (let s = stands_at xs m (place_at v m) refl (sym (has_node xs m (later x xs h)) ∙ on) in
        let low = r.0 s.0 s.2 in
        let here = last_is (node v x) x (first x xs h) in
        let there = last_is m s.0 s.1 in
        omega (arith, low, here, there)),
    rises xs (later x xs h) r.1,
  )

  -- ---- the table of nodes is seen as this one

  same_entries : entries_of (slots_of v) ≡ v.entries
  same_entries = same_map station_total station_exact (entries_of (slots_of v)) v.entries
      (λ q. go q (entry_at v q) refl)
    where
      go : (q : Station) (o : Option Entry) → entry_at v q ≡ o → get (entries_of (slots_of v)) q ≡ get v.entries q
      go q None is = entry_none (slots_of v) q (λ n x at same.
          none-some x.entry (sym is ∙ rw same at (from_slot n x at).1)) ∙ sym is
      go q (Some e) is = rw is at (entry_is (slots_of v) alone (node v q) (learned_as v q)
          (rw (slot_is (node v q), known_place q (rw is)))) ∙ sym is

  same_list : (xs : List Station) → AllKnown xs → map (station_in (slots_of v)) (map (node v) xs) ≡ xs
  same_list [] h = refl
  same_list (x ∷ xs) h = rw (slot_is (node v x), first x xs h, same_list xs (later x xs h))

  same_lists : (xss : List (List Station)) → ((l : ℕ) → AllKnown (stations_at xss l))
      → map (map (station_in (slots_of v))) (map (map (node v)) xss) ≡ xss
  same_lists [] h = refl
  same_lists (xs ∷ xss) h = λ i. same_list xs (h 0) i ∷ same_lists xss (λ l. h (suc l)) i

  same_places : (places : List (Option Station)) → map (option_map (λ (x : Learned). x.station))
      (map (option_map (learned_as v)) places) ≡ places
  same_places [] = refl
  same_places (None ∷ places) = ap (λ ps. None ∷ ps) (same_places places)
  same_places (Some s ∷ places) = ap (λ ps. Some s ∷ ps) (same_places places)

  same_seen : learning_of (nodes_of v) (slots_of v) v.salt ≡ v
  same_seen = same_learning same_entries (same_list v.ageing on_ageing) (same_lists v.ports on_port)
      (same_lists v.chains on_chain) (same_places v.places) refl refl

-- ---- counted

filled_by : (slots : Slots) → AreAlone slots → len (entries_of slots) ≡ count_by is_some slots
filled_by [] alone = len-empty station_cmp Entry
filled_by (None ∷ slots) alone = filled_by slots (λ n m x y at at' same.
    (let s = alone (suc n) (suc m) x y at at' same in omega (arith, s)))
filled_by (Some x ∷ slots) alone =
    let rest = filled_by slots (λ n m y z at at' same. (let s = alone (suc n) (suc m) y z at at' same in
    omega (arith, s))) in
    let step : count_by is_some (Some x ∷ slots) ≡ 1 + count_by is_some slots =
    sum_by-cons (λ (o : Option Learned). cond (is_some o) 1 0) (Some x) slots in
    let new = len_new (entries_of slots) x.station x.entry
    (entry_none slots x.station (λ n y at same. (let s = alone (suc n) 0 y x at refl same in omega (arith, s)))) in
    omega (arith, rest, step, new)

-- ---- the whole

abbrev pub IsBased : Learning → Type 0
IsBased v = (s : Station) (e : Entry) → entry_at v s ≡ Some e → 0 < e.port

pub placed : (v : Learning) (named : ListsName v) (some : 0 < length v.chains) (based : IsBased v)
    → Found (nodes_of v) (slots_of v) (len (entries_of (slots_of v))) (buckets_of v) v.salt v
placed v named some based = record {
  table = record {
    nodes = rw length-map;
    buckets_are = length-map v.chains (map (node v));
    some_bucket = some;
    chained = λ b. rw (chain b) (said v named (λ o. in_chain (buckets_of v) v.salt o b)
        (λ s o. is_some o && eqb (bucket_in v s) b) (stations_at v.chains b) refl (λ s e. refl) (named.chains b)
        (on_chain v named b));
    ported = λ l. rw (port l) (said v named (λ o. in_port o l) (λ s o. is_on o (l + 1)) (stations_at v.ports l) refl
        (λ s e. refl) (named.ports l) (on_port v named l));
    aged = said v named in_ageing (λ s o. ages o) v.ageing refl (λ s e. refl) named.ageing (on_ageing v named);
    freed = λ n. rw (length-map, slot_is v named n, nobody (place_at v n)) (named.free n);
    chains_apart = λ b. rw (chain b) (nodes_apart v named (stations_at v.chains b) (on_chain v named b)
        (named.chains_once b));
    ports_apart = λ l. rw (port l) (nodes_apart v named (stations_at v.ports l) (on_port v named l)
        (named.ports_once l));
    ageing_apart = nodes_apart v named v.ageing (on_ageing v named) named.ageing_once;
    free_apart = named.free_once;
    alone = alone v named;
    timeless = λ n x at pinned. named.pinned_at_zero x.station x.entry (from_slot v named n x at).1 pinned;
    based = λ n x at. based x.station x.entry (from_slot v named n x at).1;
    rising = rises v named v.ageing (on_ageing v named) named.rises;
    counted = refl;
    filled = filled_by (slots_of v) (alone v named);
  };
  seen = same_seen v named;
}
  where
    chain : (b : ℕ) → list_at (map (map (node v)) v.chains) b ≡ map (node v) (stations_at v.chains b)
    chain b = get_or-map_same (map (node v)) v.chains b []

    port : (l : ℕ) → list_at (map (map (node v)) v.ports) l ≡ map (node v) (stations_at v.ports l)
    port l = get_or-map_same (map (node v)) v.ports l []

    nobody : (o : Option Station) → is_none (option_map (learned_as v) o) ≡ is_none o
    nobody None = refl
    nobody (Some s) = refl
