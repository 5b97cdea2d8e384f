-- the lists of stations name the table's stations, since the lists of nodes do
use Rattle.std.proofs.Common.{ℕ, ◌+◌, ◌≡◌, ◌≢◌, inl, inr, Bool, true, false, eqb, ◌&&◌, Option, Some, None, List}
use Rattle.std.proofs.Common.{[], ◌∷◌, get_or, map, refl, ap, sym, ◌∙◌}
use Rattle.std.specs.Prelude.{is_some, is_none}
use Rattle.std.specs.Option.{option_map}
use Rattle.std.specs.FinMap.{get}
use Rattle.std.proofs.lemmas.List.{length-map}
use Rattle.std.proofs.lemmas.Bool.{cases_eq, eq-eqb, ne_eqb, false≢true, or_cases}
use Rattle.std.proofs.lemmas.Option.{none-some, same_Some}
use Rattle.idx_links.specs.Links.{has, Apart, list_at}
use Rattle.mac_arena.specs.declared.station.Station.{Station}
use Rattle.mac_arena.specs.declared.station.Entry.{Entry}
use Rattle.mac_arena.specs.declared.station.Learned.{Learned}
use Rattle.mac_arena.specs.Station.{is_same, bucket_of}
use Rattle.mac_arena.specs.Orders.{Orders}
use Rattle.mac_arena.specs.Learning.{Learning}
use Rattle.mac_arena.specs.Nodes.{slot_at, station_in, last_of, entries_of, learning_of, in_chain, in_port}
use Rattle.mac_arena.specs.Nodes.{in_ageing, NeverFalls, IsTable}
use Rattle.mac_arena.specs.ListsName.{stands, AreOnce, is_on, ages, last_at, Rises, ListsName}
use Rattle.mac_arena.proofs.Entries.{Slots, eq_same, ne_same, same_true, entry_is, node_of}
use Rattle.mac_arena.proofs.Steps.{IsOnly, on_front, on_rest, stations_of, places_of}
use Rattle.mac_arena.proofs.Tables.{Found, place_seen, stands_nowhere, only_one, ageing_used, ports_used, chains_used}

stands_is : (f : ℕ → Station) (xs : List ℕ) (n : ℕ) → IsOnly f n xs → stands (map f xs) (f n) ≡ has xs n
stands_is f [] n only = refl
stands_is f (x ∷ xs) n only = elim (cases_eq x n) [
  | inl e ↦ rw (eq-eqb x n e, eq_same (f x) (f n) (ap f e))
  | inr e ↦ rw (ne_eqb x n e, ne_same (f x) (f n) (λ s. e (only x (on_front x xs) s)))
      (stands_is f xs n (λ m on. only m (on_rest x xs m on)))
]

stands_none : (f : ℕ → Station) (xs : List ℕ) (s : Station) → ((m : ℕ) → has xs m ≡ true → f m ≢ s)
    → stands (map f xs) s ≡ false
stands_none f [] s off = refl
stands_none f (x ∷ xs) s off = rw (ne_same (f x) s (off x (on_front x xs)))
    (stands_none f xs s (λ m on. off m (on_rest x xs m on)))

once : (f : ℕ → Station) (xs : List ℕ) → Apart xs → ((n : ℕ) → has xs n ≡ true → IsOnly f n xs) → AreOnce (map f xs)
once f [] apart only = tt
once f (x ∷ xs) apart only = (
  stands_is f xs x (λ m on. only x (on_front x xs) m (on_rest x xs m on)) ∙ apart.0,
  once f xs apart.1 (λ n on m on'. only n (on_rest x xs n on) m (on_rest x xs m on')),
)

-- a station on the list of stations belongs to a node on the list of nodes
from_stands : (f : ℕ → Station) (xs : List ℕ) (s : Station) → stands (map f xs) s ≡ true
    → (m : ℕ) × (has xs m ≡ true) × (f m ≡ s)
from_stands f [] s on = absurd (false≢true on)
from_stands f (x ∷ xs) s on = elim (or_cases (is_same (f x) s) (stands (map f xs) s) on) [
  | inl e ↦ (x, on_front x xs, same_true (f x) s e)
  | inr e ↦ (let r = from_stands f xs s e in (r.0, on_rest x xs r.0 r.1, r.2))
]

module _ {o : Orders} {slots : Slots} {count buckets salt : ℕ} (t : IsTable o slots count buckets salt) where
  abbrev Used : List ℕ → Type 0
  Used xs = (m : ℕ) → has xs m ≡ true → (y : Learned) × (slot_at slots m ≡ Some y)

  -- the station on a list, by the slot of its node
  listed : (F : Option Learned → Bool) (xs : List ℕ) → ((m : ℕ) → has xs m ≡ F (slot_at slots m)) → Used xs
      → (G : Option Entry → Station → Bool) → ((s : Station) → G None s ≡ false)
      → ((s : Station) (e : Entry) → F (Some (record { station = s; entry = e })) ≡ G (Some e) s)
      → (s : Station) → stands (map (station_in slots) xs) s ≡ G (get (entries_of slots) s) s
  listed F xs names used G none same s = go (get (entries_of slots) s) refl
    where
      go : (a : Option Entry) → get (entries_of slots) s ≡ a → stands (map (station_in slots) xs) s ≡ G a s
      go None e = rw (none s) (stands_none (station_in slots) xs s (λ m on is. (let y = used m on in
          stands_nowhere slots s t.alone e m y.0 y.1 (rw y.1 at is))))
      go (Some a) e =
          let at = node_of slots s a e in
          rw (names at.0, at.1, same s a) at
          (stands_is (station_in slots) xs at.0 (only_one t at.0 _ at.1 xs used))

  once_listed : (xs : List ℕ) → Apart xs → Used xs → AreOnce (map (station_in slots) xs)
  once_listed xs apart used = once (station_in slots) xs apart
      (λ n on. (let y = used n on in only_one t n y.0 y.1 xs used))

  last_seen : (n : ℕ) (y : Learned) → slot_at slots n ≡ Some y
      → last_at (get (entries_of slots) (station_in slots n)) ≡ last_of (slot_at slots n)
  last_seen n y is = rw (is, entry_is slots t.alone n y is)

  rises_listed : (xs : List ℕ) → Used xs → NeverFalls slots xs
      → Rises (learning_of o slots salt) (map (station_in slots) xs)
  rises_listed [] used h = tt
  rises_listed (x ∷ xs) used h = (
    λ s on.
        (let r = from_stands (station_in slots) xs s on in
        let first = used x (on_front x xs) in
        let y = used r.0 (on_rest x xs r.0 r.1) in
        rw (last_seen x first.0 first.1, ← r.2, last_seen r.0 y.0 y.1) (h.0 r.0 r.1)),
    rises_listed xs (λ m on. used m (on_rest x xs m on)) h.1,
  )

  slot_from : (n : ℕ) (s : Station) → get_or (places_of slots) n None ≡ Some s
      → (x : Learned) × (slot_at slots n ≡ Some x) × (x.station ≡ s)
  slot_from n s at = go (slot_at slots n) refl (rw (place_seen slots n) at at)
    where
      go : (v : Option Learned) → slot_at slots n ≡ v → option_map (λ (x : Learned). x.station) v ≡ Some s
          → (x : Learned) × (slot_at slots n ≡ Some x) × (x.station ≡ s)
      go None is h = absurd (none-some s h)
      go (Some x) is h = (x, is, same_Some x.station s h)

  none_seen : (v : Option Learned) → is_none (option_map (λ (x : Learned). x.station) v) ≡ is_none v
  none_seen None = refl
  none_seen (Some x) = refl

  pub names_lists : ListsName (learning_of o slots salt)
  names_lists = record {
    chains = λ b s. rw (stations_of (station_in slots) o.chains b, length-map, t.buckets_are)
        (listed (λ v. in_chain buckets salt v b) (list_at o.chains b) (t.chained b) (chains_used t b)
        (λ a s. is_some a && eqb (bucket_of buckets salt s) b) (λ s. refl) (λ s e. refl) s);
    chains_once = λ b. rw (stations_of (station_in slots) o.chains b)
        (once_listed (list_at o.chains b) (t.chains_apart b) (chains_used t b));
    ports = λ l s. rw (stations_of (station_in slots) o.ports l)
        (listed (λ v. in_port v l) (list_at o.ports l) (t.ported l) (ports_used t l) (λ a s. is_on a (l + 1))
        (λ s. refl) (λ s e. refl) s);
    ports_once = λ l. rw (stations_of (station_in slots) o.ports l)
        (once_listed (list_at o.ports l) (t.ports_apart l) (ports_used t l));
    ageing = listed in_ageing o.ageing t.aged (ageing_used t) (λ a s. ages a) (λ s. refl) (λ s e. refl);
    ageing_once = once_listed o.ageing t.ageing_apart (ageing_used t);
    rises = rises_listed o.ageing (ageing_used t) t.rising;
    pinned_at_zero = λ s e is p. (let at = node_of slots s e is in t.timeless at.0 _ at.1 p);
    placed = λ s e is. (let at = node_of slots s e is in (at.0, rw (place_seen slots at.0, at.1)));
    known = λ n s is. (let x = slot_from n s is in rw (← x.2, entry_is slots t.alone n x.0 x.1));
    one_place = λ n m s at at'. (let x = slot_from n s at in let y = slot_from m s at' in
        t.alone n m x.0 y.0 x.1 y.1 (x.2 ∙ sym y.2));
    free = λ n. rw (length-map, place_seen slots n, none_seen) (t.freed n);
    free_once = t.free_apart;
  }

pub lists_named : {o : Orders} {slots : Slots} {count buckets salt : ℕ} {v : Learning}
    (found : Found o slots count buckets salt v) → ListsName v
lists_named found = rw (← found.seen) (names_lists found.table)
