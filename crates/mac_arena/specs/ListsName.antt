-- That the table's lists name exactly its stations.
use Rattle.std.specs.Prelude.{ℕ, ◌+◌, ◌≤◌, ◌≡◌, ◌==◌, ◌&&◌, ◌||◌, Bool, true, false, not, Option, Some, None, List, []}
use Rattle.std.specs.Prelude.{◌∷◌, length, nat_lt, slice_index_or, is_some, is_none}
use Rattle.idx_links.specs.Links.{has, Apart}
use Rattle.mac_arena.specs.declared.station.Station.{Station}
use Rattle.mac_arena.specs.declared.station.Entry.{Entry}
use Rattle.mac_arena.specs.Station.{is_same}
use Rattle.mac_arena.specs.Learning.{Learning, entry_at, bucket_in, stations_at}

-- true if the station is on the list
abbrev pub stands : List Station → Station → Bool
stands [] s = false
stands (x ∷ xs) s = is_same x s || stands xs s

-- no station is on the list twice
abbrev pub AreOnce : List Station → Type 0
AreOnce [] = Unit {0}
AreOnce (x ∷ xs) = (stands xs x ≡ false) × AreOnce xs

abbrev pub is_on : Option Entry → ℕ → Bool
is_on None port = false
is_on (Some e) port = e.port == port

abbrev pub ages : Option Entry → Bool
ages None = false
ages (Some e) = not e.pinned

abbrev pub last_at : Option Entry → ℕ
last_at None = 0
last_at (Some e) = e.last

-- from front to back the last seconds never fall
abbrev pub Rises : Learning → List Station → Type 0
Rises t [] = Unit {0}
Rises t (x ∷ xs) = ((s : Station) → stands xs s ≡ true → last_at (entry_at t x) ≤ last_at (entry_at t s)) × Rises t xs

-- Bucket b's chain holds exactly the stations with bucket b; port p's list, at place p - 1, exactly those at port p;
-- the ageing list exactly the unpinned ones, with last seconds that never fall; each once. Each station is at one node,
-- and every other node is free, once.
pub record ListsName (t : Learning) : Type 0 where
  pub chains : (b : ℕ) (s : Station) → stands (stations_at t.chains b) s
      ≡ (is_some (entry_at t s) && (bucket_in t s == b))
  pub chains_once : (b : ℕ) → AreOnce (stations_at t.chains b)
  pub ports : (l : ℕ) (s : Station) → stands (stations_at t.ports l) s ≡ is_on (entry_at t s) (l + 1)
  pub ports_once : (l : ℕ) → AreOnce (stations_at t.ports l)
  pub ageing : (s : Station) → stands t.ageing s ≡ ages (entry_at t s)
  pub ageing_once : AreOnce t.ageing
  pub rises : Rises t t.ageing
  pub pinned_at_zero : (s : Station) (e : Entry) → entry_at t s ≡ Some e → e.pinned ≡ true → e.last ≡ 0
  pub placed : (s : Station) (e : Entry) → entry_at t s ≡ Some e → (n : ℕ) × (slice_index_or t.places n None ≡ Some s)
  pub known : (n : ℕ) (s : Station) → slice_index_or t.places n None ≡ Some s → is_some (entry_at t s) ≡ true
  pub one_place : (n m : ℕ) (s : Station) → slice_index_or t.places n None ≡ Some s
      → slice_index_or t.places m None ≡ Some s → n ≡ m
  pub free : (n : ℕ) → has t.free n ≡ (nat_lt n (length t.places) && is_none (slice_index_or t.places n None))
  pub free_once : Apart t.free
