-- The content of the nodes: each is on the lists to which its station belongs.
use Rattle.std.specs.Prelude.{ℕ, ◌+◌, ◌<◌, ◌≤◌, ◌≡◌, ◌==◌, ◌&&◌, Bool, true, false, not, Option, Some, None, List, []}
use Rattle.std.specs.Prelude.{◌∷◌, length, map, nat_lt, slice_index_or, is_some, is_none, count_by}
use Rattle.std.specs.Option.{option_map}
use Rattle.std.specs.FinMap.{FinMap, empty, insert, len}
use Rattle.idx_links.specs.Links.{has, Apart, list_at}
use Rattle.mac_arena.specs.declared.station.Station.{Station}
use Rattle.mac_arena.specs.declared.station.Entry.{Entry}
use Rattle.mac_arena.specs.declared.station.Learned.{Learned}
use Rattle.mac_arena.specs.Station.{station_cmp, bucket_of}
use Rattle.mac_arena.specs.Orders.{Orders}
use Rattle.mac_arena.specs.Learning.{Learning}

abbrev pub slot_at : List (Option Learned) → ℕ → Option Learned
slot_at slots n = slice_index_or slots n None

abbrev pub station_of : Option Learned → Station
station_of None = record { vni = 0; mac = 0 }
station_of (Some x) = x.station

abbrev pub last_of : Option Learned → ℕ
last_of None = 0
last_of (Some x) = x.entry.last

abbrev pub station_in : List (Option Learned) → ℕ → Station
station_in slots n = station_of (slot_at slots n)

-- the map that the nodes hold
abbrev pub entries_of : List (Option Learned) → FinMap station_cmp Entry
entries_of [] = empty
entries_of (None ∷ slots) = entries_of slots
entries_of (Some x ∷ slots) = insert (entries_of slots) x.station x.entry

-- the table that callers see
abbrev pub learning_of : Orders → List (Option Learned) → ℕ → Learning
learning_of o slots salt = record {
  entries = entries_of slots;
  ageing = map (station_in slots) o.ageing;
  ports = map (map (station_in slots)) o.ports;
  chains = map (map (station_in slots)) o.chains;
  places = map (option_map (λ x. x.station)) slots;
  free = o.free;
  salt = salt;
}

-- ---- where a node belongs

abbrev pub in_chain : ℕ → ℕ → Option Learned → ℕ → Bool
in_chain buckets salt None b = false
in_chain buckets salt (Some x) b = bucket_of buckets salt x.station == b

abbrev pub in_port : Option Learned → ℕ → Bool
in_port None l = false
in_port (Some x) l = x.entry.port == l + 1

abbrev pub in_ageing : Option Learned → Bool
in_ageing None = false
in_ageing (Some x) = not x.entry.pinned

-- from front to back the seconds never fall
abbrev pub NeverFalls : List (Option Learned) → List ℕ → Type 0
NeverFalls slots [] = Unit {0}
NeverFalls slots (n ∷ rest) = ((m : ℕ) → has rest m ≡ true → last_of (slot_at slots n) ≤ last_of (slot_at slots m))
    × NeverFalls slots rest

pub record IsTable (o : Orders) (slots : List (Option Learned)) (count buckets salt : ℕ) : Type 0 where
  pub nodes : o.nodes ≡ length slots
  pub buckets_are : length o.chains ≡ buckets
  pub some_bucket : 0 < buckets
  pub chained : (b n : ℕ) → has (list_at o.chains b) n ≡ in_chain buckets salt (slot_at slots n) b
  pub ported : (l n : ℕ) → has (list_at o.ports l) n ≡ in_port (slot_at slots n) l
  pub aged : (n : ℕ) → has o.ageing n ≡ in_ageing (slot_at slots n)
  pub freed : (n : ℕ) → has o.free n ≡ (nat_lt n (length slots) && is_none (slot_at slots n))
  pub chains_apart : (b : ℕ) → Apart (list_at o.chains b)
  pub ports_apart : (l : ℕ) → Apart (list_at o.ports l)
  pub ageing_apart : Apart o.ageing
  pub free_apart : Apart o.free
  pub alone : (n m : ℕ) (x y : Learned) → slot_at slots n ≡ Some x → slot_at slots m ≡ Some y → x.station ≡ y.station
      → n ≡ m
  pub timeless : (n : ℕ) (x : Learned) → slot_at slots n ≡ Some x → x.entry.pinned ≡ true → x.entry.last ≡ 0
  pub based : (n : ℕ) (x : Learned) → slot_at slots n ≡ Some x → 0 < x.entry.port
  pub rising : NeverFalls slots o.ageing
  pub counted : count ≡ len (entries_of slots)
  pub filled : count ≡ count_by is_some slots
