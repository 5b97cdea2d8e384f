-- The learning table as callers see it (IEEE 802.1D-2004, 7.8 and 7.9), and the effect of each call.
use Rattle.std.specs.Prelude.{ℕ, suc, ◌≤◌, ◌≡◌, ◌==◌, Bool, true, false, Option, Some, None, List, [], ◌∷◌, ◌++◌}
use Rattle.std.specs.Prelude.{length, map, drop, replicate, slice_set, slice_index, slice_index_or, if◌then◌else◌}
use Rattle.std.specs.Prelude.{is_some}
use Rattle.std.specs.List.{range_with_len}
use Rattle.std.specs.Option.{option_map}
use Rattle.std.specs.FinMap.{FinMap, empty, get, insert, remove, len}
use Rattle.ether_wire.specs.Ports.{place_of_port}
use Rattle.mac_arena.specs.declared.station.Station.{Station}
use Rattle.mac_arena.specs.declared.station.Entry.{Entry}
use Rattle.mac_arena.specs.declared.station.Learned.{Learned}
use Rattle.mac_arena.specs.declared.table.Learnt.{Learnt}
use Rattle.mac_arena.specs.declared.table.Learnt.TheVariants.{New, Moved, Refreshed, Pinned, Full}
use Rattle.mac_arena.specs.Station.{station_cmp, is_same, bucket_of}
use Rattle.mac_arena.specs.Entry.{pinned_at, heard_at}

-- The entry of each station; the unpinned stations in the order of their last frames; the stations of each port, port 1
-- first, in the order in which they came to it; the stations of each bucket; and the nodes: the station at each node,
-- and the free nodes, with the next one to be taken first.
pub record Learning : Type 0 where
  pub entries : FinMap station_cmp Entry
  pub ageing : List Station
  pub ports : List (List Station)
  pub chains : List (List Station)
  pub places : List (Option Station)
  pub free : List ℕ
  pub salt : ℕ

abbrev pub entry_at : Learning → Station → Option Entry
entry_at t s = get t.entries s

-- as many stations are learnt as there are places
abbrev pub is_full : Learning → Bool
is_full t = len t.entries == length t.places

abbrev pub bucket_in : Learning → Station → ℕ
bucket_in t s = bucket_of (length t.chains) t.salt s

abbrev pub stations_at : List (List Station) → ℕ → List Station
stations_at lists l = slice_index_or lists l []

abbrev pub learned_of : Learning → Option Station → Option Learned
learned_of t None = None
learned_of t (Some s) = option_map (λ e. record { station = s; entry = e }) (entry_at t s)

-- the station at a place, with its entry
abbrev pub learned_at : Learning → ℕ → Option Learned
learned_at t n = learned_of t (slice_index_or t.places n None)

abbrev pub is_pinned : Option Entry → Bool
is_pinned None = false
is_pinned (Some e) = e.pinned

-- the first of the stations that isn't pinned
abbrev pub first_unpinned : Learning → List Station → Option Station
first_unpinned t [] = None
first_unpinned t (s ∷ rest) = if is_pinned (entry_at t s) then first_unpinned t rest else Some s

-- no station was heard at a later second
abbrev pub IsLatest : Learning → ℕ → Type 0
IsLatest t second = (s : Station) (e : Entry) → entry_at t s ≡ Some e → e.last ≤ second

-- ---- nothing is learnt

abbrev pub nothing_learnt : ℕ → ℕ → ℕ → ℕ → Learning
nothing_learnt capacity ports buckets salt = record {
  entries = empty;
  ageing = [];
  ports = replicate ports [];
  chains = replicate buckets [];
  places = replicate capacity None;
  free = range_with_len 0 capacity;
  salt = salt;
}

-- ---- lists of stations

-- the stations without one of them
abbrev pub left : Station → List Station → List Station
left s [] = []
left s (x ∷ xs) = if is_same x s then xs else x ∷ left s xs

-- a station at the end of a list
abbrev pub joined_by : ℕ → Station → List (List Station) → List (List Station)
joined_by l s lists = slice_set lists l (stations_at lists l ++ s ∷ [])

abbrev pub is_at : Option Station → Station → Bool
is_at None s = false
is_at (Some x) s = is_same x s

-- the first place where the station stands
abbrev pub place_of : List (Option Station) → Station → ℕ
place_of [] s = 0
place_of (p ∷ places) s = if is_at p s then 0 else suc (place_of places s)

-- ---- steps on one station

-- it takes the next free place, and is pinned on the port
abbrev pub entered : Learning → Station → ℕ → Learning
entered t s port = record t {
  entries = insert t.entries s (pinned_at port);
  ports = joined_by (place_of_port port) s t.ports;
  chains = joined_by (bucket_in t s) s t.chains;
  places = slice_set t.places (slice_index t.free 0) (Some s);
  free = drop 1 t.free;
}

-- ---- learning a station on a port

abbrev pub answer_of : Option Entry → Bool → ℕ → Learnt
answer_of None full port = if full then Full else New
answer_of (Some e) full port = if e.pinned then Pinned else (if e.port == port then Refreshed else Moved)

-- the answer: a pinned station or a full table stays unchanged
abbrev pub learnt_of : Learning → Station → ℕ → Learnt
learnt_of t s port = answer_of (entry_at t s) (is_full t) port

-- the table afterwards, by the answer
abbrev pub after_learn : Learning → Station → ℕ → ℕ → Learnt → Learning
after_learn t s port second New = record t {
  entries = insert t.entries s (heard_at port second);
  ageing = t.ageing ++ s ∷ [];
  ports = joined_by (place_of_port port) s t.ports;
  chains = joined_by (bucket_in t s) s t.chains;
  places = slice_set t.places (slice_index t.free 0) (Some s);
  free = drop 1 t.free;
}
after_learn t s port second Moved = record t {
  entries = insert t.entries s (heard_at port second);
  ageing = left s t.ageing ++ s ∷ [];
  ports = joined_by (place_of_port port) s (map (left s) t.ports);
}
after_learn t s port second Refreshed = record t {
  entries = insert t.entries s (heard_at port second);
  ageing = left s t.ageing ++ s ∷ [];
}
after_learn t s port second Pinned = t
after_learn t s port second Full = t

-- ---- pinning a station on a port

-- a station that isn't there finds no place in a full table
abbrev pub can_pin : Learning → Station → Bool
can_pin t s = if is_some (entry_at t s) then true else (if is_full t then false else true)

abbrev pub after_pin_at : Learning → Station → ℕ → Option Entry → Learning
after_pin_at t s port None = if is_full t then t else entered t s port
after_pin_at t s port (Some e) = record t {
  entries = insert t.entries s (pinned_at port);
  ageing = left s t.ageing;
  ports = if e.port == port then t.ports else joined_by (place_of_port port) s (map (left s) t.ports);
}

abbrev pub after_pin : Learning → Station → ℕ → Learning
after_pin t s port = after_pin_at t s port (entry_at t s)

-- ---- removing a station

abbrev pub after_removal_at : Learning → Station → Option Entry → Learning
after_removal_at t s None = t
after_removal_at t s (Some e) = record t {
  entries = remove t.entries s;
  ageing = left s t.ageing;
  ports = map (left s) t.ports;
  chains = map (left s) t.chains;
  places = slice_set t.places (place_of t.places s) None;
  free = t.free ++ place_of t.places s ∷ [];
}

abbrev pub after_removal : Learning → Station → Learning
after_removal t s = after_removal_at t s (entry_at t s)
