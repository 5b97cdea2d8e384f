-- The effect of the changes of a table on its entries and their number, and the stations that ageing and the flush of a
-- port remove.
use Rattle.std.specs.Prelude.{◌≡◌, ◌≢◌, ℕ, ◌≤◌, Bool, false, Option, Some, None, IsSome, is_some, List, [], ◌∷◌, length}
use Rattle.std.specs.Prelude.{nat_le, if◌then◌else◌}
use Rattle.std.specs.FinMap.{len}
use Rattle.ether_wire.specs.Ports.{place_of_port}
use Rattle.mac_arena.specs.declared.station.Station.{Station}
use Rattle.mac_arena.specs.declared.station.Entry.{Entry}
use Rattle.mac_arena.specs.declared.table.Learnt.{Learnt}
use Rattle.mac_arena.specs.declared.table.Learnt.TheVariants.{New, Moved, Refreshed, Pinned, Full}
use Rattle.mac_arena.specs.Entry.{pinned_at, heard_at}
use Rattle.mac_arena.specs.Learning.{Learning, entry_at, is_full, is_pinned, stations_at, can_pin, after_removal}

-- ---- one entry

-- the station's entry is this afterwards, and each other one's is as it was
pub record ChangesEntry (old new : Learning) (s : Station) (entry : Option Entry) : Type 0 where
  pub here : entry_at new s ≡ entry
  pub others : (q : Station) → q ≢ s → entry_at new q ≡ entry_at old q

-- the entry of a station that was learnt on the port with this answer
abbrev pub entry_learnt : Option Entry → ℕ → ℕ → Learnt → Option Entry
entry_learnt old port second New = Some (heard_at port second)
entry_learnt old port second Moved = Some (heard_at port second)
entry_learnt old port second Refreshed = Some (heard_at port second)
entry_learnt old port second Pinned = old
entry_learnt old port second Full = old

-- the entry of a station that was pinned on the port; a full table pins no new station
abbrev pub entry_pinned : Learning → Station → ℕ → Option Entry
entry_pinned t s port = if can_pin t s then Some (pinned_at port) else None

-- ---- how many are known

abbrev pub known : Learning → ℕ
known t = len t.entries

-- how many more, once a station was learnt with this answer
abbrev pub more_learnt : Learnt → ℕ
more_learnt New = 1
more_learnt Moved = 0
more_learnt Refreshed = 0
more_learnt Pinned = 0
more_learnt Full = 0

-- how many more, once a station was pinned
abbrev pub more_pinned : Learning → Station → ℕ
more_pinned t s = if is_some (entry_at t s) then 0 else (if is_full t then 0 else 1)

-- how many fewer, once a station was removed
abbrev pub fewer : Learning → Station → ℕ
fewer t s = if is_some (entry_at t s) then 1 else 0

-- no list of a table has more stations than are known
pub record AreFew (t : Learning) : Type 0 where
  pub ageing : length t.ageing ≤ known t
  pub ports : (l : ℕ) → length (stations_at t.ports l) ≤ known t
  pub chains : (b : ℕ) → length (stations_at t.chains b) ≤ known t

-- ---- whom ageing takes

-- last heard at this second or before
abbrev pub is_due : ℕ → Option Entry → Bool
is_due limit None = false
is_due limit (Some e) = nat_le e.last limit

-- the first ones of a list of stations, as long as they are due
abbrev pub due_among : Learning → ℕ → List Station → List Station
due_among t limit [] = []
due_among t limit (s ∷ ss) = if is_due limit (entry_at t s) then s ∷ due_among t limit ss else []

-- those of the ageing list that were last heard at this second or before, oldest first
abbrev pub due_in : Learning → ℕ → List Station
due_in t limit = due_among t limit t.ageing

-- ---- whom the flush of a port takes

abbrev pub unpinned_among : Learning → List Station → List Station
unpinned_among t [] = []
unpinned_among t (s ∷ ss) = if is_pinned (entry_at t s) then unpinned_among t ss else s ∷ unpinned_among t ss

-- the stations behind the port that aren't pinned, in the order in which they came to it
abbrev pub unpinned_on : Learning → ℕ → List Station
unpinned_on t port = unpinned_among t (stations_at t.ports (place_of_port port))

-- ---- one after another

-- of those who are to go, this one is the first; it is known, and the others are those who are to go once it is removed
pub record GoesFirst (going : Learning → List Station) (t : Learning) (s : Station) : Type 0 where
  pub known : IsSome (entry_at t s)
  pub rest : going t ≡ s ∷ going (after_removal t s)
