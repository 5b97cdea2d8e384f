-- The journal of an edge: its additions, and its octets.
use Rattle.std.specs.Prelude.{◌≡◌, ◌⊎◌, ℕ, ◌+◌, ◌*◌, ◌≤◌, Some, List, slice_get, length, Contains, false}
use Rattle.route_wire.specs.Order.{is_newer}
use Rattle.route_join.specs.Table.{Table, IsOrdered}
use Rattle.route_join.specs.Updates.{all_updates}
use Rattle.route_wire.specs.Fields.{Fields}
use Rattle.ev_claims.specs.Speaker.{Speaker, IsOwnAt}

-- The own updates that the edge numbered after this number, up to its counter and in their order.
pub record AreOwnSince (e : Speaker) (before : ℕ) (own : List Fields) : Type 0 where
  pub numbered : (i : ℕ) (u : Fields) → slice_get own i ≡ Some u → IsOwnAt e (before + (i + 1)) u
  pub all : before + length own ≡ e.counter

-- The journal has one update of each register, in a report's order; it was in it, and no newer one of the register.
pub record Compacts (old new : List Fields) : Type 0 where
  pub ordered : IsOrdered new
  pub from : (u : Fields) → Contains new u → Contains old u
  pub newest : (u : Fields) → Contains old u → (v : Fields) × Contains new v × (v.register ≡ u.register)
      × (is_newer u.value v.value ≡ false)

-- ---- before an event is written

-- how many registers a table has: one update of each
abbrev pub register_count : Table → ℕ
register_count t = length (all_updates t)

-- the journal is as it was, or compacted: the table's updates in the order of a report
abbrev pub IsLeft : Table → List Fields → List Fields → Type 0
IsLeft t old new = (new ≡ old) ⊎ (new ≡ all_updates t)

-- The rest has at most two updates for each register, and 64 more.
pub record IsKept (t : Table) (old new : List Fields) : Type 0 where
  pub left : IsLeft t old new
  pub short : length new ≤ 2 * register_count t + 64

-- The rest has no more updates than registers, so nothing could be dropped.
pub record IsFull (t : Table) (old new : List Fields) : Type 0 where
  pub left : IsLeft t old new
  pub least : length new ≡ register_count t
