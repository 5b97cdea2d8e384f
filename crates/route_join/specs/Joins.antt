-- The join of two tables: each register of either, with the newer of its values.
use Rattle.std.specs.Prelude.{◌≡◌, ℕ, ◌<◌, length, take, slice_index_or, Option, Some, None, List, [], ◌∷◌}
use Rattle.std.specs.Prelude.{if◌then◌else◌}
use Rattle.std.specs.FinMap.{entries}
use Rattle.route_wire.specs.declared.update.Register.{Register}
use Rattle.route_wire.specs.declared.update.Value.{Value}
use Rattle.route_wire.specs.Order.{is_newer}
use Rattle.route_join.specs.Table.{Table, value_at, with_update}

-- the newer of two values, if there are any
abbrev pub newer_of : Option Value → Option Value → Option Value
newer_of None b = b
newer_of (Some a) None = Some a
newer_of (Some a) (Some b) = if is_newer b a then Some b else Some a

-- t has at each register the newer of the values in a and b
abbrev pub IsJoin : Table → Table → Table → Type 0
IsJoin a b t = (r : Register) → value_at t r ≡ newer_of (value_at a r) (value_at b r)

-- the table with the values of these entries, if they are news, one after another
abbrev pub with_entries : Table → List (Register × Value) → Table
with_entries t [] = t
with_entries t (e ∷ es) = with_entries (with_update t (record { register = e.0; value = e.1 })) es

-- both tables' registers, each with the newer of its values
abbrev pub join : Table → Table → Table
join s t = with_entries s (entries t.registers)

-- The first k registers of t are joined to s, and there was no memory for the next one, which is new.
pub record IsPartJoin (s t : Table) (k : ℕ) (j : Table) : Type 0 where
  pub within : k < length (entries t.registers)
  pub joined : j ≡ with_entries s (take k (entries t.registers))
  pub fresh : (d : Register × Value) → value_at j (slice_index_or (entries t.registers) k d).0 ≡ None
