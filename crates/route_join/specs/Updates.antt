-- A table's updates in the order of a report: of all registers, or of those of one MAC address.
use Rattle.std.specs.Prelude.{◌≡◌, ℕ, true, Some, List, map, Contains}
use Rattle.std.specs.List.{filter}
use Rattle.std.specs.FinMap.{entries}
use Rattle.route_wire.specs.declared.update.Register.{Register}
use Rattle.route_wire.specs.declared.update.Value.{Value}
use Rattle.route_wire.specs.Fields.{Fields}
use Rattle.route_join.specs.Table.{Table, IsOrdered, value_at}
use Rattle.route_join.specs.Owner.{is_about}

-- a register's value as an update
abbrev pub update_from : Register × Value → Fields
update_from e = record { register = e.0; value = e.1 }

-- the updates of all registers
abbrev pub all_updates : Table → List Fields
all_updates t = map update_from (entries t.registers)

-- the registers of an address, with any originator and IP address
abbrev pub about : ℕ → ℕ → List (Register × Value) → List (Register × Value)
about vni mac es = filter (λ (e : Register × Value). is_about vni mac e.0.key) es

-- their updates
abbrev pub updates_of : Table → ℕ → ℕ → List Fields
updates_of t vni mac = map update_from (about vni mac (entries t.registers))

-- The updates are all of the table's: each is its register's value, each register that has a value is among them, and
-- they are in the order of a report, at most one of a register.
pub record AreAllUpdates (t : Table) (us : List Fields) : Type 0 where
  pub own : (u : Fields) → Contains us u → value_at t u.register ≡ Some u.value
  pub all : (r : Register) (v : Value) → value_at t r ≡ Some v → Contains us (record { register = r; value = v })
  pub ordered : IsOrdered us

-- likewise for the registers of the address
pub record AreUpdatesOf (t : Table) (vni mac : ℕ) (us : List Fields) : Type 0 where
  pub about : (u : Fields) → Contains us u → is_about vni mac u.register.key ≡ true
  pub own : (u : Fields) → Contains us u → value_at t u.register ≡ Some u.value
  pub all : (r : Register) (v : Value) → is_about vni mac r.key ≡ true → value_at t r ≡ Some v
      → Contains us (record { register = r; value = v })
  pub ordered : IsOrdered us
