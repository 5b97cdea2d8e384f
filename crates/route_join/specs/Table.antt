-- Tables of route updates: each register's newest value.
use Rattle.std.specs.Prelude.{◌≡◌, ℕ, ◌<◌, ◌≤◌, Bool, true, false, Option, Some, None, List, [], ◌∷◌, map, length}
use Rattle.std.specs.Prelude.{Contains, eqb, if◌then◌else◌}
use Rattle.std.specs.List.{IsDistinct, list_any}
use Rattle.std.specs.Option.{option_map}
use Rattle.std.specs.FinMap.{FinMap, get, insert, from_sorted, is_sorted}
use Rattle.route_wire.specs.declared.update.Register.{Register}
use Rattle.route_wire.specs.declared.update.Key.{Key}
use Rattle.route_wire.specs.declared.update.Value.{Value}
use Rattle.route_wire.specs.Fields.{Fields, IsUpdate}
use Rattle.route_wire.specs.Order.{register_cmp, is_newer}

-- the values of registers, in the order of a report
abbrev pub Registers : Type 0
Registers = FinMap register_cmp Value

-- a table: the originators that it listens to, and the value of each register
pub record Table : Type 0 where
  pub originators : List ℕ
  pub registers : Registers

abbrev pub register_of : ℕ → Key → Register
register_of o k = record { originator = o; key = k }

-- the value of the table at a register
abbrev pub value_at : Table → Register → Option Value
value_at t r = get t.registers r

-- that value as an update
abbrev pub update_at : Table → Register → Option Fields
update_at t r = option_map (λ v. record { register = r; value = v }) (value_at t r)

-- an originator that the table listens to
abbrev pub is_listed : Table → ℕ → Bool
is_listed t o = list_any (λ x. eqb x o) t.originators

-- 1 to 64 originators, no two of them equal
pub record AreOriginators (originators : List ℕ) : Type 0 where
  pub some : 0 < length originators
  pub few : length originators ≤ 64
  pub distinct : IsDistinct eqb originators

-- each register is of a listed originator
abbrev pub IsListed : Table → Type 0
IsListed t = (r : Register) (v : Value) → value_at t r ≡ Some v → is_listed t r.originator ≡ true

-- each register and its value make a well formed update
abbrev pub AreWellFormed : Table → Type 0
AreWellFormed t = (r : Register) (v : Value) → value_at t r ≡ Some v → IsUpdate (record { register = r; value = v })

-- ---- one update more

-- the update is at a new register, or newer than the value there
abbrev pub is_news : Option Value → Value → Bool
is_news None w = true
is_news (Some v) w = is_newer w v

-- the table with this value at this register, otherwise unchanged
abbrev pub with_value : Table → Register → Value → Table
with_value t r v = record { originators = t.originators; registers = insert t.registers r v }

-- the table with this update, if it is news
abbrev pub with_update : Table → Fields → Table
with_update t u = if is_news (value_at t u.register) u.value then with_value t u.register u.value else t

-- the table with these updates, one after another
abbrev pub with_updates : Table → List Fields → Table
with_updates t [] = t
with_updates t (u ∷ us) = with_updates (with_update t u) us

-- ---- the table of a set

-- t is the table of this set of updates: each register's newest value, and no other register
pub record IsTableOf (updates : List Fields) (t : Table) : Type 0 where
  pub from : (r : Register) (v : Value) → value_at t r ≡ Some v → Contains updates (record { register = r; value = v })
  pub newest : (u : Fields) → Contains updates u → (v : Value) × (value_at t u.register ≡ Some v)
      × (is_newer u.value v ≡ false)

-- ---- a table as a list of updates in the order of a report

-- each update's register, with its value
abbrev pub entries_of : List Fields → List (Register × Value)
entries_of us = map (λ u. (u.register, u.value)) us

-- at most one update of a register, in the order of their registers
abbrev pub IsOrdered : List Fields → Type 0
IsOrdered us = is_sorted register_cmp (entries_of us) ≡ true

abbrev pub table_from : List ℕ → List Fields → Table
table_from originators us = record { originators = originators; registers = from_sorted (entries_of us) }

-- the invariant of a table
pub record IsKept (originators : List ℕ) (updates : List Fields) : Type 0 where
  pub listeners : AreOriginators originators
  pub ordered : IsOrdered updates
  pub listed : IsListed (table_from originators updates)
  pub formed : AreWellFormed (table_from originators updates)
