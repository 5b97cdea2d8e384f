-- The updates after a register in the order of a report, and the pages of a report.
use Rattle.std.specs.Prelude.{◌≡◌, ℕ, ◌-◌, ◌≤◌, Bool, true, false, Option, Some, None, List, length, take, nat_lt}
use Rattle.std.specs.Prelude.{slice_get}
use Rattle.std.specs.List.{filter}
use Rattle.std.specs.Ordering.{is_lt, is_eq}
use Rattle.std.specs.FinMap.Entries.{below_all}
use Rattle.route_wire.specs.declared.update.Register.{Register}
use Rattle.route_wire.specs.Fields.{Fields}
use Rattle.route_wire.specs.Order.{register_cmp}
use Rattle.route_join.specs.Table.{Table, IsOrdered, entries_of}
use Rattle.route_join.specs.Updates.{all_updates}

-- the update's register comes after this one
abbrev pub comes_after : Register → Fields → Bool
comes_after r u = is_lt (register_cmp r u.register)

-- the updates whose registers come after this one
abbrev pub updates_after : Register → List Fields → List Fields
updates_after r us = filter (comes_after r) us

-- all updates, or those after a register
abbrev pub updates_from : Option Register → List Fields → List Fields
updates_from None us = us
updates_from (Some r) us = updates_after r us

-- ---- pages

-- the most updates of a page
abbrev pub page_len : ℕ
page_len = 256

-- the page of a table's report after this register, or the first page: the next 256 updates, or those that are left
abbrev pub page_at : Option Register → Table → List Fields
page_at after t = take page_len (updates_from after (all_updates t))

-- a page with fewer updates is the last one
abbrev pub is_last : List Fields → Bool
is_last us = nat_lt (length us) page_len

-- a page: the register after which it begins, if it isn't the first one, and its updates
pub record PageView : Type 0 where
  pub after : Option Register
  pub updates : List Fields

-- each update comes after the register, if there is one
abbrev pub AreAfter : Option Register → List Fields → Type 0
AreAfter None us = Unit {0}
AreAfter (Some r) us = below_all register_cmp r (entries_of us) ≡ true

-- at most 256 updates, in the order of a report, each after the register
pub record IsPage (after : Option Register) (us : List Fields) : Type 0 where
  pub few : length us ≤ page_len
  pub ordered : IsOrdered us
  pub behind : AreAfter after us

-- two registers after which pages begin are the same
abbrev pub is_same_place : Option Register → Option Register → Bool
is_same_place None None = true
is_same_place None (Some q) = false
is_same_place (Some r) None = false
is_same_place (Some r) (Some q) = is_eq (register_cmp r q)

-- the update's register, or this one if there is no update
abbrev pub register_or : Option Register → Option Fields → Option Register
register_or r None = r
register_or r (Some u) = Some u.register

-- the register of the last update, or this one if there is no update
abbrev pub last_from : Option Register → List Fields → Option Register
last_from r us = register_or r (slice_get us (length us - 1))
