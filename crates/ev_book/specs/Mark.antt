-- Marks: the last update that the calls of a pass took or announced.
use Rattle.std.specs.Prelude.{◌≡◌, ◌&&◌, ◌||◌, not, Bool, true, false, Option, Some, None}
use Rattle.std.specs.Ordering.{eq_by_cmp}
use Rattle.route_wire.specs.declared.update.Value.{Value}
use Rattle.route_wire.specs.Order.{register_cmp, is_newer}
use Rattle.route_wire.specs.Fields.{Fields}
use Rattle.route_join.specs.Table.{Table, value_at}
use Rattle.ev_book.specs.declared.mark.Mark.{Mark}

abbrev pub mark_of : Fields → Mark
mark_of u = record { register = u.register; value = u.value }

-- the table has the mark's register, with the mark's value or a newer one
pub record Holds (t : Table) (m : Mark) : Type 0 where
  pub value : Value
  pub there : value_at t m.register ≡ Some value
  pub no_older : is_newer m.value value ≡ false

-- if there is a mark
abbrev pub HoldsAt : Table → Option Mark → Type 0
HoldsAt t None = Unit {0}
HoldsAt t (Some m) = Holds t m

-- of two different values of a register one is newer
abbrev pub is_same : Mark → Mark → Bool
is_same a b = eq_by_cmp register_cmp a.register b.register && not (is_newer a.value b.value || is_newer b.value a.value)

abbrev pub same_mark : Option Mark → Option Mark → Bool
same_mark None None = true
same_mark None (Some b) = false
same_mark (Some a) None = false
same_mark (Some a) (Some b) = is_same a b
