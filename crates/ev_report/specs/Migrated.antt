-- What a migration makes of updates of versions 1 and 2, in which a register was an originator's network and MAC
-- address,
-- and the IP address a part of what was said.
use Rattle.std.specs.Prelude.{◌≡◌, ℕ, ◌&&◌, ◌==◌, Bool, true, false, if◌then◌else◌, List, [], ◌∷◌, ◌++◌, Contains}
use Rattle.std.specs.declared.cmp.Ordering.{Ordering}
use Rattle.std.specs.Option.{option_cmp}
use Rattle.std.specs.Ordering.{nat_cmp, ordering_then, is_lt, is_eq}
use Rattle.route_wire.specs.declared.update.Key.{Key}
use Rattle.route_wire.specs.declared.update.Key.TheVariants.{Flood, Mac}
use Rattle.route_wire.specs.declared.update.Register.{Register}
use Rattle.route_wire.specs.declared.update.Content.TheVariants.{Withdrawn}
use Rattle.route_wire.specs.Fields.{Fields}
use Rattle.route_wire.specs.Order.{ip_cmp, ip_of, rank_of, sequence_of, label2_of, register_cmp}
use Rattle.route_wire.specs.Encode.{spelling_of}
use Rattle.route_join.specs.Table.{Table, IsOrdered}
use Rattle.route_join.specs.Updates.{all_updates}

-- ---- old registers

-- about the same flood list or MAC address, whatever the IP address
abbrev pub is_same_subject : Key → Key → Bool
is_same_subject (Flood v) (Flood w) = v == w
is_same_subject (Flood v) (Mac w n j) = false
is_same_subject (Mac v m i) (Flood w) = false
is_same_subject (Mac v m i) (Mac w n j) = v == w && m == n

-- the same old register: originator, network, and flood list or MAC address
abbrev pub is_same_old : Register → Register → Bool
is_same_old r q = r.originator == q.originator && is_same_subject r.key q.key

-- Of two updates of an old register: incarnation, then counter, then content, which was withdrawn, dynamic or static,
-- then
-- the sequence number, then the IP address, then the second label.
abbrev pub old_cmp : Fields → Fields → Ordering
old_cmp u w =
    ordering_then (nat_cmp u.value.incarnation w.value.incarnation)
    (ordering_then (nat_cmp u.value.counter w.value.counter)
    (ordering_then (nat_cmp (rank_of u.value.content) (rank_of w.value.content))
    (ordering_then (nat_cmp (sequence_of u.value.content) (sequence_of w.value.content))
    (ordering_then (ip_cmp (ip_of u.register.key) (ip_of w.register.key))
    (option_cmp nat_cmp (label2_of u.value.content) (label2_of w.value.content))))))

-- u is newer than w
abbrev pub is_newer_old : Fields → Fields → Bool
is_newer_old u w = is_lt (old_cmp w u)

-- u is the newest update of r's old register
pub record IsNewest (us : List Fields) (r : Register) (u : Fields) : Type 0 where
  pub own : Contains us u
  pub same : is_same_old u.register r ≡ true
  pub newest : (w : Fields) → Contains us w → is_same_old w.register r ≡ true → is_newer_old w u ≡ false

-- ---- the output

-- the register is withdrawn in the update's place
abbrev pub withdrawn_for : Fields → Register → Fields
withdrawn_for u r = record {
  register = r;
  value = record {
    counter = u.value.counter;
    incarnation = u.value.incarnation;
    content = Withdrawn;
  };
}

-- the result for a register, if u is the newest update of its old register
abbrev pub migrated_at : Fields → Register → Fields
migrated_at u r = if is_eq (register_cmp u.register r) then u else withdrawn_for u r

-- The migration of a set of updates: for each register that one of them names, and no other, what becomes of it, in the
-- order of a report.
pub record AreMigrated (us written : List Fields) : Type 0 where
  pub named : (w : Fields) → Contains written w → (v : Fields) × Contains us v × (v.register ≡ w.register)
  pub made : (w : Fields) → Contains written w → (u : Fields) × IsNewest us w.register u
      × (w ≡ migrated_at u w.register)
  pub all : (v : Fields) → Contains us v → (u : Fields) × IsNewest us v.register u
      × Contains written (migrated_at u v.register)
  pub ordered : IsOrdered written

-- ---- the same by a walk over a table's updates, in which those of an old register are adjacent

abbrev pub newer_old : Fields → Fields → Fields
newer_old best u = if is_newer_old u best then u else best

-- the newest of an old register, from one of its updates and the later ones
abbrev pub newest_along : Fields → List Fields → Fields
newest_along best [] = best
newest_along best (u ∷ us) = if is_same_old best.register u.register then newest_along (newer_old best u) us else best

-- the newest of u's old register, if `best` is that of the update before
abbrev pub entering : Fields → Fields → List Fields → Fields
entering best u us = if is_same_old best.register u.register then best else newest_along u us

abbrev pub migrated_along : Fields → List Fields → List Fields
migrated_along best [] = []
migrated_along best (u ∷ us) = migrated_at (entering best u us) u.register ∷ migrated_along (entering best u us) us

abbrev pub migrated_all : List Fields → List Fields
migrated_all [] = []
migrated_all (u ∷ us) = migrated_along (newest_along u us) (u ∷ us)

-- the migration of a table
abbrev pub migrated_of : Table → List Fields
migrated_of t = migrated_all (all_updates t)

-- ---- octets

-- the records that spell the updates, one after the other
abbrev pub records_of : List Fields → List ℕ
records_of [] = []
records_of (u ∷ us) = spelling_of u ++ records_of us
