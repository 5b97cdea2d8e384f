-- The outbox of a connection: updates that wait to be sent to another process that runs edges.
use Rattle.std.specs.Prelude.{Bool, false, true, List, [], ◌∷◌, ◌++◌, length, drop, nat_lt, if◌then◌else◌}
use Rattle.std.specs.Prelude.{Option, Some, None}
use Rattle.route_wire.specs.Fields.{Fields}

-- the waiting updates, the first one first, and whether the connection is cut off
pub record Outgoing : Type 0 where
  pub waiting : List Fields
  pub is_cut_off : Bool

abbrev pub outgoing : List Fields → Bool → Outgoing
outgoing waiting is_cut_off = record { waiting = waiting; is_cut_off = is_cut_off }

abbrev pub no_announcements : Outgoing
no_announcements = outgoing [] false

-- no update waits any more, and none will
abbrev pub after_cut : Outgoing → Outgoing
after_cut o = outgoing [] true

-- an update comes after the others if fewer than 65,536 wait; otherwise the connection is cut off
abbrev pub after_announcement : Fields → Outgoing → Outgoing
after_announcement u o =
    if o.is_cut_off then o
    else if nat_lt (length o.waiting) 65536 then outgoing (o.waiting ++ u ∷ []) false
    else after_cut o

abbrev pub first_in : List Fields → Option Fields
first_in [] = None
first_in (u ∷ us) = Some u

abbrev pub first_announcement : Outgoing → Option Fields
first_announcement o = first_in o.waiting

abbrev pub after_first : Outgoing → Outgoing
after_first o = outgoing (drop 1 o.waiting) o.is_cut_off
