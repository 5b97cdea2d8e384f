-- The result of an update for a table.
use Rattle.std.specs.Prelude.{ℕ, if◌then◌else◌}
use Rattle.route_join.specs.declared.table.Taken.{Taken}
use Rattle.route_join.specs.declared.table.Taken.TheVariants.{Newer, Known}
use Rattle.route_join.specs.declared.table.TakeError.{TakeError}
use Rattle.route_join.specs.declared.table.TakeError.TheVariants.{UnknownOriginator, NoMemory}
use Rattle.route_wire.specs.Numbers.{UNKNOWN_ORIGINATOR, NO_MEMORY}
use Rattle.route_wire.specs.Fields.{Fields}
use Rattle.route_join.specs.Table.{Table, value_at, is_news}

-- newer exactly if the update is news
abbrev pub taken_of : Table → Fields → Taken
taken_of t u = if is_news (value_at t u.register) u.value then Newer else Known

-- the numbers of the refusals
abbrev pub number_of : TakeError → ℕ
number_of UnknownOriginator = UNKNOWN_ORIGINATOR
number_of NoMemory = NO_MEMORY
