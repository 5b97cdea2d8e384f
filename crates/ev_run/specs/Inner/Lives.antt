-- The life of an edge that is kept while its updates come back over a connection.
use Rattle.std.specs.Prelude.{Bool, false, not, ◌&&◌, Option, Some, None}
use Rattle.route_wire.specs.Fields.{Fields}
use Rattle.ev_exchange.specs.Sending.{is_own}
use Rattle.ev_exchange.specs.Life.{lacks, is_left_over}
use Rattle.ev_exchange.specs.declared.life.Life.{Life}

-- the kept life is that of the update's edge, and doesn't lack the update
abbrev pub has_said : Option Life → Fields → Bool
has_said None u = false
has_said (Some l) u = is_own l.originator u && not (lacks l u)

-- the update is a withdrawal of an earlier life of the edge whose life is kept, and is new to the edge
abbrev pub is_kept_over : Option Life → Fields → Bool
is_kept_over None u = false
is_kept_over (Some l) u = is_left_over l u
