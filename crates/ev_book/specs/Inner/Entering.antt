-- The effect of a call on a book and on the pass.
use Rattle.std.specs.Prelude.{ℕ, ◌+◌}
use Rattle.std.specs.Prelude.{if◌then◌else◌}
use Rattle.ev_claims.specs.LocalRoutes.{LocalRoutes, entries}
use Rattle.ev_edge.specs.declared.event.Event.{Event}
use Rattle.ev_book.specs.Entering.{may_write}

-- how many updates at the most: the one that it brings, and one more than the edge had stations
abbrev pub most_written : Event → LocalRoutes → ℕ
most_written event routes = if may_write event then entries routes + 2 else 0
