-- The lines of an edge's links.
use Rattle.std.specs.Prelude.{ℕ}
use Rattle.ev_peers.specs.declared.outlet.Target.{Target}
use Rattle.ev_peers.specs.declared.outlet.Target.TheVariants.{Port, Edge}

-- the place of a link's line, that of the tunnel first, then those of ports 1, 2 ..; and the address that goes with a
-- frame for it
abbrev pub place_of : Target → ℕ × ℕ
place_of (Port port) = (port, 0)
place_of (Edge address) = (0, address)
