-- The storm limit of a port: how many group and unknown frames of it the edge takes on in a second.
use Rattle.std.specs.Prelude.{ℕ, ◌+◌, ◌==◌, ◌&&◌, ◌||◌, Bool, true, false, Option, Some, None, is_some, List}
use Rattle.std.specs.Prelude.{if◌then◌else◌, map, slice_get, slice_set}
use Rattle.std.specs.Option.{unwrap_or}
use Rattle.ether_wire.specs.Addr.{is_group}
use Rattle.ether_wire.specs.Ports.{place_of_port}
use Rattle.route_join.specs.Owner.{owner}
use Rattle.ev_edge.specs.declared.config.PortConfig.{PortConfig}
use Rattle.ev_edge.specs.declared.storms.Storm.{Storm}
use Rattle.ev_edge.specs.Limits.{is_met}
use Rattle.ev_edge.specs.Edge.{Edge, table_of, address_of}
use Rattle.ev_edge.specs.Sending.{port_of}

-- ---- the count of a port

-- nothing was taken on
abbrev pub storm_of : Option ℕ → Storm
storm_of limit = record { limit = limit; second = 0; count = 0 }

abbrev pub no_storm : Storm
no_storm = storm_of None

abbrev pub opened_storm : PortConfig → Storm
opened_storm p = storm_of p.limits.storm

abbrev pub storms_of : List PortConfig → List Storm
storms_of ports = map opened_storm ports

abbrev pub storm_in : List Storm → ℕ → Storm
storm_in storms l = unwrap_or (slice_get storms l) no_storm

-- the storm limit of a port, counted from 1, and its count
abbrev pub storm_at : List Storm → ℕ → Storm
storm_at storms port = storm_in storms (place_of_port port)

-- how many frames were taken on in this second
abbrev pub taken_in : Storm → ℕ → ℕ
taken_in s second = if s.second == second then s.count else 0

-- one more frame in this second
abbrev pub taking : Storm → ℕ → Storm
taking s second = record s { second = second; count = taken_in s second + 1 }

abbrev pub with_taken : List Storm → ℕ → ℕ → List Storm
with_taken storms port second = slice_set storms (place_of_port port) (taking (storm_at storms port) second)

-- ---- frames that count

-- by the port that has learnt the destination, and by its owner: no port has, and no other edge than this one owns it
abbrev pub is_unknown : Option ℕ → Option ℕ → ℕ → Bool
is_unknown (Some port) o own = false
is_unknown None None own = true
is_unknown None (Some edge) own = edge == own

-- the destination is a group address, or unknown; a station of an edge that is away is known
abbrev pub is_flooded : Edge → ℕ → ℕ → Bool
is_flooded e vni destination = is_group destination
    || is_unknown (port_of e vni destination) (owner (table_of e) vni destination) (address_of e)

-- the port has a limit, and the frame counts
abbrev pub is_taken : Edge → ℕ → ℕ → ℕ → Bool
is_taken e port vni destination = is_some (storm_at e.storms port).limit && is_flooded e vni destination

-- the frame counts, and as many were taken on in this second as the limit of its port allows
abbrev pub is_stormy : Edge → ℕ → ℕ → ℕ → Bool
is_stormy e port vni destination =
    is_met (storm_at e.storms port).limit (taken_in (storm_at e.storms port) e.clock) && is_flooded e vni destination

-- the counts of the ports after the edge has taken on the frame
abbrev pub storms_with : Edge → ℕ → ℕ → ℕ → List Storm
storms_with e port vni destination = if is_taken e port vni destination then with_taken e.storms port e.clock
    else e.storms

-- the edge has taken on the frame
abbrev pub taking_on : Edge → ℕ → ℕ → ℕ → Edge
taking_on e port vni destination = record e { storms = storms_with e port vni destination }
