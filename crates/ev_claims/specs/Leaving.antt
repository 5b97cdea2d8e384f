-- Which stations go by age (IEEE 802.1D-2004, 7.9.2), and which when ports are flushed (17.11), and in what order.
use Rattle.std.specs.Prelude.{◌&&◌, ◌++◌, ℕ, Bool, false, Option, Some, None, List, [], ◌∷◌}
use Rattle.mac_arena.specs.declared.station.Station.{Station}
use Rattle.mac_arena.specs.declared.station.Entry.{Entry}
use Rattle.mac_arena.specs.Learning.{Learning}
use Rattle.mac_arena.specs.Laws.{is_due, due_in as taken_by_age, unpinned_on}
use Rattle.mac_arena.specs.ListsName.{ages}
use Rattle.ether_wire.specs.Ports.{has_port, ports_of}
use Rattle.ev_claims.specs.LocalRoutes.{LocalRoutes, after_removals}

-- ---- by age

-- those of the ageing list that were last heard at this second or before, the one heard longest ago first
abbrev pub due_in : Learning → ℕ → List Station
due_in t limit = taken_by_age t limit

abbrev pub after_ageing : LocalRoutes → ℕ → LocalRoutes
after_ageing e limit = after_removals e (due_in e.learned limit)

-- ---- by port

-- those at these ports, one port after the other
abbrev pub flushed_at : Learning → List ℕ → List Station
flushed_at t [] = []
flushed_at t (port ∷ ports) = unpinned_on t port ++ flushed_at t ports

-- those behind the ports of a set, the lowest port first
abbrev pub flushed_in : Learning → ℕ → List Station
flushed_in t set = flushed_at t (ports_of set)

abbrev pub after_flush : LocalRoutes → ℕ → LocalRoutes
after_flush e set = after_removals e (flushed_in e.learned set)

-- ---- the same by a test on each entry

-- an unpinned station that was last heard at the limit or before
abbrev pub goes_by_age : ℕ → Option Entry → Bool
goes_by_age limit o = ages o && is_due limit o

-- an unpinned station behind a port of the set
abbrev pub is_behind : ℕ → Option Entry → Bool
is_behind set None = false
is_behind set (Some x) = has_port set x.port

abbrev pub goes_by_flush : ℕ → Option Entry → Bool
goes_by_flush set o = ages o && is_behind set o
