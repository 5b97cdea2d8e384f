-- Which stations an edge has learnt or frozen, one a line, in the order of a report: those of its own registers.
use Rattle.std.specs.Prelude.{ℕ, ◌-◌, ◌==◌, ◌||◌, Bool, true, if◌then◌else◌, is_some, codes, decimal}
use Rattle.std.specs.Prelude.{Option, Some, None, List, [], ◌∷◌, ◌++◌}
use Rattle.std.specs.FinMap.{get}
use Rattle.route_wire.specs.declared.update.Key.{Key}
use Rattle.route_wire.specs.declared.update.Key.TheVariants.{Flood, Mac}
use Rattle.route_wire.specs.Fields.{Fields}
use Rattle.route_join.specs.Updates.{all_updates}
use Rattle.route_join.specs.Report.{station_text}
use Rattle.mac_arena.specs.declared.station.Station.{Station}
use Rattle.mac_arena.specs.declared.station.Entry.{Entry}
use Rattle.mac_arena.specs.Learning.{entry_at}
use Rattle.ev_mobility.specs.Window.{is_frozen}
use Rattle.ev_edge.specs.Edge.{Edge, address_of, table_of}

-- the edge is the register's originator
abbrev pub is_own : Edge → Fields → Bool
is_own e u = u.register.originator == address_of e

-- the station of a key without an IP address: an edge advertises none with one
abbrev pub bare_station : Key → Option Station
bare_station (Flood v) = None
bare_station (Mac v m None) = Some (record { vni = v; mac = m })
bare_station (Mac v m (Some ip)) = None

-- the station of an own register
abbrev pub own_station : Edge → Fields → Option Station
own_station e u = if is_own e u then bare_station u.register.key else None

-- the station is frozen at the edge
abbrev pub is_frozen_at : Edge → Station → Bool
is_frozen_at e s = is_frozen (get e.windows s)

-- of the queried VNI, or of each
abbrev pub is_of : Option ℕ → ℕ → Bool
is_of None vni = true
is_of (Some asked) vni = asked == vni

-- how many seconds ago it was heard, or that it is pinned
abbrev pub age_words : Edge → Entry → List ℕ
age_words e x = if x.pinned then codes " pinned" else codes " age " ++ decimal (e.clock - x.last)

-- ` port P age N`, or `pinned` instead of its age; nothing if it is not learnt
abbrev pub place_words : Edge → Option Entry → List ℕ
place_words e None = []
place_words e (Some x) = codes " port " ++ decimal x.port ++ age_words e x

abbrev pub frozen_words : Bool → List ℕ
frozen_words frozen = if frozen then codes " frozen" else []

-- `E station VNI MAC`
abbrev pub subject_words : ℕ → Station → List ℕ
subject_words number s = decimal number ++ codes " station " ++ station_text s.vni s.mac

-- `E station VNI MAC port P age N`, with `frozen` at its end where it is
abbrev pub station_line : ℕ → Edge → Station → Option Entry → Bool → List ℕ
station_line number e s x frozen =
    subject_words number s ++ place_words e x ++ frozen_words frozen ++ codes "\n"

-- the line of a station that is learnt or frozen; no other one has a line
abbrev pub known_line : ℕ → Edge → Station → List ℕ
known_line number e s =
    if is_some (entry_at e.routes.learned s) || is_frozen_at e s
    then station_line number e s (entry_at e.routes.learned s) (is_frozen_at e s) else []

abbrev pub asked_line : ℕ → Edge → Option ℕ → Option Station → List ℕ
asked_line number e vni None = []
asked_line number e vni (Some s) = if is_of vni s.vni then known_line number e s else []

abbrev pub station_lines : ℕ → Edge → Option ℕ → List Fields → List ℕ
station_lines number e vni [] = []
station_lines number e vni (u ∷ us) = asked_line number e vni (own_station e u) ++ station_lines number e vni us

abbrev pub stations_text : ℕ → Edge → Option ℕ → List ℕ
stations_text number e vni = station_lines number e vni (all_updates (table_of e))
