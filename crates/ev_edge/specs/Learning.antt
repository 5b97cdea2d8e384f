-- Learning the source of a frame (IEEE 802.1D-2004, 7.8, and RFC 7432, section 15): the first of the twelve cases that
-- applies, with its effect.
use Rattle.std.specs.Prelude.{◌≡◌, ◌⊎◌, ℕ, ◌^◌, ◌==◌, ◌||◌, ◌&&◌, not, nat_le, Bool, true, false, Option, Some, None}
use Rattle.std.specs.Prelude.{is_some, is_none, List}
use Rattle.std.specs.Prelude.{if◌then◌else◌}
use Rattle.std.specs.FinMap.{get, insert}
use Rattle.mac_arena.specs.declared.station.Station.{Station}
use Rattle.mac_arena.specs.declared.station.Entry.{Entry}
use Rattle.mac_arena.specs.Learning.{entry_at, is_full}
use Rattle.ev_mobility.specs.declared.alert.Alert.{Alert}
use Rattle.ev_mobility.specs.declared.alert.Alert.TheVariants.{StaticElsewhere, SequenceSpent, Duplicate, CounterSpent}
use Rattle.ev_mobility.specs.declared.alert.Alert.TheVariants.{TableFull, PortFull, PortBusy, NoMemory}
use Rattle.ev_mobility.specs.declared.window.Window.{Window}
use Rattle.ev_mobility.specs.declared.seq.Seq.{Seq}
use Rattle.ev_mobility.specs.declared.seq.Seq.TheVariants.{Next, Static, Spent}
use Rattle.ev_mobility.specs.Seq.{seq_for}
use Rattle.ev_mobility.specs.Window.{is_fifth, is_frozen, after_move}
use Rattle.ev_claims.specs.Speaker.{is_originated}
use Rattle.ev_claims.specs.LocalRoutes.{LocalRoutes, key_of, stations_on, after_advert, after_refresh}
use Rattle.ev_edge.specs.declared.learning.Case.{Case}
use Rattle.ev_edge.specs.declared.learning.Case.TheVariants.{Leave, Refresh, Refuse, Freeze, Learn, Move}
use Rattle.ev_edge.specs.declared.limits.Limits.{Limits}
use Rattle.ev_edge.specs.declared.limits.Quota.{Quota}
use Rattle.ev_edge.specs.Limits.{quota_at, is_met, count_in, with_counted}
use Rattle.ev_edge.specs.Edge.{Edge, table_of, address_of}

-- ---- the cases

-- few numbers are left, and they are kept for withdrawals
abbrev pub is_spent : LocalRoutes → Bool
is_spent c = nat_le (2 ^ 63) c.speaker.counter

-- Another edge advertises the station if its next number is not 0: then it moves here, and the fifth move of one window
-- freezes it. With the number 0 no other edge advertises it.
abbrev pub move_case : Option Window → ℕ → ℕ → Case
move_case window second n = if n == 0 then Learn else if is_fifth window second then Freeze else Move n

abbrev pub numbered_case : Edge → Option Window → Seq → Case
numbered_case e window Static = Refuse StaticElsewhere
numbered_case e window Spent = Refuse SequenceSpent
numbered_case e window (Next n) =
    if is_spent e.routes then Refuse CounterSpent
    else if is_full e.routes.learned then Refuse TableFull
    else move_case window e.clock n

-- a station that isn't learnt
abbrev pub new_case : Edge → Station → Option Window → Case
new_case e s window = if is_frozen window then Leave else numbered_case e window
    (seq_for (table_of e) (address_of e) s.vni s.mac)

abbrev pub case_at : Edge → Station → Option Entry → Case
case_at e s (Some x) = if x.pinned then Leave else Refresh
case_at e s None = new_case e s (get e.windows s)

-- the first case that applies to a station at a port without limits
abbrev pub case_of : Edge → Station → Case
case_of e s = case_at e s (entry_at e.routes.learned s)

-- ---- the limits of the port

-- an own register of the station must be created: the edge made no update of it in this incarnation
abbrev pub needs_register : Edge → Station → Bool
needs_register e s = not (is_originated e.routes.speaker (key_of s))

abbrev pub limits_at : Edge → ℕ → Limits
limits_at e port = (quota_at e.quotas port).limits

abbrev pub is_there : Option Entry → ℕ → Bool
is_there None port = false
is_there (Some x) port = x.port == port

-- the station would be one too many at the port: it isn't there yet, and the port has all that it may have
abbrev pub is_crowded : Edge → Station → ℕ → Bool
is_crowded e s port =
    is_met (limits_at e port).stations (stations_on e.routes port) && not (is_there (entry_at e.routes.learned s) port)

-- the station would be one new station too many within 60 seconds: new is one that needs a register
abbrev pub is_busy : Edge → Station → ℕ → Bool
is_busy e s port =
    is_met (limits_at e port).new_stations (count_in (quota_at e.quotas port) e.clock) && needs_register e s

-- a station that would be learnt or that moves here from another edge
abbrev pub limited_new : Edge → Station → ℕ → Case → Case
limited_new e s port case =
    if is_crowded e s port then Refuse (PortFull port) else if is_busy e s port then Refuse (PortBusy port) else case

-- the case by the limits of the port, too; also a station that comes from another port of the edge needs a place
abbrev pub limited : Edge → Station → ℕ → Case → Case
limited e s port Leave = Leave
limited e s port Refresh = if is_crowded e s port then Refuse (PortFull port) else Refresh
limited e s port (Refuse alert) = Refuse alert
limited e s port Freeze = limited_new e s port Freeze
limited e s port Learn = limited_new e s port Learn
limited e s port (Move n) = limited_new e s port (Move n)

-- the first case that applies to a station on a port
abbrev pub case_on : Edge → Station → ℕ → Case
case_on e s port = limited e s port (case_of e s)

-- ---- the effects

abbrev pub refreshed : Edge → Station → ℕ → Edge
refreshed e s port = record e { routes = after_refresh e.routes s port e.clock }

-- one more move of the station
abbrev pub moved : Edge → Station → Edge
moved e s = record e { windows = insert e.windows s (after_move (get e.windows s) e.clock) }

-- the station is new, and the port has a limit of new ones
abbrev pub is_counted : Edge → Station → ℕ → Bool
is_counted e s port = is_some (limits_at e port).new_stations && needs_register e s

abbrev pub quotas_with : Edge → Station → ℕ → List Quota
quotas_with e s port = if is_counted e s port then with_counted e.quotas port e.clock else e.quotas

-- learnt, and advertised with this sequence number
abbrev pub learnt : Edge → Station → ℕ → ℕ → Edge
learnt e s port n = record e {
  routes = after_advert e.routes s port e.clock n;
  quotas = quotas_with e s port;
}

-- ---- memory

-- a window has to be made for its move: none is kept of it
abbrev pub needs_window : Edge → Station → Bool
needs_window e s = is_none (get e.windows s)

-- It happened; or it needs memory, which was refused: then nothing changed.
abbrev pub OrNoMemory : Bool → Edge → Option Alert → Edge → Option Alert → Edge → Type 0
OrNoMemory needs e alert after told e' =
    ((told ≡ alert) × (e' ≡ after)) ⊎ ((told ≡ Some NoMemory) × (e' ≡ e) × (needs ≡ true))

-- ---- the effect of each case

abbrev pub Does : Case → Edge → Station → ℕ → Option Alert → Edge → Type 0
Does Leave e s port told e' = (told ≡ None) × (e' ≡ e)
Does Refresh e s port told e' = (told ≡ None) × (e' ≡ refreshed e s port)
Does (Refuse alert) e s port told e' = (told ≡ Some alert) × (e' ≡ e)
Does Freeze e s port told e' = (told ≡ Some Duplicate) × (e' ≡ moved e s)
Does Learn e s port told e' = OrNoMemory (needs_register e s) e None (learnt e s port 0) told e'
Does (Move n) e s port told e' =
    OrNoMemory (needs_register e s || needs_window e s) e None (learnt (moved e s) s port n) told e'

-- learning the station on the port
abbrev pub Learning : Edge → Station → ℕ → Option Alert → Edge → Type 0
Learning e s port told e' = Does (case_on e s port) e s port told e'
