-- The statements of the laws on the limits of ports.
use Rattle.std.specs.Prelude.{◌≡◌, ◌⊎◌, ℕ, ◌+◌, ◌-◌, ◌*◌, ◌<◌, ◌≤◌, ◌==◌, Bool, true, false, Some, Result, List, []}
use Rattle.std.specs.Prelude.{◌∷◌}
use Rattle.std.specs.Prelude.{if◌then◌else◌}
use Rattle.std.specs.List.{list_any}
use Rattle.std.specs.FinMap.{len}
use Rattle.mac_arena.specs.declared.station.Station.{Station}
use Rattle.ev_claims.specs.LocalRoutes.{stations_on}
use Rattle.ev_edge.specs.declared.config.EdgeConfig.{EdgeConfig}
use Rattle.ev_edge.specs.declared.event.Event.{Event}
use Rattle.ev_edge.specs.declared.event.Event.TheVariants as events
use Rattle.ev_edge.specs.declared.refusal.Refusal.{Refusal}
use Rattle.ev_edge.specs.declared.reply.Reply.{Reply}
use Rattle.ev_edge.specs.Edge.{Edge, IsGoodEdge, table_of}
use Rattle.ev_edge.specs.Limits.{no_limits, IsWithin}
use Rattle.ev_edge.specs.Learning.{limits_at, case_of, case_on, quotas_with}
use Rattle.ev_edge.specs.Opening.{IsOpening}
use Rattle.ev_edge.specs.Steps.{Steps}
use Rattle.ev_edge.specs.AwayLaws.{Entered, EdgeRuns}

-- ---- a port without limits

-- at a port without limits the limits change nothing: neither the case of a station nor what is counted
abbrev pub LimitsNothing : Type 0
LimitsNothing = (e : Edge) (s : Station) (port : ℕ) → limits_at e port ≡ no_limits
    → (case_on e s port ≡ case_of e s) × (quotas_with e s port ≡ e.quotas)

-- ---- events

-- a frame comes at the port
abbrev pub comes_at : ℕ → Event → Bool
comes_at p (events.Frame port octets) = port == p
comes_at p (events.TunnelFrame from octets) = false
comes_at p (events.Take u) = false
comes_at p (events.Pin s port) = false
comes_at p (events.Unpin s) = false
comes_at p (events.Thaw s) = false
comes_at p events.Second = false
comes_at p (events.PortUp port) = false
comes_at p (events.PortDown port) = false
comes_at p (events.Mcheck port) = false
comes_at p events.Announce = false
comes_at p (events.Away a) = false
comes_at p (events.Back a) = false

-- a station is pinned by hand
abbrev pub is_pin : Event → Bool
is_pin (events.Frame port octets) = false
is_pin (events.TunnelFrame from octets) = false
is_pin (events.Take u) = false
is_pin (events.Pin s port) = true
is_pin (events.Unpin s) = false
is_pin (events.Thaw s) = false
is_pin events.Second = false
is_pin (events.PortUp port) = false
is_pin (events.PortDown port) = false
is_pin (events.Mcheck port) = false
is_pin events.Announce = false
is_pin (events.Away a) = false
is_pin (events.Back a) = false

-- no event changes the limits of a port
abbrev pub KeepsLimits : Type 0
KeepsLimits = (e e' : Edge) (event : Event) (result : Result Reply Refusal) (port : ℕ) → Steps e event result e'
    → limits_at e' port ≡ limits_at e port

-- ---- how many stations a port has

-- But for pins, a port gets further stations only by its own frames, and no more of them than its limit allows.
abbrev pub KeepsToStations : Type 0
KeepsToStations =
    (e e' : Edge) (event : Event) (result : Result Reply Refusal) (port : ℕ) → IsGoodEdge e → 0 < port
    → is_pin event ≡ false → Steps e event result e'
    → (stations_on e'.routes port ≤ stations_on e.routes port)
    ⊎ ((comes_at port event ≡ true) × IsWithin (limits_at e port).stations (stations_on e'.routes port))

abbrev pub has_pin : List Entered → Bool
has_pin run = list_any (λ x. is_pin x.0) run

-- so in a run without pins a port never has more than its limit allows
abbrev pub StationsAreFew : Type 0
StationsAreFew =
    (run : List Entered) (e e' : Edge) (port : ℕ) → IsGoodEdge e → 0 < port → has_pin run ≡ false → EdgeRuns e run e'
    → IsWithin (limits_at e port).stations (stations_on e.routes port)
    → IsWithin (limits_at e port).stations (stations_on e'.routes port)

-- ---- how many registers the frames of a port make

-- the registers in the table of the edge, its own and those of others
abbrev pub registers : Edge → ℕ
registers e = len (table_of e).registers

-- how many registers the event makes, if it is a frame at the port
abbrev pub made_at : ℕ → Event → Edge → Edge → ℕ
made_at port event e e' = if comes_at port event then registers e' - registers e else 0

-- these events, one after the other, with these answers; the frames at the port make n registers
abbrev pub Makes : ℕ → Edge → List Entered → Edge → ℕ → Type 0
Makes port old [] new n = (new ≡ old) × (n ≡ 0)
Makes port old (x ∷ run) new n =
    (mid : Edge) × Steps old x.0 x.1 mid × (later : ℕ) × Makes port mid run new later
    × (n ≡ made_at port x.0 old mid + later)

-- In less than this number of minutes the frames at a port make at most as many registers as the limit allows in a
-- minute, for each of the minutes and one more.
abbrev pub RegistersAreFew : Type 0
RegistersAreFew =
    (run : List Entered) (e e' : Edge) (port limit minutes n : ℕ) → IsGoodEdge e → 0 < port
    → (limits_at e port).new_stations ≡ Some limit → Makes port e run e' n → e'.clock < e.clock + minutes * 60
    → n ≤ (minutes + 1) * limit

-- since the opening: for each of the minutes
abbrev pub RegistersAreFewFromTheOpening : Type 0
RegistersAreFewFromTheOpening =
    (c : EdgeConfig) (run : List Entered) (e e' : Edge) (port limit minutes n : ℕ) → IsOpening c e → IsGoodEdge e
    → 0 < port → (limits_at e port).new_stations ≡ Some limit → Makes port e run e' n
    → e'.clock < minutes * 60 → n ≤ minutes * limit
