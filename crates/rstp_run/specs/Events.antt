-- The possible effects of an event on a bridge, and its result.
use Rattle.std.specs.Prelude.{ℕ, Bool, true, false, ◌≡◌, ◌↔◌, ◌+◌, ◌*◌, ◌≤◌, ◌&&◌, ◌==◌, List, [], ◌∷◌, length}
use Rattle.std.specs.Prelude.{map, Option, Some, None, IsTrue}
use Rattle.std.specs.List.{list_any}
use Rattle.ether_wire.specs.Ports.{has_port, place_of_port}
use Rattle.bpdu_wire.specs.declared.bpdu.Bpdu as bpdu
use Rattle.rstp_state.specs.declared.port.PortState.{PortState}
use Rattle.rstp_state.specs.declared.start.PortSettings.{PortSettings}
use Rattle.rstp_state.specs.declared.start.Settings.{Settings}
use Rattle.rstp_state.specs.Direct.{with_enabled, with_message, with_migration_check, with_second, without_slot}
use Rattle.rstp_state.specs.Port.{change_at, test_at}
use Rattle.rstp_state.specs.Selection.{own_root}
use Rattle.rstp_state.specs.Start.{ports_from}
use Rattle.rstp_run.specs.Rules.{Tree}
use Rattle.rstp_run.specs.Runs.{Firing, Run, IsSettled, flushed, is_flush}
use Rattle.rstp_run.specs.Sweep.{swept}
use Rattle.rstp_run.specs.declared.event.Event.{Event}
use Rattle.rstp_run.specs.declared.event.Event.TheVariants as events

-- a port with this number exists
abbrev pub IsPort : ℕ → ℕ → Type 0
IsPort p ports = (1 ≤ p) × (p ≤ ports)

-- the event's port, if it has one, is among this many ports
abbrev pub IsAt : Event → ℕ → Type 0
IsAt (events.Bpdu p message) ports = IsPort p ports
IsAt events.Second ports = Unit {0}
IsAt (events.PortUp p) ports = IsPort p ports
IsAt (events.PortDown p) ports = IsPort p ports
IsAt (events.Mcheck p) ports = IsPort p ports

-- the ports right after the event, before any rule fires
abbrev pub ports_at : Event → List PortState → List PortState
ports_at (events.Bpdu p message) ports = change_at (place_of_port p) (with_message message) ports
ports_at events.Second ports = map with_second ports
ports_at (events.PortUp p) ports = change_at (place_of_port p) (with_enabled true) ports
ports_at (events.PortDown p) ports = change_at (place_of_port p) (with_enabled false) ports
ports_at (events.Mcheck p) ports = change_at (place_of_port p) with_migration_check ports

-- the event's direct effect, with every slot empty
abbrev pub direct : Event → Tree → Tree
direct event s = record s { ports = ports_at event (map without_slot s.ports) }

-- the flush rule fired at place p
abbrev pub flushes : ℕ → List Firing → Bool
flushes p firings = list_any (λ f. is_flush f.rule && f.place == p) firings

-- The bridge changes from s to t by the event and at most limit firings: those of the sweep. It is settled exactly
-- if no
-- rule is enabled in t. It is unsettled only after exactly limit firings.
pub record Happens (event : Event) (limit : ℕ) (s t : Tree) (settled : Bool) (mask : ℕ) : Type 0 where
  pub firings : List Firing
  pub run : Run firings (direct event s) t
  pub order : swept limit (direct event s) ≡ record { tree = t; firings = firings }
  pub few : length firings ≤ limit
  pub settles : IsTrue settled ↔ IsSettled t
  pub unsettled : settled ≡ false → length firings ≡ limit
  pub flush : (p : ℕ) → has_port mask (p + 1) ≡ flushes p firings
  pub bits : mask ≡ flushed firings 0

-- The result of the sweep from the event's direct effect is a possible effect of the event.
abbrev pub RunsHappen : Type 0
RunsHappen =
    (event : Event) (limit : ℕ) (s t : Tree) (firings : List Firing)
    → swept limit (direct event s) ≡ record { tree = t; firings = firings }
    → (settled : Bool) × Happens event limit s t settled (flushed firings 0)

-- the same bridge, settled or not, with the same flushed ports
pub record IsSameOutcome (t t' : Tree) (settled settled' : Bool) (mask mask' : ℕ) : Type 0 where
  pub bridge : t ≡ t'
  pub settles : settled ≡ settled'
  pub flush : mask ≡ mask'

-- an event of a bridge has one outcome
abbrev pub OneOutcome : Type 0
OneOutcome =
    (event : Event) (limit : ℕ) (s t t' : Tree) (settled settled' : Bool) (mask mask' : ℕ)
    → Happens event limit s t settled mask → Happens event limit s t' settled' mask'
    → IsSameOutcome t t' settled settled' mask mask'

-- the greatest number of firings at an event
abbrev pub firings_at : Tree → ℕ
firings_at s = 64 * (length s.ports + 1)

abbrev pub with_sent : ℕ → Option bpdu.Bpdu → List (ℕ × bpdu.Bpdu) → List (ℕ × bpdu.Bpdu)
with_sent p None rest = rest
with_sent p (Some message) rest = (p, message) ∷ rest

-- the messages in the slots of the ports; the first port has this number
abbrev pub sent_from : ℕ → List PortState → List (ℕ × bpdu.Bpdu)
sent_from p [] = []
sent_from p (port ∷ ports) = with_sent p port.slot (sent_from (p + 1) ports)

-- port p passes frames: the bridge is settled, and the port enabled and forwarding
abbrev pub Passes : Tree → ℕ → Type 0
Passes s p = IsSettled s × IsTrue (test_at (place_of_port p) (λ port. port.enabled && port.forwarding) s.ports)

-- port p learns addresses: the bridge is settled, and the port enabled and learning
abbrev pub Learns : Tree → ℕ → Type 0
Learns s p = IsSettled s × IsTrue (test_at (place_of_port p) (λ port. port.enabled && port.learning) s.ports)

-- a bridge before its first event; it is its own root
abbrev pub start : Settings → List PortSettings → Tree
start settings ports = record {
  settings = settings;
  root = own_root settings;
  ports = ports_from 1 settings ports;
}
