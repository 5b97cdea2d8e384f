-- Laws of the ports of a settled bridge that is reachable from its start by events: the information that they have and
-- the messages that they send. And the number of firings after which a bridge is settled.
use Rattle.std.specs.Prelude.{ℕ, Bool, true, ◌≡◌, ◌+◌, ◌*◌, ◌<◌, ◌≤◌, ◌%◌, ◌^◌, List, length}
use Rattle.bpdu_wire.specs.Id.{port_number}
use Rattle.rstp_state.specs.declared.port.PortState.{PortState}
use Rattle.rstp_state.specs.declared.start.PortSettings.{PortSettings}
use Rattle.rstp_state.specs.declared.start.Settings.{Settings}
use Rattle.rstp_state.specs.Port.{is_designated, is_root}
use Rattle.rstp_state.specs.Selection.{designated_times, designated_vector, times_beyond}
use Rattle.rstp_run.specs.declared.rule.TheConstants.{MAIN, SENDS}
use Rattle.rstp_run.specs.declared.event.Event.{Event}
use Rattle.rstp_run.specs.Events.{Happens, Passes}
use Rattle.rstp_run.specs.Laws.{IsInTree}
use Rattle.rstp_run.specs.RootPort.{CanBe, IsAtPlace}
use Rattle.rstp_run.specs.Rules.{Tree}
use Rattle.rstp_run.specs.Runs.{AreOff, IsSettled}

-- the bridge is reachable from its start by events
abbrev pub IsReached : Tree → Type 0
IsReached s = (settings : Settings) × (ports : List PortSettings) × CanBe settings ports s

-- a fact about each port of a settled bridge
abbrev pub OfSettledPorts : (Tree → PortState → Type 0) → Type 0
OfSettledPorts fact = (s : Tree) → IsReached s → IsSettled s → (p : ℕ) (port : PortState) → IsAtPlace s p port
    → fact s port

-- the port sends the root's vector with its bridge and itself as sender, and the root's times
pub record Sends (s : Tree) (port : PortState) : Type 0 where
  pub vector : port.designated_priority ≡ designated_vector s.settings s.root port.identifier
  pub times : port.designated_times ≡ designated_times s.settings s.root

-- a designated port has the vector that it sends
abbrev pub HasWhatItSends : Tree → PortState → Type 0
HasWhatItSends s port = is_designated port.role ≡ true → port.port_priority ≡ port.designated_priority

-- the root's times are those of the root port, one bridge further, and the root port's times aren't too old
pub record IsFollowed (s : Tree) (port : PortState) : Type 0 where
  pub further : s.root.times ≡ times_beyond port.port_times
  pub young : port.port_times.message_age < port.port_times.max_age

abbrev pub IsFollowedAsRoot : Tree → PortState → Type 0
IsFollowedAsRoot s port = is_root port.role ≡ true → IsFollowed s port

-- a port that passes frames is the root port or a designated port
abbrev pub PassingIsInTree : Type 0
PassingIsInTree = (s : Tree) → IsReached s → (p : ℕ) → Passes s p → IsInTree s p

-- the port at place p has the number p + 1, of 12 bits
abbrev pub PortsAreNumbered : Type 0
PortsAreNumbered =
    (s : Tree) → IsReached s → (p : ℕ) (port : PortState) → IsAtPlace s p port
    → port_number port.identifier ≡ (p + 1) % 2 ^ 12

-- a bridge is settled if no rule of the two lists is enabled at any of its ports
abbrev pub SettledByLists : Type 0
SettledByLists = (s : Tree) → AreOff MAIN s → AreOff SENDS s → IsSettled s

-- A number of firings that settles any event of a bridge with n ports. It is far above what events take.
abbrev pub enough_firings : ℕ → ℕ
enough_firings n = (13 * n + 1) * (n * (24 * n * n + 122 * n + 168) + 1)

-- with enough firings every event ends settled, if the bridge's Hello time isn't 0
abbrev pub EventsSettle : Type 0
EventsSettle =
    (event : Event) (limit : ℕ) (s t : Tree) (settled : Bool) (mask : ℕ) → 1 ≤ s.settings.hello
    → enough_firings (length s.ports) ≤ limit → Happens event limit s t settled mask → settled ≡ true
