-- A bridge, and the guard and the effect of each rule of the table.
use Rattle.std.specs.Prelude.{ℕ, Bool, ◌&&◌, ◌==◌, List}
use Rattle.std.specs.List.{list_any}
use Rattle.rstp_state.specs.declared.port.PortState.{PortState}
use Rattle.rstp_state.specs.declared.port.Timing.{Timing}
use Rattle.rstp_state.specs.declared.selection.Root.{Root}
use Rattle.rstp_state.specs.declared.start.Settings.{Settings}
use Rattle.rstp_state.specs.Port.{change_at, test_at}
use Rattle.rstp_state.specs.Selection.{selected_root, selected_ports}
use Rattle.rstp_roles.specs.Rules.{role_asks, role_does, state_asks, state_does}
use Rattle.rstp_run.specs.declared.rule.Rule.{Rule}
use Rattle.rstp_run.specs.declared.rule.Rule.TheVariants.{
  Select,
  Receive,
  Migration,
  Detection,
  Information,
  Role,
  State as InState,
  Topology,
  Transmit,
}
use Rattle.rstp_run.specs.Machines.{receive_asks, receive_does, migration_asks, migration_does}
use Rattle.rstp_run.specs.Machines.{detection_asks, detection_does, information_asks, information_does}
use Rattle.rstp_run.specs.Machines.{topology_asks, topology_does, transmit_asks, transmit_does}

-- a bridge: its settings, its root, and its ports
pub record Tree : Type 0 where
  pub settings : Settings
  pub root : Root
  pub ports : List PortState

-- the values of the bridge that the rules of a port read
abbrev pub timing_of : Settings → Root → Timing
timing_of settings root = record {
  hello = settings.hello;
  hold = settings.hold;
  max_age = root.times.max_age;
  forward_delay = root.times.forward_delay;
}

abbrev pub timing_in : Tree → Timing
timing_in s = timing_of s.settings s.root

abbrev pub wants_selection : PortState → Bool
wants_selection port = port.reselect

-- the rule's condition on the bridge and on its port at place p
abbrev pub asks : Rule → Tree → ℕ → PortState → Bool
asks Select s p port = p == 0 && list_any wants_selection s.ports
asks (Receive rule) s p port = receive_asks rule port
asks (Migration rule) s p port = migration_asks rule port
asks (Detection rule) s p port = detection_asks rule port
asks (Information rule) s p port = information_asks rule port
asks (Role rule) s p port = role_asks rule (timing_in s) s.ports p port
asks (InState rule) s p port = state_asks rule port
asks (Topology rule) s p port = topology_asks rule port
asks (Transmit rule) s p port = transmit_asks rule (timing_in s) port

-- the port at place p exists, and the rule's guard holds there
abbrev pub guard : Rule → Tree → ℕ → Bool
guard rule s p = test_at p (asks rule s p) s.ports

-- the root after the rule fired
abbrev pub root_after : Rule → Tree → Root
root_after Select s = selected_root s.settings s.ports
root_after _ s = s.root

-- the ports after the rule fired at place p
abbrev pub ports_after : Rule → Tree → ℕ → List PortState
ports_after Select s p = selected_ports s.settings s.ports
ports_after (Receive rule) s p = change_at p (receive_does rule) s.ports
ports_after (Migration rule) s p = change_at p (migration_does rule) s.ports
ports_after (Detection rule) s p = change_at p (detection_does rule) s.ports
ports_after (Information rule) s p = change_at p (information_does rule) s.ports
ports_after (Role rule) s p = role_does rule (timing_in s) s.ports p
ports_after (InState rule) s p = change_at p (state_does rule) s.ports
ports_after (Topology rule) s p = topology_does rule (timing_in s) s.ports p
ports_after (Transmit rule) s p = change_at p (transmit_does rule (timing_in s)) s.ports

-- the bridge after the rule fired at place p
abbrev pub after : Rule → Tree → ℕ → Tree
after rule s p = record { settings = s.settings; root = root_after rule s; ports = ports_after rule s p }
