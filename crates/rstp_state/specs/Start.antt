-- The start state of a port.
use Rattle.std.specs.Prelude.{ℕ, true, false, ◌+◌, ◌*◌, ◌/◌, None, List, [], ◌∷◌}
use Rattle.rstp_state.specs.declared.port.PortState.{PortState}
use Rattle.rstp_state.specs.declared.port.Migration.TheVariants as migration
use Rattle.rstp_state.specs.declared.port.Information.TheVariants as information
use Rattle.rstp_state.specs.declared.port.Topology.TheVariants as topology
use Rattle.rstp_state.specs.declared.port.InfoIs.TheVariants as info_is
use Rattle.rstp_state.specs.declared.port.Role.TheVariants as role
use Rattle.rstp_state.specs.declared.start.Settings.{Settings}
use Rattle.rstp_state.specs.declared.start.PortSettings.{PortSettings}
use Rattle.rstp_state.specs.declared.vector.Vector.{Vector}
use Rattle.rstp_state.specs.declared.vector.Times.{Times}

-- the times of the bridge as root
abbrev pub own_times : Settings → Times
own_times settings = record {
  message_age = 0;
  max_age = settings.max_age;
  hello = settings.hello;
  forward_delay = settings.forward_delay;
}

-- the vector of the bridge as root, at the port
abbrev pub own_vector : Settings → ℕ → Vector
own_vector settings port = record {
  root = settings.identifier;
  cost = 0;
  bridge = settings.identifier;
  port = port;
}

-- the top four bits are the priority, the low twelve the port's number (IEEE 802.1D-2004, 9.2.7)
abbrev pub port_identifier : ℕ → ℕ → ℕ
port_identifier priority number = priority / 16 * 4096 + number

abbrev pub start_port : Settings → PortSettings → ℕ → PortState
start_port settings port number = record {
  identifier = port_identifier port.priority number;
  cost = port.cost;
  admin_edge = port.admin_edge;
  auto_edge = port.auto_edge;
  point_to_point = port.point_to_point;
  enabled = false;
  migration = migration.Checking;
  information = information.Disabled;
  topology = topology.Inactive;
  hello_when = settings.hello;
  topology_change_while = 0;
  forward_delay_while = settings.max_age;
  received_info_while = 0;
  recent_root_while = 0;
  recent_backup_while = 0;
  migration_delay_while = 3;
  edge_delay_while = 3;
  transmit_count = 0;
  received_bpdu = false;
  received_rstp = false;
  received_stp = false;
  received_message = false;
  check_migration = false;
  send_rstp = true;
  oper_edge = port.admin_edge;
  proposing = false;
  proposed = false;
  agree = false;
  agreed = false;
  synced = true;
  sync = false;
  re_root = false;
  selected = true;
  reselect = false;
  update_info = false;
  new_info = true;
  disputed = false;
  learn = false;
  forward = false;
  learning = false;
  forwarding = false;
  received_topology_change = false;
  received_acknowledgement = false;
  received_notification = false;
  propagate_topology_change = false;
  acknowledge_topology_change = false;
  flush = false;
  info_is = info_is.Disabled;
  role = role.Disabled;
  selected_role = role.Disabled;
  port_priority = own_vector settings (port_identifier port.priority number);
  port_times = own_times settings;
  designated_priority = own_vector settings (port_identifier port.priority number);
  designated_times = own_times settings;
  message = None;
  slot = None;
}

-- the ports in their start state; the first one has this number
abbrev pub ports_from : ℕ → Settings → List PortSettings → List PortState
ports_from p settings [] = []
ports_from p settings (port ∷ ports) = start_port settings port p ∷ ports_from (p + 1) settings ports
