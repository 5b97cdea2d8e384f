-- The transmit rules (IEEE 802.1D-2004, 17.26, in this project's own table).
use Rattle.std.specs.Prelude.{ℕ, Bool, false, not, ◌&&◌, ◌||◌, ◌==◌, ◌+◌, ◌*◌, nat_lt, if◌then◌else◌, Some, is_none}
use Rattle.bpdu_wire.specs.Numbers.{TIME_UNITS, MOST_TIME}
use Rattle.bpdu_wire.specs.Numbers.{AGREEMENT, ALTERNATE_OR_BACKUP_ROLE, CHANGE_ACKNOWLEDGEMENT}
use Rattle.bpdu_wire.specs.Numbers.{DESIGNATED_ROLE}
use Rattle.bpdu_wire.specs.Numbers.{FORWARDING, LEARNING, PROPOSAL, ROOT_ROLE, TOPOLOGY_CHANGE}
use Rattle.bpdu_wire.specs.declared.bpdu.Message.{Message}
use Rattle.bpdu_wire.specs.declared.bpdu.Bpdu.{Bpdu}
use Rattle.bpdu_wire.specs.declared.bpdu.Bpdu.TheVariants.{Config, Rst, Tcn}
use Rattle.rstp_state.specs.declared.port.PortState.{PortState}
use Rattle.rstp_state.specs.declared.port.Timing.{Timing}
use Rattle.rstp_state.specs.declared.port.Role.{Role}
use Rattle.rstp_state.specs.declared.port.Role.TheVariants as role
use Rattle.rstp_state.specs.Port.{may_act, is_disabled, is_root, is_designated}

-- seconds in the units of a message; a value that does not fit the field is written as the field's greatest number
abbrev pub field_of : ℕ → ℕ
field_of seconds = if nat_lt seconds TIME_UNITS then seconds * TIME_UNITS else MOST_TIME

-- the port's designated vector and times, with these flags
abbrev pub message_with : ℕ → PortState → Message
message_with flags port = record {
  flags = flags;
  root = port.designated_priority.root;
  cost = port.designated_priority.cost;
  bridge = port.designated_priority.bridge;
  port = port.designated_priority.port;
  message_age = field_of port.designated_times.message_age;
  max_age = field_of port.designated_times.max_age;
  hello = field_of port.designated_times.hello;
  forward_delay = field_of port.designated_times.forward_delay;
}

-- the flag, if it is wanted, else 0
abbrev pub flag_if : Bool → ℕ → ℕ
flag_if wanted flag = if wanted then flag else 0

abbrev pub config_flags : PortState → ℕ
config_flags port =
    flag_if (not (port.topology_change_while == 0)) TOPOLOGY_CHANGE
    + flag_if port.acknowledge_topology_change CHANGE_ACKNOWLEDGEMENT

-- a port's role as two bits of the flags
abbrev pub role_flags : Role → ℕ
role_flags role.Root = ROOT_ROLE
role_flags role.Designated = DESIGNATED_ROLE
role_flags _ = ALTERNATE_OR_BACKUP_ROLE

abbrev pub rst_flags : PortState → ℕ
rst_flags port =
    flag_if (not (port.topology_change_while == 0)) TOPOLOGY_CHANGE + flag_if port.proposing PROPOSAL
    + role_flags port.role + flag_if port.learning LEARNING + flag_if port.forwarding FORWARDING
    + flag_if port.agree AGREEMENT

abbrev pub may_send : Timing → PortState → Bool
may_send timing port =
    may_act port && port.new_info && not (port.hello_when == 0) && nat_lt port.transmit_count timing.hold

abbrev pub is_ready : Timing → PortState → Bool
is_ready timing port =
    may_send timing port && is_none port.slot && port.enabled && not (is_disabled port.role)

-- puts a message into the slot, and counts it
abbrev pub sending : Timing → Bpdu → PortState → PortState
sending timing bpdu port = record port {
  slot = Some bpdu;
  new_info = false;
  transmit_count = port.transmit_count + 1;
  hello_when = timing.hello;
}

-- Periodic: a Hello time passed

abbrev pub periodic_guard : PortState → Bool
periodic_guard port = may_act port && port.hello_when == 0

abbrev pub periodic_effect : Timing → PortState → PortState
periodic_effect timing port = record port {
  hello_when = timing.hello;
  new_info = port.new_info || is_designated port.role
      || (is_root port.role && not (port.topology_change_while == 0));
}

-- SendConfig: a designated port sends a message of the older protocol

abbrev pub send_config_guard : Timing → PortState → Bool
send_config_guard timing port = is_ready timing port && not port.send_rstp && is_designated port.role

abbrev pub send_config_effect : Timing → PortState → PortState
send_config_effect timing port =
    record (sending timing (Config (message_with (config_flags port) port)) port) {
      acknowledge_topology_change = false;
    }

-- SendTcn: the root port announces a change to a bridge of the older protocol

abbrev pub send_tcn_guard : Timing → PortState → Bool
send_tcn_guard timing port = is_ready timing port && not port.send_rstp && is_root port.role

abbrev pub send_tcn_effect : Timing → PortState → PortState
send_tcn_effect timing port = sending timing Tcn port

-- SendRst: the port sends a message of the rapid protocol

abbrev pub send_rst_guard : Timing → PortState → Bool
send_rst_guard timing port = is_ready timing port && port.send_rstp

abbrev pub send_rst_effect : Timing → PortState → PortState
send_rst_effect timing port =
    record (sending timing (Rst (message_with (rst_flags port) port)) port) {
      acknowledge_topology_change = false;
    }
