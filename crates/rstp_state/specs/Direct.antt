-- The direct effects of an event on a port.
use Rattle.std.specs.Prelude.{Bool, true, ◌||◌, ◌-◌, if◌then◌else◌, Some, None}
use Rattle.bpdu_wire.specs.declared.bpdu.Bpdu.{Bpdu}
use Rattle.rstp_state.specs.declared.port.PortState.{PortState}

-- the slot is empty: nothing was sent at this event
abbrev pub without_slot : PortState → PortState
without_slot port = record port { slot = None }

-- each timer that is not 0, and the count of messages, is lowered by 1
abbrev pub with_second : PortState → PortState
with_second port = record port {
  hello_when = port.hello_when - 1;
  topology_change_while = port.topology_change_while - 1;
  forward_delay_while = port.forward_delay_while - 1;
  received_info_while = port.received_info_while - 1;
  recent_root_while = port.recent_root_while - 1;
  recent_backup_while = port.recent_backup_while - 1;
  migration_delay_while = port.migration_delay_while - 1;
  edge_delay_while = port.edge_delay_while - 1;
  transmit_count = port.transmit_count - 1;
}

abbrev pub with_enabled : Bool → PortState → PortState
with_enabled enabled port = record port { enabled = enabled }

abbrev pub with_migration_check : PortState → PortState
with_migration_check port = record port { check_migration = true }

-- stores the message, unless an earlier message is still pending
abbrev pub with_message : Bpdu → PortState → PortState
with_message message port =
    if port.received_bpdu || port.received_message then port
    else record port { message = Some message; received_bpdu = true }
