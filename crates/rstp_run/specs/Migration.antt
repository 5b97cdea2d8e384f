-- The protocol migration rules (IEEE 802.1D-2004, 17.24, in this project's own table).
use Rattle.std.specs.Prelude.{Bool, true, false, not, ◌&&◌, ◌||◌, ◌==◌}
use Rattle.rstp_state.specs.declared.port.PortState.{PortState}
use Rattle.rstp_state.specs.declared.port.Migration.TheVariants as migration
use Rattle.rstp_state.specs.Port.{is_checking, is_selecting, is_sensing}

-- the actions of a port when it enters a state

abbrev pub enter_checking : PortState → PortState
enter_checking port = record port {
  migration = migration.Checking;
  check_migration = false;
  send_rstp = true;
  migration_delay_while = 3;
}

abbrev pub enter_selecting : PortState → PortState
enter_selecting port = record port {
  migration = migration.Selecting;
  send_rstp = false;
  migration_delay_while = 3;
}

abbrev pub enter_sensing : PortState → PortState
enter_sensing port = record port {
  migration = migration.Sensing;
  received_rstp = false;
  received_stp = false;
}

-- Recheck: Checking goes on while the port is not enabled

abbrev pub recheck_guard : PortState → Bool
recheck_guard port = is_checking port.migration && not (port.migration_delay_while == 3) && not port.enabled

-- Checked: Checking is over

abbrev pub checked_guard : PortState → Bool
checked_guard port = is_checking port.migration && port.migration_delay_while == 0 && port.enabled

-- Selected: Selecting is over

abbrev pub selected_guard : PortState → Bool
selected_guard port =
    is_selecting port.migration
    && (port.migration_delay_while == 0 || not port.enabled || port.check_migration)

-- ToRstp: back to the rapid protocol

abbrev pub to_rstp_guard : PortState → Bool
to_rstp_guard port =
    is_sensing port.migration
    && (not port.enabled || port.check_migration || (not port.send_rstp && port.received_rstp))

-- ToStp: over to the older protocol

abbrev pub to_stp_guard : PortState → Bool
to_stp_guard port = is_sensing port.migration && port.send_rstp && port.received_stp
