-- The values that rules read from a port and its bridge, and the change of one port of a list by a rule.
use Rattle.std.specs.Prelude.{ℕ, Bool, true, false, not, ◌&&◌, ◌==◌, bit_and, if◌then◌else◌, List, slice_get, slice_set}
use Rattle.std.specs.Option.{option_map_or}
use Rattle.rstp_state.specs.declared.port.PortState.{PortState}
use Rattle.rstp_state.specs.declared.port.Timing.{Timing}
use Rattle.rstp_state.specs.declared.port.Role.{Role}
use Rattle.rstp_state.specs.declared.port.Role.TheVariants as role
use Rattle.rstp_state.specs.declared.port.Migration.{Migration}
use Rattle.rstp_state.specs.declared.port.Migration.TheVariants as migration
use Rattle.rstp_state.specs.declared.port.Information.{Information}
use Rattle.rstp_state.specs.declared.port.Information.TheVariants as information
use Rattle.rstp_state.specs.declared.port.Topology.{Topology}
use Rattle.rstp_state.specs.declared.port.Topology.TheVariants as topology
use Rattle.rstp_state.specs.declared.port.InfoIs.{InfoIs}
use Rattle.rstp_state.specs.declared.port.InfoIs.TheVariants as info_is

-- roles

abbrev pub is_disabled : Role → Bool
is_disabled role.Disabled = true
is_disabled _ = false

abbrev pub is_root : Role → Bool
is_root role.Root = true
is_root _ = false

abbrev pub is_designated : Role → Bool
is_designated role.Designated = true
is_designated _ = false

abbrev pub is_backup : Role → Bool
is_backup role.Backup = true
is_backup _ = false

-- Alternate or Backup
abbrev pub is_blocked : Role → Bool
is_blocked role.Alternate = true
is_blocked role.Backup = true
is_blocked _ = false

abbrev pub same_role : Role → Role → Bool
same_role role.Disabled role.Disabled = true
same_role role.Root role.Root = true
same_role role.Designated role.Designated = true
same_role role.Alternate role.Alternate = true
same_role role.Backup role.Backup = true
same_role _ _ = false

-- machine states

abbrev pub is_checking : Migration → Bool
is_checking migration.Checking = true
is_checking _ = false

abbrev pub is_selecting : Migration → Bool
is_selecting migration.Selecting = true
is_selecting _ = false

abbrev pub is_sensing : Migration → Bool
is_sensing migration.Sensing = true
is_sensing _ = false

abbrev pub is_out : Information → Bool
is_out information.Disabled = true
is_out _ = false

abbrev pub is_current : Information → Bool
is_current information.Current = true
is_current _ = false

abbrev pub is_inactive : Topology → Bool
is_inactive topology.Inactive = true
is_inactive _ = false

abbrev pub is_learning : Topology → Bool
is_learning topology.Learning = true
is_learning _ = false

abbrev pub is_active : Topology → Bool
is_active topology.Active = true
is_active _ = false

abbrev pub is_received : InfoIs → Bool
is_received info_is.Received = true
is_received _ = false

abbrev pub is_mine : InfoIs → Bool
is_mine info_is.Mine = true
is_mine _ = false

-- tests of a port

-- the roles are selected, and no update is pending: the table's 'selected, not updtInfo'
abbrev pub may_act : PortState → Bool
may_act port = port.selected && not port.update_info

-- the port has taken its selected role
abbrev pub has_role : PortState → Bool
has_role port = same_role port.role port.selected_role

-- neither learning nor forwarding
abbrev pub is_discarding : PortState → Bool
is_discarding port = not port.learning && not port.forwarding

-- the time that a port waits in each state: a Hello time with the rapid protocol, otherwise the root's forward delay
abbrev pub forward_delay : Timing → PortState → ℕ
forward_delay timing port = if port.send_rstp then timing.hello else timing.forward_delay

-- the time that a port waits before it may become an edge
abbrev pub edge_delay : Timing → PortState → ℕ
edge_delay timing port = if port.point_to_point then 3 else timing.max_age

-- the flags include a flag of this mask
abbrev pub has_flag : ℕ → ℕ → Bool
has_flag flags mask = not (bit_and flags mask == 0)

-- the port exists and passes the test
abbrev pub test_at : ℕ → (PortState → Bool) → List PortState → Bool
test_at p test ports = option_map_or test (slice_get ports p) false

-- changes one port of a list, if that port exists
abbrev pub change_at : ℕ → (PortState → PortState) → List PortState → List PortState
change_at p change ports = option_map_or (λ port. slice_set ports p (change port)) (slice_get ports p) ports
