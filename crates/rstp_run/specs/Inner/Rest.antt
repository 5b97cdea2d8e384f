-- Whether a machine may have something to do at a port: if it isn't busy, none of its rules is enabled.
use Rattle.std.specs.Prelude.{ℕ, Bool, not, ◌&&◌, ◌||◌, ◌==◌, List}
use Rattle.std.specs.List.{list_any}
use Rattle.rstp_state.specs.declared.port.PortState.{PortState}
use Rattle.rstp_state.specs.Port.{is_designated, test_at}
use Rattle.rstp_roles.specs.RoleTransitions.{synced_guard}
use Rattle.rstp_roles.specs.StateTransitions.{to_learning_guard, to_forwarding_guard, to_discarding_guard}
use Rattle.rstp_run.specs.BridgeDetection.{edge_guard, not_edge_guard}
use Rattle.rstp_run.specs.Information.{disabled_guard, drop_guard, enabled_guard, update_guard}
use Rattle.rstp_run.specs.Information.{aged_guard, may_take}
use Rattle.rstp_run.specs.Migration.{recheck_guard, checked_guard, selected_guard, to_rstp_guard, to_stp_guard}
use Rattle.rstp_run.specs.PortReceive.{discard_guard, receive_guard}
use Rattle.rstp_run.specs.Rules.{wants_selection}
use Rattle.rstp_run.specs.declared.rule.Part.{Part}
use Rattle.rstp_run.specs.declared.rule.Part.TheVariants as part
use Rattle.rstp_run.specs.TopologyChange.{tc_learning_guard, detected_guard, tc_clear_guard, tc_inactive_guard}
use Rattle.rstp_run.specs.TopologyChange.{tc_back_guard, notified_tcn_guard, notified_tc_guard, propagating_guard}
use Rattle.rstp_run.specs.TopologyChange.{acknowledged_guard, flush_guard}

abbrev pub receive_is_busy : PortState → Bool
receive_is_busy port = discard_guard port || receive_guard port

abbrev pub migration_is_busy : PortState → Bool
migration_is_busy port =
    recheck_guard port || checked_guard port || selected_guard port || to_rstp_guard port || to_stp_guard port

abbrev pub detection_is_busy : PortState → Bool
detection_is_busy port = edge_guard port || not_edge_guard port

-- a rule is enabled, or a message is pending
abbrev pub information_is_busy : PortState → Bool
information_is_busy port =
    disabled_guard port || drop_guard port || enabled_guard port || update_guard port || aged_guard port
    || may_take port

-- the port should learn and forward, and is neither requested to come in step or leave the old root, nor disputed
abbrev pub keeps_forwarding : PortState → Bool
keeps_forwarding port = port.learn && port.forward && not port.sync && not port.re_root && not port.disputed

-- the port isn't a designated port that keeps forwarding, or it has to be marked as synced
abbrev pub role_is_busy : PortState → Bool
role_is_busy port =
    not (is_designated port.role) || not (is_designated port.selected_role) || not (keeps_forwarding port)
    || synced_guard port

abbrev pub state_is_busy : PortState → Bool
state_is_busy port = to_learning_guard port || to_forwarding_guard port || to_discarding_guard port

-- an active port received a change or an acknowledgement, or has to pass on a change; or addresses have to be flushed
abbrev pub change_is_busy : PortState → Bool
change_is_busy port =
    notified_tcn_guard port || notified_tc_guard port || propagating_guard port || acknowledged_guard port
    || flush_guard port

abbrev pub topology_is_busy : PortState → Bool
topology_is_busy port =
    tc_learning_guard port || detected_guard port || tc_clear_guard port || tc_inactive_guard port
    || tc_back_guard port || change_is_busy port

-- a machine is busy at the port, apart from selection and the rules that send
abbrev pub port_is_busy : PortState → Bool
port_is_busy port =
    receive_is_busy port || migration_is_busy port || detection_is_busy port || information_is_busy port
    || role_is_busy port || state_is_busy port || topology_is_busy port

-- a port requests selection (tested only at the first port), or a machine is busy at port p, apart from the rules that
-- send
abbrev pub main_is_busy : List PortState → ℕ → Bool
main_is_busy ports p = test_at p (λ port. (p == 0 && list_any wants_selection ports) || port_is_busy port) ports

-- a Hello time is over, or the port has something new to send
abbrev pub port_sends : PortState → Bool
port_sends port = port.hello_when == 0 || port.new_info

-- a rule of this part of the table may be enabled at port p
abbrev pub is_busy : Part → List PortState → ℕ → Bool
is_busy part.Main ports p = main_is_busy ports p
is_busy part.Sends ports p = test_at p port_sends ports
