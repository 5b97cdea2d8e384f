-- The topology change rules (IEEE 802.1D-2004, 17.31, in this project's own table).
use Rattle.std.specs.Prelude.{ℕ, Bool, true, false, not, ◌&&◌, ◌||◌, ◌==◌, ◌+◌, if◌then◌else◌, List, map, slice_get}
use Rattle.std.specs.Prelude.{slice_set}
use Rattle.std.specs.Option.{option_map_or}
use Rattle.rstp_state.specs.declared.port.PortState.{PortState}
use Rattle.rstp_state.specs.declared.port.Timing.{Timing}
use Rattle.rstp_state.specs.declared.port.Topology.TheVariants as topology
use Rattle.rstp_state.specs.Port.{is_root, is_designated, is_inactive, is_learning, is_active}

-- the port's role is Root or Designated
abbrev pub is_in_tree : PortState → Bool
is_in_tree port = is_root port.role || is_designated port.role

-- a change was received or acknowledged, or has to be passed on
abbrev pub has_changes : PortState → Bool
has_changes port =
    port.received_topology_change || port.received_notification || port.received_acknowledgement
    || port.propagate_topology_change

abbrev pub without_changes : PortState → PortState
without_changes port = record port {
  received_topology_change = false;
  received_notification = false;
  received_acknowledgement = false;
  propagate_topology_change = false;
}

-- starts the time in which the port sends the change, unless it is running
abbrev pub with_change_timer : Timing → PortState → PortState
with_change_timer timing port =
    if port.topology_change_while == 0
    then (if port.send_rstp
    then record port { topology_change_while = timing.hello + 1; new_info = true }
    else record port { topology_change_while = timing.max_age + timing.forward_delay })
    else port

abbrev pub with_propagation : PortState → PortState
with_propagation port = record port { propagate_topology_change = true }

-- port p changes by this function, and every other port has to pass on a change
abbrev pub telling_others : ℕ → (PortState → PortState) → List PortState → List PortState
telling_others p change ports =
    option_map_or (λ port. slice_set (map with_propagation ports) p (change port)) (slice_get ports p) ports

-- TcLearning: the port begins to learn

abbrev pub tc_learning_guard : PortState → Bool
tc_learning_guard port = is_inactive port.topology && port.learn && not port.flush

abbrev pub tc_learning_effect : PortState → PortState
tc_learning_effect port = record (without_changes port) { topology = topology.Learning }

-- Detected: the port begins to forward, which is a change

abbrev pub detected_guard : PortState → Bool
detected_guard port = is_learning port.topology && is_in_tree port && port.forward && not port.oper_edge

abbrev pub detected_at : Timing → PortState → PortState
detected_at timing port =
    record (with_change_timer timing (record port { topology = topology.Active })) { new_info = true }

abbrev pub detected_effect : Timing → ℕ → List PortState → List PortState
detected_effect timing p ports = telling_others p (detected_at timing) ports

-- TcClear: a port that is not active clears its changes

abbrev pub tc_clear_guard : PortState → Bool
tc_clear_guard port = is_learning port.topology && has_changes port && not (detected_guard port)

abbrev pub tc_clear_effect : PortState → PortState
tc_clear_effect port = without_changes port

-- TcInactive: the port no longer learns, so its learnt addresses are flushed

abbrev pub tc_inactive_guard : PortState → Bool
tc_inactive_guard port =
    is_learning port.topology && not (is_in_tree port) && not port.learn && not port.learning
    && not (has_changes port)

abbrev pub tc_inactive_effect : PortState → PortState
tc_inactive_effect port = record port {
  topology = topology.Inactive;
  flush = true;
  topology_change_while = 0;
  acknowledge_topology_change = false;
}

-- TcBack: the port left the tree, or is an edge

abbrev pub tc_back_guard : PortState → Bool
tc_back_guard port = is_active port.topology && (not (is_in_tree port) || port.oper_edge)

abbrev pub tc_back_effect : PortState → PortState
tc_back_effect port = record (without_changes port) { topology = topology.Learning }

-- NotifiedTcn: a bridge of the older protocol announces a change

abbrev pub notified_tcn_guard : PortState → Bool
notified_tcn_guard port = is_active port.topology && port.received_notification

abbrev pub notified_at : PortState → PortState
notified_at port = record port {
  received_notification = false;
  received_topology_change = false;
  acknowledge_topology_change = port.acknowledge_topology_change || is_designated port.role;
}

abbrev pub notified_tcn_at : Timing → PortState → PortState
notified_tcn_at timing port = notified_at (with_change_timer timing port)

abbrev pub notified_tcn_effect : Timing → ℕ → List PortState → List PortState
notified_tcn_effect timing p ports = telling_others p (notified_tcn_at timing) ports

-- NotifiedTc: a message announces a change

abbrev pub notified_tc_guard : PortState → Bool
notified_tc_guard port = is_active port.topology && port.received_topology_change

abbrev pub notified_tc_effect : ℕ → List PortState → List PortState
notified_tc_effect p ports = telling_others p notified_at ports

-- Propagating: the port passes on a change

abbrev pub propagating_guard : PortState → Bool
propagating_guard port = is_active port.topology && port.propagate_topology_change && not port.oper_edge

abbrev pub propagating_effect : Timing → PortState → PortState
propagating_effect timing port =
    record (with_change_timer timing port) { flush = true; propagate_topology_change = false }

-- Acknowledged: the other end acknowledged the change

abbrev pub acknowledged_guard : PortState → Bool
acknowledged_guard port = is_active port.topology && port.received_acknowledgement

abbrev pub acknowledged_effect : PortState → PortState
acknowledged_effect port = record port { topology_change_while = 0; received_acknowledgement = false }

-- Flush: the addresses learnt at the port are flushed, and the event's result reports the flush

abbrev pub flush_guard : PortState → Bool
flush_guard port = port.flush

abbrev pub flush_effect : PortState → PortState
flush_effect port = record port { flush = false }
