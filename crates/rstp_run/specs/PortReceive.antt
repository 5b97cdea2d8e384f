-- The receive rules (IEEE 802.1D-2004, 17.23, in this project's own table).
use Rattle.std.specs.Prelude.{Bool, true, false, not, ◌&&◌, ◌||◌, ◌==◌, Option, Some}
use Rattle.bpdu_wire.specs.declared.bpdu.Bpdu.{Bpdu}
use Rattle.bpdu_wire.specs.declared.bpdu.Bpdu.TheVariants.{Rst}
use Rattle.rstp_state.specs.declared.port.PortState.{PortState}

abbrev pub is_rst : Option Bpdu → Bool
is_rst (Some (Rst _)) = true
is_rst _ = false

-- Discard: a port that is not enabled drops its received message and restarts its edge delay

abbrev pub discard_guard : PortState → Bool
discard_guard port = (port.received_bpdu || not (port.edge_delay_while == 3)) && not port.enabled

abbrev pub discard_effect : PortState → PortState
discard_effect port = record port {
  received_bpdu = false;
  received_rstp = false;
  received_stp = false;
  received_message = false;
  edge_delay_while = 3;
}

-- Receive: the stored message goes to the other machines, and the port is not an edge

abbrev pub receive_guard : PortState → Bool
receive_guard port = port.received_bpdu && port.enabled && not port.received_message

abbrev pub receive_effect : PortState → PortState
receive_effect port = record port {
  received_rstp = is_rst port.message || port.received_rstp;
  received_stp = not (is_rst port.message) || port.received_stp;
  oper_edge = false;
  received_bpdu = false;
  received_message = true;
  edge_delay_while = 3;
}
