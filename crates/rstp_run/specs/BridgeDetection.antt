-- The bridge detection rules (IEEE 802.1D-2004, 17.25, in this project's own table).
use Rattle.std.specs.Prelude.{Bool, true, false, not, ◌&&◌, ◌||◌, ◌==◌}
use Rattle.rstp_state.specs.declared.port.PortState.{PortState}

-- no bridge answers, although the port proposed
abbrev pub finds_no_bridge : PortState → Bool
finds_no_bridge port = port.edge_delay_while == 0 && port.auto_edge && port.send_rstp && port.proposing

-- Edge: the port leads to no bridge

abbrev pub edge_guard : PortState → Bool
edge_guard port = not port.oper_edge && ((not port.enabled && port.admin_edge) || finds_no_bridge port)

abbrev pub edge_effect : PortState → PortState
edge_effect port = record port { oper_edge = true }

-- NotEdge: a port that went down is an edge only by its settings

abbrev pub not_edge_guard : PortState → Bool
not_edge_guard port = port.oper_edge && not port.enabled && not port.admin_edge

abbrev pub not_edge_effect : PortState → PortState
not_edge_effect port = record port { oper_edge = false }
