-- The table of this crate's machines, by the names of the rules.
use Rattle.std.specs.Prelude.{ℕ, Bool, List}
use Rattle.rstp_state.specs.declared.port.PortState.{PortState}
use Rattle.rstp_state.specs.declared.port.Timing.{Timing}
use Rattle.rstp_state.specs.Port.{change_at}
use Rattle.rstp_run.specs.declared.rule.ReceiveRule.{ReceiveRule}
use Rattle.rstp_run.specs.declared.rule.ReceiveRule.TheVariants as receive_rule
use Rattle.rstp_run.specs.declared.rule.MigrationRule.{MigrationRule}
use Rattle.rstp_run.specs.declared.rule.MigrationRule.TheVariants as migration_rule
use Rattle.rstp_run.specs.declared.rule.DetectionRule.{DetectionRule}
use Rattle.rstp_run.specs.declared.rule.DetectionRule.TheVariants as detection_rule
use Rattle.rstp_run.specs.declared.rule.InformationRule.{InformationRule}
use Rattle.rstp_run.specs.declared.rule.InformationRule.TheVariants as information_rule
use Rattle.rstp_run.specs.declared.rule.TopologyRule.{TopologyRule}
use Rattle.rstp_run.specs.declared.rule.TopologyRule.TheVariants as topology_rule
use Rattle.rstp_run.specs.declared.rule.TransmitRule.{TransmitRule}
use Rattle.rstp_run.specs.declared.rule.TransmitRule.TheVariants as transmit_rule
use Rattle.rstp_run.specs.PortReceive as receive
use Rattle.rstp_run.specs.Migration as migration
use Rattle.rstp_run.specs.BridgeDetection as detection
use Rattle.rstp_run.specs.Information as information
use Rattle.rstp_run.specs.TopologyChange as topology
use Rattle.rstp_run.specs.Transmit as transmit

-- the guard and the effect of each rule at its port

abbrev pub receive_asks : ReceiveRule → PortState → Bool
receive_asks receive_rule.Discard port = receive.discard_guard port
receive_asks receive_rule.Receive port = receive.receive_guard port

abbrev pub receive_does : ReceiveRule → PortState → PortState
receive_does receive_rule.Discard port = receive.discard_effect port
receive_does receive_rule.Receive port = receive.receive_effect port

abbrev pub migration_asks : MigrationRule → PortState → Bool
migration_asks migration_rule.Recheck port = migration.recheck_guard port
migration_asks migration_rule.Checked port = migration.checked_guard port
migration_asks migration_rule.Selected port = migration.selected_guard port
migration_asks migration_rule.ToRstp port = migration.to_rstp_guard port
migration_asks migration_rule.ToStp port = migration.to_stp_guard port

abbrev pub migration_does : MigrationRule → PortState → PortState
migration_does migration_rule.Recheck port = migration.enter_checking port
migration_does migration_rule.Checked port = migration.enter_sensing port
migration_does migration_rule.Selected port = migration.enter_sensing port
migration_does migration_rule.ToRstp port = migration.enter_checking port
migration_does migration_rule.ToStp port = migration.enter_selecting port

abbrev pub detection_asks : DetectionRule → PortState → Bool
detection_asks detection_rule.Edge port = detection.edge_guard port
detection_asks detection_rule.NotEdge port = detection.not_edge_guard port

abbrev pub detection_does : DetectionRule → PortState → PortState
detection_does detection_rule.Edge port = detection.edge_effect port
detection_does detection_rule.NotEdge port = detection.not_edge_effect port

abbrev pub information_asks : InformationRule → PortState → Bool
information_asks information_rule.Disabled port = information.disabled_guard port
information_asks information_rule.Drop port = information.drop_guard port
information_asks information_rule.Enabled port = information.enabled_guard port
information_asks information_rule.Update port = information.update_guard port
information_asks information_rule.Aged port = information.aged_guard port
information_asks information_rule.Superior port = information.superior_guard port
information_asks information_rule.Repeated port = information.repeated_guard port
information_asks information_rule.Inferior port = information.inferior_guard port
information_asks information_rule.NotDesignated port = information.not_designated_guard port
information_asks information_rule.Other port = information.other_guard port

abbrev pub information_does : InformationRule → PortState → PortState
information_does information_rule.Disabled port = information.disabled_effect port
information_does information_rule.Drop port = information.drop_effect port
information_does information_rule.Enabled port = information.enabled_effect port
information_does information_rule.Update port = information.update_effect port
information_does information_rule.Aged port = information.aged_effect port
information_does information_rule.Superior port = information.superior_effect port
information_does information_rule.Repeated port = information.repeated_effect port
information_does information_rule.Inferior port = information.inferior_effect port
information_does information_rule.NotDesignated port = information.not_designated_effect port
information_does information_rule.Other port = information.other_effect port

abbrev pub topology_asks : TopologyRule → PortState → Bool
topology_asks topology_rule.TcLearning port = topology.tc_learning_guard port
topology_asks topology_rule.Detected port = topology.detected_guard port
topology_asks topology_rule.TcClear port = topology.tc_clear_guard port
topology_asks topology_rule.TcInactive port = topology.tc_inactive_guard port
topology_asks topology_rule.TcBack port = topology.tc_back_guard port
topology_asks topology_rule.NotifiedTcn port = topology.notified_tcn_guard port
topology_asks topology_rule.NotifiedTc port = topology.notified_tc_guard port
topology_asks topology_rule.Propagating port = topology.propagating_guard port
topology_asks topology_rule.Acknowledged port = topology.acknowledged_guard port
topology_asks topology_rule.Flush port = topology.flush_guard port

abbrev pub topology_does : TopologyRule → Timing → List PortState → ℕ → List PortState
topology_does topology_rule.TcLearning timing ports p = change_at p topology.tc_learning_effect ports
topology_does topology_rule.Detected timing ports p = topology.detected_effect timing p ports
topology_does topology_rule.TcClear timing ports p = change_at p topology.tc_clear_effect ports
topology_does topology_rule.TcInactive timing ports p = change_at p topology.tc_inactive_effect ports
topology_does topology_rule.TcBack timing ports p = change_at p topology.tc_back_effect ports
topology_does topology_rule.NotifiedTcn timing ports p = topology.notified_tcn_effect timing p ports
topology_does topology_rule.NotifiedTc timing ports p = topology.notified_tc_effect p ports
topology_does topology_rule.Propagating timing ports p = change_at p (topology.propagating_effect timing) ports
topology_does topology_rule.Acknowledged timing ports p = change_at p topology.acknowledged_effect ports
topology_does topology_rule.Flush timing ports p = change_at p topology.flush_effect ports

abbrev pub transmit_asks : TransmitRule → Timing → PortState → Bool
transmit_asks transmit_rule.Periodic timing port = transmit.periodic_guard port
transmit_asks transmit_rule.SendConfig timing port = transmit.send_config_guard timing port
transmit_asks transmit_rule.SendTcn timing port = transmit.send_tcn_guard timing port
transmit_asks transmit_rule.SendRst timing port = transmit.send_rst_guard timing port

abbrev pub transmit_does : TransmitRule → Timing → PortState → PortState
transmit_does transmit_rule.Periodic timing port = transmit.periodic_effect timing port
transmit_does transmit_rule.SendConfig timing port = transmit.send_config_effect timing port
transmit_does transmit_rule.SendTcn timing port = transmit.send_tcn_effect timing port
transmit_does transmit_rule.SendRst timing port = transmit.send_rst_effect timing port
