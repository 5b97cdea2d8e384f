-- The names of the specifications that the proofs share.
pub use Rattle.bpdu_wire.specs.Id.{bridge_address, port_number}
pub use Rattle.bpdu_wire.specs.declared.bpdu.Bpdu.{Bpdu}
pub use Rattle.ether_wire.specs.Ports.{has_port, place_of_port}
pub use Rattle.rstp_roles.specs.AllPorts.{with_re_root, with_sync}
pub use Rattle.rstp_roles.specs.RoleTransitions.{without_proposal}
pub use Rattle.rstp_roles.specs.Rules.{role_asks, state_asks, state_does}
pub use Rattle.rstp_roles.specs.declared.rule.RoleRule.{RoleRule}
pub use Rattle.rstp_roles.specs.declared.rule.StateRule.{StateRule}
pub use Rattle.rstp_run.specs.BridgeDetection.{finds_no_bridge}
pub use Rattle.rstp_run.specs.Events.{direct, flushes, Happens, ports_at, start}
pub use Rattle.rstp_run.specs.Firings.{most_firings, selections}
pub use Rattle.rstp_run.specs.Information.{handled, message_has, rst_has, with_change_flags, with_info_time}
pub use Rattle.rstp_run.specs.Information.{with_proposal, with_superior_flags}
pub use Rattle.rstp_run.specs.Inner.Runs.{and_then, done, Goes, IsIdle, Sweeps, swept_on}
pub use Rattle.rstp_run.specs.Lasting.{is_select}
pub use Rattle.rstp_run.specs.Laws.{AreNumberedFrom, AreOrderly, IsInTree, IsOrderly}
pub use Rattle.rstp_run.specs.Machines.{information_asks, information_does, migration_asks, migration_does}
pub use Rattle.rstp_run.specs.Machines.{receive_asks, receive_does, topology_asks, transmit_asks}
pub use Rattle.rstp_run.specs.PortReceive.{discard_effect, discard_guard, receive_effect, receive_guard}
pub use Rattle.rstp_run.specs.RootPort.{Comes}
pub use Rattle.rstp_run.specs.Rules.{after, asks, guard, ports_after, Tree, timing_in, wants_selection}
pub use Rattle.rstp_run.specs.Runs.{AreOff, AreOffAt, AreOffBelow, Firing, flushed, IsSettled, is_flush, Run}
pub use Rattle.rstp_run.specs.Settled.{enough_firings, IsReached}
pub use Rattle.rstp_run.specs.Sweep.{fired, Going, main_order, pass, passes, round, sending_order, swept, tries}
pub use Rattle.rstp_run.specs.Sweep.{tries_all, tries_below, until_idle, Walk}
pub use Rattle.rstp_run.specs.TopologyChange.{is_in_tree, telling_others, with_propagation}
pub use Rattle.rstp_run.specs.declared.count.Count.{Count}
pub use Rattle.rstp_run.specs.declared.event.Event.{Event}
pub use Rattle.rstp_run.specs.declared.rule.InformationRule.{InformationRule}
pub use Rattle.rstp_run.specs.declared.rule.MigrationRule.{MigrationRule}
pub use Rattle.rstp_run.specs.declared.rule.ReceiveRule.{ReceiveRule}
pub use Rattle.rstp_run.specs.declared.rule.Rule.{Rule}
pub use Rattle.rstp_run.specs.declared.rule.Rule.TheVariants.{Select}
pub use Rattle.rstp_run.specs.declared.rule.TheConstants.{MAIN, SENDS}
pub use Rattle.rstp_run.specs.declared.rule.TopologyRule.{TopologyRule}
pub use Rattle.rstp_run.specs.declared.rule.TransmitRule.{TransmitRule}
pub use Rattle.rstp_state.proofs.Basics.{and_second_off as and_off, no}
pub use Rattle.rstp_state.proofs.Paths.{least_is_best, least_of_candidates}
pub use Rattle.rstp_state.specs.Direct.{with_enabled, with_message, with_migration_check, with_second, without_slot}
pub use Rattle.rstp_state.specs.Port.{change_at, edge_delay, forward_delay, has_role, is_active, is_blocked, is_current}
pub use Rattle.rstp_state.specs.Port.{is_designated, is_disabled, is_discarding, is_inactive, is_learning, is_out}
pub use Rattle.rstp_state.specs.Port.{is_received, is_root, may_act, same_role, test_at}
pub use Rattle.rstp_state.specs.Selection.{best_path, designated_times, designated_vector, is_better, is_own}
pub use Rattle.rstp_state.specs.Selection.{is_through, own_root, path_at, role_by, root_along, selected_ports}
pub use Rattle.rstp_state.specs.Selection.{selected_root, times_beyond, updates_by, with_choice}
pub use Rattle.rstp_state.specs.Start.{ports_from, start_port}
pub use Rattle.rstp_state.specs.Vector.{is_less, same_times, same_vector}
pub use Rattle.rstp_state.specs.declared.port.InfoIs.{InfoIs}
pub use Rattle.rstp_state.specs.declared.port.Information.{Information}
pub use Rattle.rstp_state.specs.declared.port.Migration.{Migration}
pub use Rattle.rstp_state.specs.declared.port.PortState.{PortState}
pub use Rattle.rstp_state.specs.declared.port.Role.{Role}
pub use Rattle.rstp_state.specs.declared.port.Timing.{Timing}
pub use Rattle.rstp_state.specs.declared.port.Topology.{Topology}
pub use Rattle.rstp_state.specs.declared.selection.Path.{Path}
pub use Rattle.rstp_state.specs.declared.selection.Root.{Root}
pub use Rattle.rstp_state.specs.declared.start.PortSettings.{PortSettings}
pub use Rattle.rstp_state.specs.declared.start.Settings.{Settings}
pub use Rattle.rstp_state.specs.declared.vector.Times.{Times}
pub use Rattle.rstp_state.specs.declared.vector.Vector.{Vector}
pub use Rattle.std.proofs.Common.{[], add-one, add-zero, ap, arith, Bool, below_more, cond, drop, false, get_or, IsTrue}
pub use Rattle.std.proofs.Common.{if◌then◌else◌, inl, inr, is_none, List, length, map, None, nat_lt, not, Option, refl}
pub use Rattle.std.proofs.Common.{Some, slice_get, slice_set, subst, suc, sym, take, true, zero, zero-add, ℕ, ◌&&◌, ◌*◌}
pub use Rattle.std.proofs.Common.{◌++◌, ◌+◌, ◌-◌, ◌<◌, ◌==◌, ◌^◌, ◌||◌, ◌↔◌, ◌∙◌, ◌∷◌, ◌≡◌, ◌≢◌, ◌≤◌, ◌⊎◌}
pub use Rattle.std.proofs.lemmas.Bool.{and_from as both, cases_Bool, cases_lt, eq-eqb, eqb-false, eqb-true, ltb-false}
pub use Rattle.std.proofs.lemmas.Bool.{ne_eqb, not-false, not-true, or_left, or_parts, or_right}
pub use Rattle.std.proofs.lemmas.Bool.Decides.{nat_tests}
pub use Rattle.std.proofs.lemmas.List.{length-append, length-map}
pub use Rattle.std.proofs.lemmas.List.Elements.{All-cons, All-nil}
pub use Rattle.std.proofs.lemmas.Option.{same_Some, same_Some as some_is, slice_get_cases, slice_get_within}
pub use Rattle.std.specs.List.{enumerate_from, filter_map, list_all, list_any}
pub use Rattle.std.specs.Option.{option_map_or}
pub use Rattle.bpdu_wire.specs.declared.bpdu.Bpdu.TheVariants as bpdus
pub use Rattle.rstp_roles.specs.RoleTransitions as roles
pub use Rattle.rstp_roles.specs.declared.rule.RoleRule.TheVariants as role_rule
pub use Rattle.rstp_roles.specs.declared.rule.StateRule.TheVariants as state_rule
pub use Rattle.rstp_run.specs.BridgeDetection as detection
pub use Rattle.rstp_run.specs.Information as info
pub use Rattle.rstp_run.specs.Migration as moves
pub use Rattle.rstp_run.specs.PortReceive as receiving
pub use Rattle.rstp_run.specs.TopologyChange as change
pub use Rattle.rstp_run.specs.Transmit as sends
pub use Rattle.rstp_run.specs.declared.event.Event.TheVariants as events
pub use Rattle.rstp_run.specs.declared.rule.DetectionRule.TheVariants as detection_rule
pub use Rattle.rstp_run.specs.declared.rule.InformationRule.TheVariants as information_rule
pub use Rattle.rstp_run.specs.declared.rule.MigrationRule.TheVariants as migration_rule
pub use Rattle.rstp_run.specs.declared.rule.ReceiveRule.TheVariants as receive_rule
pub use Rattle.rstp_run.specs.declared.rule.Rule.TheVariants as rules
pub use Rattle.rstp_run.specs.declared.rule.TopologyRule.TheVariants as topology_rule
pub use Rattle.rstp_run.specs.declared.rule.TransmitRule.TheVariants as transmit_rule
pub use Rattle.rstp_state.specs.declared.port.InfoIs.TheVariants as info_is
pub use Rattle.rstp_state.specs.declared.port.Information.TheVariants as information
pub use Rattle.rstp_state.specs.declared.port.Migration.TheVariants as migration
pub use Rattle.rstp_state.specs.declared.port.Role.TheVariants as role
pub use Rattle.rstp_state.specs.declared.port.Topology.TheVariants as topology
