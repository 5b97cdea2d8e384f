use Rattle.std.proofs.Common.{◌≡◌, ◌+◌, ◌≤◌, ◌++◌, drop, length}
use Rattle.toml.specs.View.{items_view}
use Rattle.ev_config.specs.Faults.{edges_faults, after_all}
use Rattle.ev_config.specs.Inner.Faults.{faults_view, names_view}
use Rattle.ev_config.proofs.walk.add_edges.Given as goal

abbrev pub invariant-loop-value : goal.invariant-loop-value
invariant-loop-value l = record {
  count : l.edge ≡ l.value-index + 1;
  addresses : length l.names.addresses.items ≤ length l.initial.names.addresses.items + l.value-index;
  bridges : length l.names.bridges.items ≤ length l.initial.names.bridges.items + l.value-index;
  names : after_all (names_view l.names) (items_view (drop l.value-index l.tables.items))
      ≡ after_all (names_view l.initial.names) (items_view l.tables.items);
  value : faults_view l.faults.items
      ++ edges_faults l.for_run (names_view l.names) l.edge (items_view (drop l.value-index l.tables.items))
      ≡ faults_view l.initial.faults.items
      ++ edges_faults l.for_run (names_view l.initial.names) 1 (items_view l.tables.items);
}
