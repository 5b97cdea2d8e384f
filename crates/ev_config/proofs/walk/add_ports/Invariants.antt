use Rattle.std.proofs.Common.{◌≡◌, ◌+◌, ◌++◌, drop}
use Rattle.toml.specs.View.{items_view}
use Rattle.ev_config.specs.Faults.{ports_faults}
use Rattle.ev_config.specs.Inner.Faults.{faults_view, context_view}
use Rattle.ev_config.proofs.walk.add_ports.Given as goal

abbrev pub invariant-loop-value : goal.invariant-loop-value
invariant-loop-value l = record {
  count : l.port ≡ l.value-index + 1;
  value : faults_view l.faults.items
      ++ ports_faults (context_view l.context) l.edge l.port (items_view (drop l.value-index l.tables.items))
      ≡ faults_view l.initial.faults.items
      ++ ports_faults (context_view l.context) l.edge 1 (items_view l.tables.items);
}
