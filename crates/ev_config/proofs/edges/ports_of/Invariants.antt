use Rattle.std.proofs.Common.{◌≡◌, ◌≤◌, ◌++◌, drop, length, map}
use Rattle.toml.specs.View.{items_view}
use Rattle.ev_config.specs.Keys.{tables_of}
use Rattle.ev_config.specs.ConfigPort.{port_of}
use Rattle.ev_config.proofs.edges.ports_of.Given as goal

abbrev pub invariant-loop-value : goal.invariant-loop-value
invariant-loop-value l = record {
  count : length l.ports.items ≤ l.value-index;
  value : l.ports.items ++ map port_of (tables_of (items_view (drop l.value-index l.tables.items)))
      ≡ map port_of (tables_of (items_view l.tables.items));
}
