use Rattle.std.proofs.Common.{◌≡◌, ◌≤◌, ◌++◌, drop, length, map}
use Rattle.toml.specs.View.{items_view}
use Rattle.ev_config.specs.Keys.{tables_of}
use Rattle.ev_config.specs.ConfigPort.{link_of}
use Rattle.ev_config.proofs.edges.links_of.Given as goal

abbrev pub invariant-loop-value : goal.invariant-loop-value
invariant-loop-value l = record {
  count : length l.links.items ≤ l.value-index;
  value : l.links.items ++ map link_of (tables_of (items_view (drop l.value-index l.tables.items)))
      ≡ map link_of (tables_of (items_view l.tables.items));
}
