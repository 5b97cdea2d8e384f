use Rattle.std.proofs.Common.{◌≡◌, ◌≤◌, ◌++◌, drop, map, vec_len}
use Rattle.toml.specs.View.{items_view}
use Rattle.ev_config.specs.Keys.{tables_of}
use Rattle.ev_config.specs.ConfigEdge.{edge_of, links_of}
use Rattle.ev_config.proofs.edges.edges_of.Given as goal

abbrev pub invariant-loop-value : goal.invariant-loop-value
invariant-loop-value l = record {
  each : vec_len l.links ≡ vec_len l.edges;
  count : vec_len l.edges ≤ l.value-index;
  edges : l.edges.items ++ map (edge_of l.listed.items) (tables_of (items_view (drop l.value-index l.tables.items)))
      ≡ map (edge_of l.listed.items) (tables_of (items_view l.tables.items));
  links : l.links.items ++ map links_of (tables_of (items_view (drop l.value-index l.tables.items)))
      ≡ map links_of (tables_of (items_view l.tables.items));
}
