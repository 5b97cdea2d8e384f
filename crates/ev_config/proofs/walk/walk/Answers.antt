use Rattle.std.proofs.Common.{ap, ◌∙◌}
use Rattle.toml.specs.View.{table_view}
use Rattle.ev_config.specs.Faults.{SeenNames, after_all, edge_names}
use Rattle.ev_config.specs.Inner.Faults.{items_at, names_view}
use Rattle.ev_config.proofs.Adding.{names_of_edges, tables_of_peers, all_added}
use Rattle.ev_config.proofs.walk.walk.Goals as goal

pub returns-clause-faults : goal.returns-clause-faults
returns-clause-faults c =
    all_added c.args.wanted (table_view c.args.document.now) c.new-faults.result.items c.add_own.new.faults.items
    c.add_edges_at.new.faults.items c.add_devices.new.faults.items c.add_peers_at.new.faults.items
    (names_view c.new-names.result) (names_view c.add_edges_at.new.names) c.is_run-for_run.result
    c.count_of-count.result (items_at c.tables_at-edges.result) (items_at c.peers_at-peers.result)
    c.new-faults.ensures.items c.new-names.ensures c.is_run-for_run.ensures
    c.tables_at-edges.ensures.value c.count_of-count.ensures.value c.peers_at-peers.ensures.value
    c.in_ok-add_own.ensures c.in_ok-add_edges_at.ensures.faults c.in_ok-add_edges_at.ensures.names
    c.in_ok-add_devices.ensures c.in_ok-add_peers_at.ensures.faults

pub returns-clause-names : goal.returns-clause-names
returns-clause-names c =
    let w = c.args.wanted in
    let t = table_view c.args.document.now in
    let es = items_at c.tables_at-edges.result in
    let ps = items_at c.peers_at-peers.result in
    c.in_ok-add_peers_at.ensures.names
    ∙ ap (λ (n : SeenNames). after_all n ps)
    (names_of_edges t (names_view c.new-names.result) (names_view c.add_edges_at.new.names) es c.new-names.ensures
    c.tables_at-edges.ensures.value c.in_ok-add_edges_at.ensures.names)
    ∙ ap (after_all (edge_names t))
    (tables_of_peers w t c.count_of-count.result es ps c.tables_at-edges.ensures.value c.count_of-count.ensures.value
    c.peers_at-peers.ensures.value)
