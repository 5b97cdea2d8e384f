use Rattle.std.proofs.Common.{◌≡◌, Bool, ◌++◌, codes, subst}
use Rattle.toml.specs.Data.{Items}
use Rattle.toml.specs.View.{table_view}
use Rattle.ev_config.specs.Schema.{edge_rows}
use Rattle.ev_config.specs.Keys.{tables_at}
use Rattle.ev_config.specs.Faults.{Edge, fault_if, table_faults, times_in, is_odd, ports_faults}
use Rattle.ev_config.specs.Inner.Faults.{faults_view, context_view, Adds}
use Rattle.ev_config.proofs.Adding.{adds_then}
use Rattle.ev_config.proofs.walk.add_edge_by.Goals as goal

pub returns : goal.returns
returns c =
    let x = context_view c.args.context.now in
    let t = table_view c.args.table.now in
    let n = c.args.edge in
    let own = table_faults x (Edge n) edge_rows t in
    let odd = fault_if (is_odd (times_in t)) (Edge n) (codes "max_age") in
    let ports = ports_faults x n 1 (tables_at (codes "port") t) in
    let v0 = c.args.faults.now.items in
    let v1 = c.add_table.new.faults.items in
    let v2 = c.add_if.new.faults.items in
    let vn = c.add_ports_at.new.faults.items in
    let end = c.add_ports_at.result in
    adds_then own (odd ++ ports) v0 v1 vn end c.in_ok-add_table.ensures (
    adds_then odd ports v1 v2 vn end
    (subst (λ (b : Bool). faults_view v2 ≡ faults_view v1 ++ fault_if b (Edge n) (codes "max_age"))
    c.has_odd_times.ensures c.in_ok-add_if.ensures)
    (subst (λ (ds : Items). Adds (ports_faults x n 1 ds) v2 vn end) c.tables_at.ensures.value c.add_ports_at.ensures))
