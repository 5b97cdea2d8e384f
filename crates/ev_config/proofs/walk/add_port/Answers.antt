use Rattle.std.proofs.Common.{Bool, subst}
use Rattle.toml.specs.View.{table_view}
use Rattle.ev_config.specs.Schema.{port_rows}
use Rattle.ev_config.specs.Faults.{Port, Context, table_faults}
use Rattle.ev_config.specs.Inner.Faults.{context_view, Adds}
use Rattle.ev_config.proofs.walk.add_port.Goals as goal

pub returns : goal.returns
returns c =
    let x = context_view c.args.context.now in
    let t = table_view c.args.table.now in
    let with_device : Bool → Context = λ b. record {
      for_run = x.for_run;
      names = x.names;
      vnis = x.vnis;
      edges = x.edges;
      has_device = b;
    } in
    subst
    (λ (b : Bool). Adds (table_faults (with_device b) (Port c.args.edge c.args.port) port_rows t)
    c.args.faults.now.items c.add_table.new.faults.items c.add_table.result) c.has_device.ensures c.add_table.ensures
