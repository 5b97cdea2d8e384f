use Rattle.route_join.proofs.Lines.{group_report}
use Rattle.route_join.proofs.table.Table.write_report.Goals as goal

pub returns : goal.returns
returns g c = rw (
  ← c.self.view_is,
  ← group_report c.self.inside.originators.items c.self.inside.groups
      c.self.invariant.grouped,
) c.put_groups.ensures
