use Rattle.route_join.proofs.Merging.{all_is}
use Rattle.route_join.proofs.table.Table.updates_after.Goals as goal

pub returns : goal.returns
returns c = rw (all_is c.self.invariant.grouped c.self.view_is) c.after.ensures
