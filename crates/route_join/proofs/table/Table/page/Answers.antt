use Rattle.route_join.proofs.Afters.{page_is}
use Rattle.route_join.proofs.table.Table.page.Goals as goal

pub invariant_of-result : goal.invariant_of-result
invariant_of-result c = rw (c.in_ok-updates.ensures, c.updates_from.ensures) (page_is c.args.after c.args.self.now)
