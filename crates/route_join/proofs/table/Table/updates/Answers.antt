use Rattle.std.proofs.Common.{sym, ◌∙◌}
use Rattle.route_join.proofs.Abouts.{all_updates_are}
use Rattle.route_join.proofs.Merging.{all_is}
use Rattle.route_join.proofs.table.Table.updates.Goals as goal

pub returns-clause-value : goal.returns-clause-value
returns-clause-value c = c.of.ensures ∙ sym (all_is c.self.invariant.grouped c.self.view_is)

pub returns-clause-exact : goal.returns-clause-exact
returns-clause-exact c = rw (returns-clause-value c) (all_updates_are c.args.self.now)
