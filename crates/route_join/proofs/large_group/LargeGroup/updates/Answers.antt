use Rattle.std.proofs.Common.{true, refl}
use Rattle.route_join.specs.Inner.WinnerTree.{owns}
use Rattle.route_join.proofs.Trees.{all_placed, ordered_along}
use Rattle.route_join.proofs.Afters.{all_kept}
use Rattle.route_join.proofs.large_group.LargeGroup.updates.Goals as goal

pub invariant_of-result : goal.invariant_of-result
invariant_of-result c = rw c.deref.ensures.value (all_placed (owns c.self.inside.nodes.items)
    c.self.inside.tree.entries c.self.invariant.placed c.range.result
    (λ k d l. ((c.range.ensures.in_range tt).0 k d l).1))

pub returns-clause-value : goal.returns-clause-value
returns-clause-value c = rw (
  c.deref.ensures.value,
  c.range.ensures.between tt,
  all_kept (λ e. true) c.self.inside.tree.entries (λ e. refl),
) c.self.view_is

pub returns-clause-ordered : goal.returns-clause-ordered
returns-clause-ordered c = rw (← c.self.view_is) (ordered_along (owns c.self.inside.nodes.items)
    c.self.inside.tree.entries c.self.invariant.ordered)
