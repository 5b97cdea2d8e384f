use Rattle.route_join.specs.Inner.WinnerTree.{owns}
use Rattle.route_join.proofs.Trees.{all_placed}
use Rattle.route_join.proofs.Afters.{along_after}
use Rattle.route_join.proofs.large_group.LargeGroup.updates_after.Goals as goal

pub invariant_of-result : goal.invariant_of-result
invariant_of-result c = rw c.deref.ensures.value (all_placed (owns c.self.inside.nodes.items)
    c.self.inside.tree.entries c.self.invariant.placed c.range.result
    (λ k d l. ((c.range.ensures.in_range tt).0 k d l).1))

pub returns : goal.returns
returns c = rw (
  c.deref.ensures.value,
  c.range.ensures.between tt,
  c.new.ensures,
  along_after
      (owns c.self.inside.nodes.items) c.args.register.now c.self.inside.tree.entries,
  c.self.view_is,
)
