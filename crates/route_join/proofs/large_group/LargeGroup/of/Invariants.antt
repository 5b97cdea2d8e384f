use Rattle.std.proofs.Common.{◌≡◌, take}
use Rattle.route_join.specs.Table.{entries_of}
use Rattle.route_join.specs.Inner.LargeGroup.{IsLargeGroup, large_updates}
use Rattle.route_join.proofs.large_group.LargeGroup.of.Given as goal

-- the first updates are entered
abbrev pub invariant-loop-update : goal.invariant-loop-update
invariant-loop-update l = record {
  kept : IsLargeGroup l.tree.entries l.nodes.items;
  filled : entries_of (large_updates l.tree.entries l.nodes.items) ≡ entries_of (take l.update-index l.updates);
}
