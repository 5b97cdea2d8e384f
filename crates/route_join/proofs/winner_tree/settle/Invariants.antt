use Rattle.std.proofs.Common.{◌≡◌, ◌<◌, length}
use Rattle.route_join.specs.Inner.WinnerTree.{owns, IsSettledBut}
use Rattle.route_join.proofs.winner_tree.settle.Given as goal

-- all places except this one and those above it are right
abbrev pub invariant-up : goal.invariant-up
invariant-up l = record {
  within : l.at < length l.nodes.items;
  others : IsSettledBut l.nodes.items l.changed l.at;
  owns : owns l.nodes.items ≡ owns l.fn.nodes.items;
}

abbrev pub decreases-up : goal.decreases-up
decreases-up l = l.at
