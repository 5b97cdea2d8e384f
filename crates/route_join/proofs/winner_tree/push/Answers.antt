use Rattle.std.proofs.Common.{◌≡◌, length, arith}
use Rattle.route_join.proofs.WinnerTrees.{pushed}
use Rattle.route_join.proofs.winner_tree.push.Goals as goal

pub settle-requires-clause-others : goal.settle-requires-clause-others
settle-requires-clause-others c =
    let v = c.args.nodes.now in
    let next : length v.items ≡ c.args.place = omega (arith, c.requires.next, v.ok.0) in
    rw (c.push_reserved.ensures.items, ← next) (pushed c.args.update.now v.items c.requires.settled)
