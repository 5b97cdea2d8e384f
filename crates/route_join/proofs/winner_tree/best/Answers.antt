use Rattle.route_join.proofs.WinnerTrees.{best_of}
use Rattle.route_join.proofs.winner_tree.best.Goals as goal

pub returns : goal.returns
returns c = rw (c.said_at.ensures, c.best_below.ensures) (best_of c.args.nodes.now c.requires)
