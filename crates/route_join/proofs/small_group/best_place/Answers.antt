use Rattle.route_join.proofs.Leaders.{winner_more, some_update}
use Rattle.route_join.proofs.small_group.best_place.Goals as goal

pub loop-at-preserved : goal.loop-at-preserved
loop-at-preserved c = rw c.better_place-winner.ensures (winner_more c.args.updates.now c.loop-at.at c.requires
    c.loop-at-test.true some_update c.loop-at.winner c.loop-at.invariant)
