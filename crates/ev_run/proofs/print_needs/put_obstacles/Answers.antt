use Rattle.std.proofs.Common.{arith}
use Rattle.ev_run.specs.Obstacles.{told_of}
use Rattle.ev_view.proofs.Each.{written_from}
use Rattle.ev_run.proofs.print_needs.put_obstacles.Goals as goal

pub loop-obstacle-preserved : goal.loop-obstacle-preserved
loop-obstacle-preserved g c =
    let place = c.loop-obstacle.obstacle-index in
    let one = c.obstacle-item.result in
    written_from told_of 0 c.args.found.now place place one one (g.N.Out.end c.args.notes.now)
    (g.N.Out.end c.loop-obstacle.notes) (g.N.Out.end c.put_obstacle.new.notes) (omega arith)
    c.loop-obstacle.invariant c.in_ok-put_obstacle.ensures c.obstacle-item.is c.loop-obstacle-test.true
