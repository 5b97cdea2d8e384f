use Rattle.std.proofs.Common.{◌≡◌, take}
use Rattle.ether_wire.specs.Ends.{with_text}
use Rattle.ev_run.specs.Obstacles.{obstacles_text}
use Rattle.ev_run.proofs.print_needs.put_obstacles.Given as goal

abbrev pub invariant-loop-obstacle : goal.invariant-loop-obstacle
invariant-loop-obstacle g l = g.N.Out.end l.notes
    ≡ with_text (g.N.Out.end l.initial.notes) (obstacles_text (take l.obstacle-index l.found))
