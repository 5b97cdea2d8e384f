use Rattle.std.proofs.Common.{◌≡◌, ◌++◌, take}
use Rattle.ev_view.specs.EdgeViews.{each_from}
use Rattle.ev_run.specs.Obstacles.{obstacles_at}
use Rattle.ev_run.proofs.obstacles.add_ports.Given as goal

abbrev pub invariant-loop-place : goal.invariant-loop-place
invariant-loop-place l = l.found.items ≡ l.initial.found.items
    ++ each_from (obstacles_at l.edges l.before l.links) 0 (take l.place l.links)
