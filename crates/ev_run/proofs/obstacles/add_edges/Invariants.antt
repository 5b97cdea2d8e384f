use Rattle.std.proofs.Common.{◌≡◌, ◌++◌, take}
use Rattle.ev_view.specs.EdgeViews.{each_from}
use Rattle.ev_run.specs.Obstacles.{edge_obstacles}
use Rattle.ev_run.proofs.obstacles.add_edges.Given as goal

abbrev pub invariant-loop-place : goal.invariant-loop-place
invariant-loop-place l = l.found.items ≡ l.initial.found.items ++ each_from edge_obstacles 1 (take l.place l.edges)
