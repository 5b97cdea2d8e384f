use Rattle.std.proofs.Common.{◌≡◌, ◌++◌, take}
use Rattle.ev_view.specs.EdgeViews.{each_from}
use Rattle.ev_run.specs.Obstacles.{ports_at}
use Rattle.ev_run.proofs.obstacles.add_all_ports.Given as goal

abbrev pub invariant-loop-place : goal.invariant-loop-place
invariant-loop-place l = l.found.items ≡ l.initial.found.items
    ++ each_from (ports_at l.edges l.all) 0 (take l.place l.all)
