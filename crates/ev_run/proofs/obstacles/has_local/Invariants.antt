use Rattle.std.proofs.Common.{◌≡◌, false, take}
use Rattle.std.specs.List.{list_any}
use Rattle.ev_run.specs.Obstacles.{is_local}
use Rattle.ev_run.proofs.obstacles.has_local.Given as goal

abbrev pub invariant-loop-link : goal.invariant-loop-link
invariant-loop-link l = list_any (is_local l.at) (take l.link-index l.ports) ≡ false
