use Rattle.std.proofs.Common.{◌≡◌, false, take}
use Rattle.std.specs.List.{list_any}
use Rattle.ev_run.specs.Obstacles.{is_local}
use Rattle.ev_run.proofs.obstacles.is_before.Given as goal

abbrev pub invariant-loop-links : goal.invariant-loop-links
invariant-loop-links l = list_any (λ links. list_any (is_local l.at) links.items) (take l.links-index l.before) ≡ false
