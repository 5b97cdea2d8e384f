use Rattle.std.proofs.Common.{take}
use Rattle.route_join.specs.Inner.Group.{told, HasWinner}
use Rattle.route_join.proofs.small_group.best_place.Given as goal

abbrev pub invariant-loop-at : goal.invariant-loop-at
invariant-loop-at l = HasWinner l.updates (told (take l.at l.updates)) l.winner
