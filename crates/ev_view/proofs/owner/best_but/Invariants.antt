use Rattle.std.proofs.Common.{◌≡◌, None}
use Rattle.ev_view.specs.Owners.{best_but}
use Rattle.ev_view.proofs.owner.best_but.Given as goal

abbrev pub invariant-loop-update : goal.invariant-loop-update
invariant-loop-update l = best_but l.told l.fn.updates None ≡ best_but l.told l.update-iterator l.best
