use Rattle.std.proofs.Common.{◌≡◌, false, take}
use Rattle.std.specs.List.{list_any}
use Rattle.ev_exchange.specs.Life.{lacks}
use Rattle.ev_exchange.proofs.life.Life.lacks_any.Given as goal

abbrev pub invariant-loop-update : goal.invariant-loop-update
invariant-loop-update l = list_any (lacks l.self) (take l.update-index l.updates) ≡ false
