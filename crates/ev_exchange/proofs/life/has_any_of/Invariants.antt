use Rattle.std.proofs.Common.{◌≡◌, false, take}
use Rattle.std.specs.List.{list_any}
use Rattle.ev_exchange.specs.Sending.{is_own}
use Rattle.ev_exchange.proofs.life.has_any_of.Given as goal

abbrev pub invariant-loop-update : goal.invariant-loop-update
invariant-loop-update l = list_any (is_own l.originator) (take l.update-index l.updates) ≡ false
