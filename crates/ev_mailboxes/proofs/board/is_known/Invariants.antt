use Rattle.std.proofs.Common.{◌≡◌, false, take}
use Rattle.std.specs.List.{list_any}
use Rattle.ev_mailboxes.specs.Board.{is_like}
use Rattle.ev_mailboxes.proofs.board.is_known.Given as goal

abbrev pub invariant-loop-posted : goal.invariant-loop-posted
invariant-loop-posted l = list_any (is_like l.alarm) (take l.posted-index l.all) ≡ false
