use Rattle.std.proofs.Common.{◌≡◌, ◌≤◌, length, take}
use Rattle.std.specs.List.{filter}
use Rattle.ev_mailboxes.specs.Board.{is_fresh}
use Rattle.ev_mailboxes.proofs.board.fresh.Given as goal

abbrev pub invariant-loop-posted : goal.invariant-loop-posted
invariant-loop-posted l = record {
  same : l.posted-items ≡ l.told.items;
  items : l.left.items ≡ filter (is_fresh l.now) (take l.posted-index l.posted-items);
  fewer : length l.left.items ≤ l.posted-index;
}
