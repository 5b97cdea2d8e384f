use Rattle.std.proofs.Common.{◌≡◌, ◌++◌, take}
use Rattle.route_wire.proofs.Feeding.{IsUnfinished}
use Rattle.route_wire.proofs.feed.take_head.Given as goal

-- the first octets of the piece are moved, and before the last of them nothing was whole
abbrev pub invariant-loop-i : goal.invariant-loop-i
invariant-loop-i l = record {
  moved : l.held.items ≡ l.fn.held.items ++ take l.i l.piece;
  unfinished : IsUnfinished l.newest l.fn.held.items l.piece l.i;
}
