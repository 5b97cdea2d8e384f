use Rattle.std.proofs.Common.{◌≡◌, ◌+◌, ◌≤◌, ◌++◌, length, vec_len, vec_capacity}
use Rattle.route_join.specs.Updates.{all_updates}
use Rattle.ev_book.proofs.journal.leave_newest.Given as goal

-- the remaining updates come after those that were put back
abbrev pub invariant-loop-update : goal.invariant-loop-update
invariant-loop-update l = record {
  all : l.updates.items ++ l.update-iterator ≡ all_updates l.table;
  room : vec_len l.updates + length l.update-iterator ≤ vec_capacity l.updates;
}
