use Rattle.std.proofs.Common.{◌≡◌, ◌+◌, ◌≤◌, ◌++◌, List, take, vec_len, vec_capacity}
use Rattle.route_wire.specs.Fields.{Fields}
use Rattle.ev_book.specs.Journal.{AreOwnSince}
use Rattle.ev_book.proofs.journal.append_own.Given as goal

-- the first ones are appended, whatever list of them is taken
abbrev pub invariant-loop-offset : goal.invariant-loop-offset
invariant-loop-offset l = record {
  items : (own : List Fields) → AreOwnSince l.edge.routes.speaker l.before own
      → l.journal.items ≡ l.fn.journal.items ++ take l.offset own;
  room : vec_len l.journal + l.count ≤ vec_capacity l.journal + l.offset;
}
