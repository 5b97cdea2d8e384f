use Rattle.std.proofs.Common.{◌≡◌, drop}
use Rattle.ev_book.specs.Closing.{count_in}
use Rattle.ev_book.proofs.pass.Totals.of.Given as goal

-- those before it have other numbers
abbrev pub invariant-loop-counted : goal.invariant-loop-counted
invariant-loop-counted l = count_in l.counts l.number ≡ count_in (drop l.counted-index l.counts) l.number
