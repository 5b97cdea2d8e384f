use Rattle.std.proofs.Common.{◌≡◌, ◌++◌, length, drop}
use Rattle.ev_book.specs.Closing.{counts_of}
use Rattle.ev_book.proofs.pass.own_counts.Given as goal

abbrev pub invariant-loop-pass : goal.invariant-loop-pass
invariant-loop-pass g l = record {
  all : counts_of l.passes ≡ l.counts.items ++ counts_of (drop l.pass-index l.passes);
  len : length l.counts.items ≡ l.pass-index;
}
