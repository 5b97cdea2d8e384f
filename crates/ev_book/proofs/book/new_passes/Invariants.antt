use Rattle.std.proofs.Common.{◌≡◌, ◌+◌, vec_len}
use Rattle.ev_book.specs.Opening.{opened_passes}
use Rattle.ev_book.proofs.book.new_passes.Given as goal

abbrev pub invariant-loop-number : goal.invariant-loop-number
invariant-loop-number g l = record {
  parts : l.share.parts + l.number ≡ l.passes;
  amount : l.share.amount ≡ 0;
  made : l.made.items ≡ opened_passes l.number;
  len : vec_len l.made ≡ l.number;
}
