use Rattle.std.proofs.Common.{◌≡◌, ◌+◌, vec_len}
use Rattle.ev_book.specs.Inner.Closing.{calls_of}
use Rattle.ev_book.proofs.pass.merged.Given as goal

abbrev pub invariant-loop-pass : goal.invariant-loop-pass
invariant-loop-pass g l = record {
  parts : l.all.parts + vec_len l.passes ≡ vec_len l.fn.passes;
  amount : l.all.amount + calls_of l.passes.items ≡ calls_of l.fn.passes.items;
}

abbrev pub decreases-loop-pass : goal.decreases-loop-pass
decreases-loop-pass g l = vec_len l.passes
