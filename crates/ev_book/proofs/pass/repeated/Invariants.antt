use Rattle.std.proofs.Common.{◌≡◌, replicate}
use Rattle.ev_book.proofs.pass.repeated.Given as goal

abbrev pub invariant-loop-place : goal.invariant-loop-place
invariant-loop-place g l = l.values.items ≡ replicate l.place l.value
