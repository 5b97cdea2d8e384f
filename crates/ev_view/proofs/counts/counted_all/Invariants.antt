use Rattle.std.proofs.Common.{◌≡◌}
use Rattle.ev_view.specs.Counts.{counted_all, none_counted}
use Rattle.ev_view.proofs.counts.counted_all.Given as goal

abbrev pub invariant-loop-update : goal.invariant-loop-update
invariant-loop-update l = counted_all l.edge l.fn.updates none_counted ≡ counted_all l.edge l.update-iterator l.so_far
