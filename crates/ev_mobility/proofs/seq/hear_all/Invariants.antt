use Rattle.std.proofs.Common.{◌≡◌}
use Rattle.ev_mobility.specs.Seq.{heard_all, nothing_heard}
use Rattle.ev_mobility.proofs.seq.hear_all.Given as goal

abbrev pub invariant-loop-update : goal.invariant-loop-update
invariant-loop-update l = heard_all l.own l.fn.updates nothing_heard ≡ heard_all l.own l.update-iterator l.so_far
