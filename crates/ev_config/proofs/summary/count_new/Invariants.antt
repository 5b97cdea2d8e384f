use Rattle.std.proofs.Common.{◌≡◌, ◌+◌, ◌≤◌, ◌++◌, drop}
use Rattle.ev_config.specs.Summary.{count_different, all_vnis}
use Rattle.ev_config.proofs.summary.count_new.Given as goal

abbrev pub invariant-loop-place : goal.invariant-loop-place
invariant-loop-place l = record {
  few : l.count ≤ l.place;
  value : l.count + count_different (drop l.place l.vnis ++ all_vnis l.later)
      ≡ count_different (l.vnis ++ all_vnis l.later);
}
