use Rattle.std.proofs.Common.{◌≡◌, ◌+◌, ◌*◌, ◌≤◌, drop}
use Rattle.ev_config.specs.Summary.{vni_count}
use Rattle.ev_config.proofs.summary.count_vnis.Given as goal

abbrev pub invariant-loop-place : goal.invariant-loop-place
invariant-loop-place l = record {
  few : l.count ≤ 64 * l.place;
  value : l.count + vni_count (drop l.place l.edges) ≡ vni_count l.edges;
}
