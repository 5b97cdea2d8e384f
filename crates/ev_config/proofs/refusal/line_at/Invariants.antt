use Rattle.std.proofs.Common.{◌≡◌, ◌+◌, ◌==◌, ◌≤◌, take}
use Rattle.std.specs.List.{count_by}
use Rattle.ev_config.proofs.refusal.line_at.Given as goal

abbrev pub invariant-loop-octet : goal.invariant-loop-octet
invariant-loop-octet l = record {
  few : l.number ≤ 1 + l.octet-index;
  value : l.number ≡ 1 + count_by (λ octet. octet == 10) (take l.octet-index l.before);
}
