use Rattle.std.proofs.Common.{◌≡◌, ◌≤◌, length, take}
use Rattle.ev_edge.specs.Limits.{quotas_of}
use Rattle.ev_edge.proofs.limits.quotas_of.Given as goal

abbrev pub invariant-loop-port : goal.invariant-loop-port
invariant-loop-port l = record {
  so_far : l.quotas.items ≡ quotas_of (take l.port-index l.ports);
  count : length l.quotas.items ≡ l.port-index;
  most : length l.ports ≤ 64;
}
