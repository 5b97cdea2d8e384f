use Rattle.std.proofs.Common.{◌≡◌, ◌≤◌, length, take}
use Rattle.ev_edge.specs.Config.{vnis_of}
use Rattle.ev_edge.proofs.config.vnis_of.Given as goal

abbrev pub invariant-loop-port : goal.invariant-loop-port
invariant-loop-port l = record {
  so_far : l.vnis.items ≡ vnis_of (take l.port-index l.ports);
  count : length l.vnis.items ≡ l.port-index;
  most : length l.ports ≤ 64;
}
