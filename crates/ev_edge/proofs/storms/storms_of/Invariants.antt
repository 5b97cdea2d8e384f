use Rattle.std.proofs.Common.{◌≡◌, ◌≤◌, length, take}
use Rattle.ev_edge.specs.Storms.{storms_of}
use Rattle.ev_edge.proofs.storms.storms_of.Given as goal

abbrev pub invariant-loop-port : goal.invariant-loop-port
invariant-loop-port l = record {
  so_far : l.storms.items ≡ storms_of (take l.port-index l.ports);
  count : length l.storms.items ≡ l.port-index;
  most : length l.ports ≤ 64;
}
