use Rattle.std.proofs.Common.{◌≡◌, ◌*◌, ◌≤◌, take}
use Rattle.ev_config.specs.Summary.{port_count}
use Rattle.ev_config.proofs.summary.count_ports.Given as goal

abbrev pub invariant-loop-edge : goal.invariant-loop-edge
invariant-loop-edge l = record {
  few : l.count ≤ 64 * l.edge-index;
  value : l.count ≡ port_count (take l.edge-index l.edges);
}
