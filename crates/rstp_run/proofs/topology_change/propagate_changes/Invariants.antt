use Rattle.std.proofs.Common.{◌≡◌, ◌++◌, take, drop, map}
use Rattle.rstp_run.specs.TopologyChange.{with_propagation}
use Rattle.rstp_run.proofs.topology_change.propagate_changes.Given as goal

abbrev pub invariant-loop-port : goal.invariant-loop-port
invariant-loop-port l = l.ports ≡ map with_propagation (take l.port-index l.fn.ports) ++ drop l.port-index l.fn.ports
