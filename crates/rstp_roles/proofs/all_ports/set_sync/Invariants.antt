use Rattle.std.proofs.Common.{◌≡◌, ◌++◌, take, drop, map}
use Rattle.rstp_roles.specs.AllPorts.{with_sync}
use Rattle.rstp_roles.proofs.all_ports.set_sync.Given as goal

abbrev pub invariant-loop-port : goal.invariant-loop-port
invariant-loop-port l = l.ports ≡ map with_sync (take l.port-index l.fn.ports) ++ drop l.port-index l.fn.ports
