use Rattle.std.proofs.Common.{◌≡◌, ◌++◌, take, drop, map}
use Rattle.rstp_roles.specs.AllPorts.{with_re_root}
use Rattle.rstp_roles.proofs.all_ports.set_re_root.Given as goal

abbrev pub invariant-loop-port : goal.invariant-loop-port
invariant-loop-port l = l.ports ≡ map with_re_root (take l.port-index l.fn.ports) ++ drop l.port-index l.fn.ports
