use Rattle.std.proofs.Common.{◌≡◌, ◌++◌, take, drop, map}
use Rattle.rstp_state.specs.Direct.{with_second}
use Rattle.rstp_run.proofs.engine.pass_seconds.Given as goal

abbrev pub invariant-loop-port : goal.invariant-loop-port
invariant-loop-port l = l.ports ≡ map with_second (take l.port-index l.fn.ports) ++ drop l.port-index l.fn.ports
