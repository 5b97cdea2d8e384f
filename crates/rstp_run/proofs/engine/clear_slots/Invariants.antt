use Rattle.std.proofs.Common.{◌≡◌, ◌++◌, take, drop, map}
use Rattle.rstp_state.specs.Direct.{without_slot}
use Rattle.rstp_run.proofs.engine.clear_slots.Given as goal

abbrev pub invariant-loop-port : goal.invariant-loop-port
invariant-loop-port l = l.ports ≡ map without_slot (take l.port-index l.fn.ports) ++ drop l.port-index l.fn.ports
