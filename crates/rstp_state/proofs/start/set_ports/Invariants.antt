use Rattle.std.proofs.Common.{◌≡◌, ◌+◌, ◌++◌, take, drop}
use Rattle.rstp_state.specs.Start.{ports_from}
use Rattle.rstp_state.proofs.start.set_ports.Given as goal

abbrev pub invariant-loop-i : goal.invariant-loop-i
invariant-loop-i l =
    take l.i l.started ++ ports_from (l.i + 1) l.settings (drop l.i l.ports) ≡ ports_from 1 l.settings l.ports
