use Rattle.std.proofs.Common.{◌≡◌, ◌≤◌, ◌+◌, ◌++◌, length, drop}
use Rattle.rstp_run.specs.Events.{sent_from}
use Rattle.rstp_run.proofs.engine.list_sent.Given as goal

abbrev pub invariant-loop-i : goal.invariant-loop-i
invariant-loop-i l =
    (l.out.items ++ sent_from (l.i + 1) (drop l.i l.ports) ≡ sent_from 1 l.ports) × (length l.out.items ≤ l.i)
