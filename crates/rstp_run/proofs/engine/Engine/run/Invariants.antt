use Rattle.std.proofs.Common.{◌≡◌, ℕ, ◌+◌, ◌-◌, ◌≤◌, length}
use Rattle.rstp_run.specs.Inner.Runs.{Goes, swept_on}
use Rattle.rstp_run.specs.Sweep.{round}
use Rattle.rstp_run.proofs.Steps.{again}
use Rattle.rstp_run.proofs.engine.Engine.run.Given as goal

-- at most n rounds remain
abbrev pub invariant-rounds : goal.invariant-rounds
invariant-rounds l =
    (n : ℕ) × (l.count.limit ≤ n + l.count.fired)
    × Goes swept_on (again n round) l.fn.self l.fn.count l.self l.count
    × (length l.self.ports ≡ length l.fn.self.ports)

abbrev pub decreases-rounds : goal.decreases-rounds
decreases-rounds l = l.count.limit - l.count.fired
