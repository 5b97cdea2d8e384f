use Rattle.std.proofs.Common.{◌≡◌, ℕ, ◌+◌, ◌-◌, ◌≤◌, length}
use Rattle.rstp_run.specs.Inner.Runs.{Goes, rules_of}
use Rattle.rstp_run.specs.Sweep.{pass, passes}
use Rattle.rstp_run.proofs.Steps.{again}
use Rattle.rstp_run.proofs.engine.Engine.settle.Given as goal

-- at most n passes remain
abbrev pub invariant-passes : goal.invariant-passes
invariant-passes l =
    (n : ℕ) × (l.count.limit ≤ n + l.count.fired)
    × Goes (passes (rules_of l.part)) (again n (pass (rules_of l.part))) l.fn.self l.fn.count l.self l.count
    × (length l.self.ports ≡ length l.fn.self.ports)

abbrev pub decreases-passes : goal.decreases-passes
decreases-passes l = l.count.limit - l.count.fired
