use Rattle.rstp_run.specs.Runs.{AreOffBelow}
use Rattle.rstp_run.specs.Inner.Runs.{Sweeps, rules_of}
use Rattle.rstp_run.specs.Sweep.{tries_below}
use Rattle.rstp_run.proofs.engine.Engine.pass.Given as goal

abbrev pub invariant-loop-p : goal.invariant-loop-p
invariant-loop-p l =
    Sweeps (tries_below (rules_of l.part) l.p) (AreOffBelow (rules_of l.part) l.p) l.fn.self l.fn.count l.self l.count
