use Rattle.std.proofs.Common.{take}
use Rattle.rstp_run.specs.Runs.{AreOffAt}
use Rattle.rstp_run.specs.Inner.Runs.{Sweeps}
use Rattle.rstp_run.specs.Sweep.{tries_all}
use Rattle.rstp_run.proofs.engine.Engine.try_port.Given as goal

abbrev pub invariant-loop-rule : goal.invariant-loop-rule
invariant-loop-rule l =
    Sweeps (tries_all (take l.rule-index l.rules) l.p) (AreOffAt (take l.rule-index l.rules) l.p)
    l.fn.self l.fn.count l.self l.count
