use Rattle.rstp_run.specs.Runs.{AreOffBelow}
use Rattle.rstp_run.proofs.engine.Engine.has_enabled.Given as goal

abbrev pub invariant-loop-p : goal.invariant-loop-p
invariant-loop-p l = AreOffBelow l.rules l.p l.self
