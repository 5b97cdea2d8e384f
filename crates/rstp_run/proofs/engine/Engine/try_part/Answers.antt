use Rattle.std.proofs.Common.{sym, ◌∙◌}
use Rattle.rstp_run.specs.Inner.Runs.{rules_of}
use Rattle.rstp_run.proofs.Idle.{busy-off}
use Rattle.rstp_run.proofs.Steps.{tries_all-off}
use Rattle.rstp_run.proofs.Steps.{sweeps-none}
use Rattle.rstp_run.proofs.engine.Engine.try_part.Goals as goal

pub returns-then-not-is_busy : goal.returns-then-not-is_busy
returns-then-not-is_busy c =
    let off = busy-off c.args.self.now c.args.p c.args.part (sym c.is_busy.ensures ∙ c.if-not-is_busy.true) in
    sweeps-none c.requires.within off
    (λ before is. tries_all-off (rules_of c.args.part) c.args.p _
    (record { tree = c.args.self.now; firings = before }) off)

pub returns-in-Main : goal.returns-in-Main
returns-in-Main c = rw c.in-Main.is c.try_port.ensures
