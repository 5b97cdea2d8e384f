use Rattle.std.proofs.Common.{sym, ◌∙◌}
use Rattle.rstp_run.proofs.Steps.{fires-one}
use Rattle.rstp_run.proofs.engine.Engine.try_fire.Goals as goal

pub returns-then-is_enabled : goal.returns-then-is_enabled
returns-then-is_enabled c =
    rw c.add.ensures
    (fires-one _ _ (sym c.is_enabled.ensures ∙ c.if-is_enabled.true) c.fire.ensures c.if-count.true)
