use Rattle.rstp_run.specs.declared.rule.Rule.TheVariants.{Select}
use Rattle.rstp_run.proofs.Steps.{tries_all-more}
use Rattle.rstp_run.proofs.Steps.{sweeps-as, sweeps-both, are_off-more}
use Rattle.rstp_run.proofs.engine.Engine.try_port.Goals as goal

pub loop-rule-preserved : goal.loop-rule-preserved
loop-rule-preserved c =
    sweeps-as (λ limit g. tries_all-more c.args.rules.now c.loop-rule.rule-index Select c.args.p limit g
    c.loop-rule-test.true)
    (sweeps-both c.loop-rule.invariant c.try_fire.ensures
    (are_off-more c.args.rules.now c.args.self.now c.args.p c.loop-rule.rule-index Select c.loop-rule-test.true))
