use Rattle.std.proofs.Common.{below_more}
use Rattle.rstp_run.specs.Inner.Runs.{rules_of}
use Rattle.rstp_run.proofs.Steps.{tries_below-more}
use Rattle.rstp_run.proofs.Steps.{sweeps-as, sweeps-both}
use Rattle.rstp_run.proofs.engine.Engine.pass.Goals as goal

pub loop-p-preserved : goal.loop-p-preserved
loop-p-preserved c =
    sweeps-as (λ limit g. tries_below-more (rules_of c.args.part) c.loop-p.p limit g)
    (sweeps-both c.loop-p.invariant c.try_part.ensures
    (λ before here. below_more _ _ before here))
