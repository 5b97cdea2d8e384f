use Rattle.std.proofs.Common.{◌∙◌, inl, inr, refl, arith}
use Rattle.rstp_run.specs.Inner.Runs.{rules_of}
use Rattle.rstp_run.proofs.Steps.{goes-none}
use Rattle.rstp_run.proofs.Steps.{passes-end, passes-on}
use Rattle.rstp_run.proofs.engine.Engine.settle.Goals as goal
use Rattle.rstp_run.proofs.engine.Engine.settle.Goals.{then-count-before-via-then-count-before}
use Rattle.rstp_run.proofs.engine.Engine.settle.Goals.{then-count-before-via-else-count-before+then-count}

pub passes-init : goal.passes-init
passes-init c =
    (c.args.count.now.limit, omega arith, goes-none c.requires (λ before is. refl), refl)

pub returns-then-count-before-clause-goes : goal.returns-then-count-before-clause-goes
returns-then-count-before-clause-goes c =
    let (n, enough, goes, ports) = c.passes.invariant in
    passes-end (rules_of c.args.part) c.pass.ensures n goes enough
    (elim c.then-count-before.branch [
      | then-count-before-via-then-count-before w ↦ (inl w.if-count-before.true)
      | then-count-before-via-else-count-before+then-count w ↦ (inr w.if-count.true)
    ])

pub passes-preserved : goal.passes-preserved
passes-preserved c =
    let (n, enough, goes, ports) = c.passes.invariant in
    let (m, next, more) = passes-on (rules_of c.args.part) c.pass.ensures n goes enough
    c.if-count-before.false c.if-count.false in
    (m, next, more, c.pass.ensures.ports ∙ ports)
