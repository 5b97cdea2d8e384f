use Rattle.std.proofs.Common.{◌∙◌, ◌<◌, arith, inl, inr, refl}
use Rattle.rstp_run.proofs.Steps.{goes-none}
use Rattle.rstp_run.proofs.Steps.{rounds-end, rounds-on}
use Rattle.rstp_run.proofs.Whole.{settled-off}
use Rattle.rstp_run.proofs.engine.Engine.run.Goals as goal

pub rounds-init : goal.rounds-init
rounds-init c =
    (c.args.count.now.limit, omega arith, goes-none c.requires (λ before is. refl), refl)

pub returns-then-count-clause-goes : goal.returns-then-count-clause-goes
returns-then-count-clause-goes c =
    let (n, enough, goes, ports) = c.rounds.invariant in
    rounds-end c.settle.ensures.goes c.settle-in-rounds.ensures.goes n goes enough (inl c.if-count.true)

pub returns-then-count-before-clause-goes : goal.returns-then-count-before-clause-goes
returns-then-count-before-clause-goes c =
    let (n, enough, goes, ports) = c.rounds.invariant in
    let same = c.settle-in-rounds.ensures.idle c.if-count-before.true in
    let room : c.settle-in-rounds.new.count.fired < c.settle-in-rounds.new.count.limit = omega arith in
    rounds-end c.settle.ensures.goes c.settle-in-rounds.ensures.goes n goes enough (inr (
      rw same (c.settle.ensures.off (omega (arith, c.settle-in-rounds.ensures.goes.limit))),
      c.settle-in-rounds.ensures.off room,
    ))

pub returns-then-count-before-clause-yes : goal.returns-then-count-before-clause-yes
returns-then-count-before-clause-yes c = λ yes.
    let same = c.settle-in-rounds.ensures.idle c.if-count-before.true in
    let room : c.settle-in-rounds.new.count.fired < c.settle-in-rounds.new.count.limit = omega arith in
    settled-off _ (rw same (c.settle.ensures.off (omega (arith, c.settle-in-rounds.ensures.goes.limit))))
    (c.settle-in-rounds.ensures.off room)

pub rounds-preserved : goal.rounds-preserved
rounds-preserved c =
    let (n, enough, goes, ports) = c.rounds.invariant in
    let (m, next, more) = rounds-on c.settle.ensures.goes c.settle-in-rounds.ensures.goes n goes
    enough c.if-count-before.false c.if-count.false in
    (m, next, more, c.settle-in-rounds.ensures.ports ∙ c.settle.ensures.ports ∙ ports)
