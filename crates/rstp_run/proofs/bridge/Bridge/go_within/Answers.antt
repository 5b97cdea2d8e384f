use Rattle.std.proofs.Common.{arith}
use Rattle.rstp_run.proofs.Kept.{happens_numbered}
use Rattle.rstp_run.proofs.Orderly.{orderly-direct, orderly-run}
use Rattle.rstp_run.proofs.Whole.{both-ways}
use Rattle.rstp_run.proofs.Within.{flush-within, sent-at_ports}
use Rattle.rstp_run.proofs.bridge.Bridge.go_within.Goals as goal

pub invariant_of-self : goal.invariant_of-self
invariant_of-self c =
    let given = c.event_within-effect.ensures in
    let same = given.ports in
    let some = c.self.invariant.3 in (
      both-ways given.yes given.no,
      orderly-run given.happens.firings _ _ given.happens.run
          (orderly-direct _ c.self.inside.engine c.self.invariant.1),
      happens_numbered given.happens c.self.invariant.2,
      omega arith,
    )

pub returns-clause-flushed_at : goal.returns-clause-flushed_at
returns-clause-flushed_at c = λ p bit. flush-within c.event_within-effect.ensures.happens p bit

pub returns-clause-sent_at : goal.returns-clause-sent_at
returns-clause-sent_at c =
    rw c.event_within-effect.ensures.out (sent-at_ports c.event_within-effect.new.self.ports)
