use Rattle.rstp_run.proofs.Kept.{start_kept}
use Rattle.rstp_run.proofs.Orderly.{orderly-ports_from}
use Rattle.rstp_run.proofs.Whole.{both-ways}
use Rattle.rstp_run.proofs.Kept.{settled-start}
use Rattle.rstp_run.proofs.Within.{length-start}
use Rattle.rstp_run.proofs.bridge.Bridge.new.Goals as goal

pub invariant_of-result : goal.invariant_of-result
invariant_of-result c = (
  both-ways c.is_settled-settled.ensures.yes c.is_settled-settled.ensures.no,
  rw c.new-engine.ensures (orderly-ports_from 1 _ _),
  rw c.new-engine.ensures (start_kept _ _).numbered,
  rw c.new-engine.ensures (length-start _ _ c.requires.some),
)

pub returns-clause-settled : goal.returns-clause-settled
returns-clause-settled c = λ runs. rw c.new-engine.ensures (settled-start _ _ runs)
