use Rattle.rstp_run.proofs.Orderly.{passing-in_tree, passing-learns}
use Rattle.rstp_run.proofs.bridge.Bridge.passes.Goals as goal

pub returns-clause-learns : goal.returns-clause-learns
returns-clause-learns c = λ yes.
    rw c.self.view_is at (passing-learns _ _ c.self.invariant.1 (c.is_passing.ensures.0 yes))

pub returns-clause-in_tree : goal.returns-clause-in_tree
returns-clause-in_tree c = λ yes.
    rw c.self.view_is at (passing-in_tree _ _ c.self.invariant.1 (c.is_passing.ensures.0 yes))
