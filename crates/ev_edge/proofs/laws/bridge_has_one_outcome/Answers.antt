use Rattle.ev_edge.proofs.Single.{one_outcome}
use Rattle.ev_edge.proofs.laws.bridge_has_one_outcome.Goals as goal

pub returns : goal.returns
returns c = λ e a b event x y is h k. one_outcome c.one_outcome.ensures e a b event x y is h k
