use Rattle.ev_edge.proofs.Remaining.{steps_good}
use Rattle.ev_edge.proofs.laws.stays_good.Goals as goal

pub returns : goal.returns
returns c = λ e e' event result good steps. steps_good e event result e' good steps
