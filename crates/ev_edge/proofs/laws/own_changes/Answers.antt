use Rattle.ev_edge.proofs.Changing.{steps_change}
use Rattle.ev_edge.proofs.laws.own_changes.Goals as goal

pub returns : goal.returns
returns c = λ e e' event result good steps. steps_change e event result e' good steps
