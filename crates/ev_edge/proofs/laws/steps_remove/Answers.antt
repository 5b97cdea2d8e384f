use Rattle.ev_edge.proofs.Removing.{removed}
use Rattle.ev_edge.proofs.laws.steps_remove.Goals as goal

pub returns : goal.returns
returns c = λ e event result after good steps. removed e event result after good steps
