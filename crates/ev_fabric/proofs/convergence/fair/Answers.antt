use Rattle.ev_fabric.proofs.ConvergingRounds.{fair_agrees}
use Rattle.ev_fabric.proofs.convergence.fair.Goals as goal

pub returns : goal.returns
returns c = λ old steps new sound given quiet. fair_agrees steps new sound given quiet
