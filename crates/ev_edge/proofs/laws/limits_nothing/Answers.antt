use Rattle.ev_edge.proofs.Limiting.{limits_nothing}
use Rattle.ev_edge.proofs.laws.limits_nothing.Goals as goal

pub returns : goal.returns
returns c = λ e s port h. limits_nothing e s port h
