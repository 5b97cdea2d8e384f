use Rattle.ev_edge.proofs.Limiting.{keeps_limits}
use Rattle.ev_edge.proofs.laws.keeps_limits.Goals as goal

pub returns : goal.returns
returns c = λ e e' event result port h. keeps_limits e e' event result port h
