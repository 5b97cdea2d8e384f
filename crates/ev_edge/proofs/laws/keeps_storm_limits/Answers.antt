use Rattle.ev_edge.proofs.Storming.{keeps_storm_limits}
use Rattle.ev_edge.proofs.laws.keeps_storm_limits.Goals as goal

pub returns : goal.returns
returns c = λ e e' event result port h. keeps_storm_limits e e' event result port h
