use Rattle.ev_edge.proofs.Limiting.{keeps_to_stations}
use Rattle.ev_edge.proofs.laws.keeps_to_stations.Goals as goal

pub returns : goal.returns
returns c = λ e e' event result port good some pin h. keeps_to_stations e e' event result port good some pin h
