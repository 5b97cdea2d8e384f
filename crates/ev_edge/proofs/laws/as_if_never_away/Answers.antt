use Rattle.ev_edge.proofs.Alike.{never_away}
use Rattle.ev_edge.proofs.laws.as_if_never_away.Goals as goal

pub returns : goal.returns
returns c = λ run e e' runs none none'. never_away run e e' runs none none'
