use Rattle.ev_edge.proofs.Giving.{gives_none}
use Rattle.ev_edge.proofs.laws.gives_none_away.Goals as goal

pub returns : goal.returns
returns c = λ e e' event result steps. gives_none e e' event result steps
