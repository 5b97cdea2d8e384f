use Rattle.ev_edge.proofs.Alike.{depends_not}
use Rattle.ev_edge.proofs.laws.depends_not_on_away.Goals as goal

pub returns : goal.returns
returns c = λ e e' event result quiet steps. depends_not e e' event result quiet steps
