use Rattle.ev_edge.proofs.Alike.{marks_only}
use Rattle.ev_edge.proofs.laws.marks_only_away.Goals as goal

pub returns : goal.returns
returns c = λ e e' event result is steps. marks_only e e' event result is steps
