use Rattle.ev_edge.proofs.Alike.{back_is}
use Rattle.ev_edge.proofs.laws.comes_back.Goals as goal

pub returns : goal.returns
returns c = λ e mid e' a first second good up one two. back_is e mid e' a first second good up one two
