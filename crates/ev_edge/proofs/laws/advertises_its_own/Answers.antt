use Rattle.ev_edge.proofs.Advertised.{advertises_own}
use Rattle.ev_edge.proofs.laws.advertises_its_own.Goals as goal

pub returns : goal.returns
returns c = λ e good. advertises_own e good
