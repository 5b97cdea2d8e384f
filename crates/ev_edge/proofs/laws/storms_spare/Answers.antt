use Rattle.ev_edge.proofs.Storming.{storms_spare}
use Rattle.ev_edge.proofs.laws.storms_spare.Goals as goal

pub returns : goal.returns
returns c = λ e port octets h. storms_spare e port octets h
