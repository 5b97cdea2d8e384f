use Rattle.ev_edge.proofs.Storming.{storms_count_none}
use Rattle.ev_edge.proofs.laws.storms_count_none.Goals as goal

pub returns : goal.returns
returns c = λ e port vni destination h. storms_count_none e port vni destination h
