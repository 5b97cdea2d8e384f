use Rattle.ev_edge.proofs.Memory.{tells_none}
use Rattle.ev_edge.proofs.laws.takes_no_memory.Goals as goal

pub returns : goal.returns
returns c = λ e e' event result none steps. tells_none e event result e' none steps
