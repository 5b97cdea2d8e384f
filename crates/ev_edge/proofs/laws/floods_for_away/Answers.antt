use Rattle.ev_edge.proofs.Giving.{floods}
use Rattle.ev_edge.proofs.laws.floods_for_away.Goals as goal

pub returns : goal.returns
returns c = λ e vni destination o from d owned gone is. floods e vni destination o from d owned gone is
