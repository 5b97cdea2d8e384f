use Rattle.ev_exchange.proofs.Joining.{joined_agrees}
use Rattle.ev_exchange.proofs.laws.joined_agrees.Goals as goal

pub returns : goal.returns
returns c = joined_agrees
