use Rattle.ev_exchange.proofs.Meeting.{earlier_lives_end}
use Rattle.ev_exchange.proofs.laws.earlier_lives_end.Goals as goal

pub returns : goal.returns
returns c = earlier_lives_end
