use Rattle.ev_exchange.proofs.Arriving.{meeting_agrees}
use Rattle.ev_exchange.proofs.laws.meeting_agrees.Goals as goal

pub returns : goal.returns
returns c = meeting_agrees
