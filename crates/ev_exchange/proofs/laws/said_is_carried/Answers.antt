use Rattle.ev_exchange.proofs.Arriving.{said_is_carried}
use Rattle.ev_exchange.proofs.laws.said_is_carried.Goals as goal

pub returns : goal.returns
returns c = said_is_carried
