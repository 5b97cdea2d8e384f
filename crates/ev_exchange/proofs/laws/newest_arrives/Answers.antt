use Rattle.ev_exchange.proofs.Arriving.{newest_arrives}
use Rattle.ev_exchange.proofs.laws.newest_arrives.Goals as goal

pub returns : goal.returns
returns c = newest_arrives
