use Rattle.ev_exchange.proofs.Arriving.{own_updates_are}
use Rattle.ev_exchange.proofs.laws.own_updates_are.Goals as goal

pub returns : goal.returns
returns c = own_updates_are
