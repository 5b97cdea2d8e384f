use Rattle.ev_exchange.proofs.Arriving.{both_agree}
use Rattle.ev_exchange.proofs.laws.both_agree.Goals as goal

pub returns : goal.returns
returns c = both_agree
