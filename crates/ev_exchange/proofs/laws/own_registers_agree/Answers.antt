use Rattle.ev_exchange.proofs.Arriving.{own_registers_agree}
use Rattle.ev_exchange.proofs.laws.own_registers_agree.Goals as goal

pub returns : goal.returns
returns c = own_registers_agree
