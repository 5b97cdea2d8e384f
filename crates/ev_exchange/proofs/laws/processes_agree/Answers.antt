use Rattle.ev_exchange.proofs.Meeting.{processes_agree}
use Rattle.ev_exchange.proofs.laws.processes_agree.Goals as goal

pub returns : goal.returns
returns c = processes_agree
