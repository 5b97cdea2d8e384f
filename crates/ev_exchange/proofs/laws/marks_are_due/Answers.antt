use Rattle.ev_exchange.proofs.Marking.{marks_are_due}
use Rattle.ev_exchange.proofs.laws.marks_are_due.Goals as goal

pub returns : goal.returns
returns c = marks_are_due
