use Rattle.ev_exchange.proofs.Overdue.{overdue_after_hold}
use Rattle.ev_exchange.proofs.laws.overdue_after_hold.Goals as goal

pub returns : goal.returns
returns c = overdue_after_hold
