use Rattle.ev_mailboxes.proofs.Delivering.{are_sent}
use Rattle.ev_mailboxes.proofs.laws.received_and_waiting_are_sent.Goals as goal

pub returns : goal.returns
returns g c = are_sent
