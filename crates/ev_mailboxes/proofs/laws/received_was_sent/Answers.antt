use Rattle.ev_mailboxes.proofs.Delivering.{was_sent}
use Rattle.ev_mailboxes.proofs.laws.received_was_sent.Goals as goal

pub returns : goal.returns
returns g c = was_sent
