use Rattle.ev_mailboxes.proofs.Delivering.{begins}
use Rattle.ev_mailboxes.proofs.channel.channel.Goals as goal

pub bounded_with-requires-clause-rule : goal.bounded_with-requires-clause-rule
bounded_with-requires-clause-rule g c = begins
