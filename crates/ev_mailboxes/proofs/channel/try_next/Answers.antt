use Rattle.ev_mailboxes.proofs.Delivering.{gets}
use Rattle.ev_mailboxes.proofs.channel.try_next.Goals as goal

pub try_recv_as-requires-clause-rule : goal.try_recv_as-requires-clause-rule
try_recv_as-requires-clause-rule g c = (gets _ _ c.requires.receiver, λ items views d at. tt)
