use Rattle.ev_mailboxes.proofs.Delivering.{gets}
use Rattle.ev_mailboxes.proofs.channel.next.Goals as goal

pub recv_as-requires-clause-rule : goal.recv_as-requires-clause-rule
recv_as-requires-clause-rule g c = (gets _ _ c.requires.receiver, λ items views d at. tt)
