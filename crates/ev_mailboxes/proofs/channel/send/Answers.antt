use Rattle.ev_mailboxes.proofs.Delivering.{puts}
use Rattle.ev_mailboxes.proofs.channel.send.Goals as goal

pub try_send_as-requires-clause-rule : goal.try_send_as-requires-clause-rule
try_send_as-requires-clause-rule g c = (puts _ _ _ _ c.requires.sender, λ items views d at. tt)
