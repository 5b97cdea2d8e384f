use Rattle.ev_mailboxes.proofs.Delivering.{makes}
use Rattle.ev_mailboxes.proofs.channel.make_sender.Goals as goal

pub another-requires-clause-rule : goal.another-requires-clause-rule
another-requires-clause-rule g c = makes _ _ c.requires.receiver
