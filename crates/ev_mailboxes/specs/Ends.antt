-- The messages that the ends of a mailbox have sent and received.
use Rattle.std.specs.Prelude.{List, []}
use Rattle.crossbeam_channel.specs.Claims.{view}
use Rattle.ev_mailboxes.specs.declared.view.View.{View}
use Rattle.ev_mailboxes.specs.declared.view.View.TheVariants.{Sender, Receiver}
use Rattle.ev_mailboxes.specs.declared.ends.Post.{Post}
use Rattle.ev_mailboxes.specs.declared.ends.Inbox.{Inbox}
use Rattle.ev_mailboxes.specs.Delivery.{messages}

module _ {T : Type 0} where
  -- all messages that a post sent, in their order
  abbrev pub all_put : View T → List T
  all_put (Sender p put) = put
  all_put (Receiver got made) = []

  -- all messages that an inbox received, in their order
  abbrev pub all_got : View T → List T
  all_got (Sender p put) = []
  all_got (Receiver got made) = messages got

  abbrev pub sent_by : Post T → List T
  sent_by post = all_put (view post.slip)

  abbrev pub received_by : Inbox T → List T
  received_by inbox = all_got (view inbox.slip)
