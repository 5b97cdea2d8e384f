-- The letters of an edge's mailbox, as its worker of updates takes them.
use Rattle.std.specs.Prelude.{List, map, Option, Some, None}
use Rattle.ev_mailboxes.specs.declared.ends.Inbox.{Inbox}
use Rattle.ev_mailboxes.specs.Ends.{received_by}
use Rattle.ev_mailboxes.specs.declared.edge_message.EdgeMessage.{EdgeMessage}
use Rattle.ev_mailboxes.specs.declared.edge_message.Letter.{Letter}
use Rattle.ev_mailboxes.specs.declared.edge_message.Letter.TheVariants.{Of, Stop}

-- the message of a letter; a stop is the end
abbrev pub coming : {U : Type 0} → Letter U → Option (EdgeMessage U)
coming (Of message) = Some message
coming Stop = None

-- the messages that came to a worker: that of each letter which its inbox received, and `None` for the end
abbrev pub came_of : {U : Type 0} → Inbox (Letter U) → List (Option (EdgeMessage U))
came_of inbox = map coming (received_by inbox)
