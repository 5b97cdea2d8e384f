-- The messages and letters of running edges, as contracts see them: their updates are plain.
use Rattle.route_wire.specs.Fields.{Fields}
use Rattle.ev_mailboxes.specs.declared.edge_message.EdgeMessage as messages
use Rattle.ev_mailboxes.specs.declared.edge_message.Letter as letters

abbrev pub EdgeMessage : Type 0
EdgeMessage = messages.EdgeMessage Fields

abbrev pub Letter : Type 0
Letter = letters.Letter Fields
