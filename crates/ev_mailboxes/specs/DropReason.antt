-- The cause for which a datagram is dropped, by the refusal of its event.
use Rattle.std.specs.Prelude.{Option, Some, None}
use Rattle.ether_wire.specs.declared.frame.FrameRefusal.TheVariants.{Long}
use Rattle.ev_book.specs.declared.refusal.BookRefusal.{BookRefusal}
use Rattle.ev_book.specs.declared.refusal.BookRefusal.TheVariants as book
use Rattle.ev_edge.specs.declared.refusal.Refusal.TheVariants as refused
use Rattle.ev_edge.specs.declared.refusal.EdgeRefusal.TheVariants as edge
use Rattle.ev_mailboxes.specs.declared.drop_reason.DropReason.{DropReason}
use Rattle.ev_mailboxes.specs.declared.drop_reason.DropReason.TheVariants.{TooLong, Malformed, Unlisted, OtherNetwork}
use Rattle.ev_mailboxes.specs.declared.drop_reason.DropReason.TheVariants.{Storm}
use Rattle.ev_mailboxes.specs.declared.drop_reason.DropReason.TheVariants.{NoMemory}

abbrev pub cause_of : BookRefusal → Option DropReason
cause_of (book.Edge (refused.Ether Long)) = Some TooLong
cause_of (book.Edge (refused.Ether _)) = Some Malformed
cause_of (book.Edge (refused.Bpdu _)) = Some Malformed
cause_of (book.Edge (refused.Vxlan _)) = Some Malformed
cause_of (book.Edge (refused.Edge edge.UnknownOriginator)) = Some Unlisted
cause_of (book.Edge (refused.Edge edge.NoSuchVni)) = Some OtherNetwork
cause_of (book.Edge (refused.Edge (edge.PortStorm port))) = Some Storm
cause_of (book.Edge (refused.Edge edge.NoMemory)) = Some NoMemory
cause_of book.NoRoom = Some NoMemory
cause_of _ = None
