-- The laws of the letters between the workers of running edges.
use Rattle.std.specs.Prelude.{◌≡◌, ◌⊎◌, ◌==◌, ℕ, if◌then◌else◌, List, [], ◌++◌, map, reverse, Contains, Option}
use mathlib.Core.Option.{some}
use lib.ListN.{get_elem?}
use Rattle.route_wire.specs.Fields.{Fields}
use Rattle.ev_book.specs.Book.{PassState}
use Rattle.ev_mailboxes.specs.declared.view.View.{View}
use Rattle.ev_mailboxes.specs.declared.view.View.TheVariants.{Sender, Receiver}
use Rattle.ev_mailboxes.specs.Delivery.{messages, Delivers}
use Rattle.ev_mailboxes.specs.Mail.{EdgeMessage, Letter}
use Rattle.ev_mailboxes.specs.declared.edge_message.EdgeMessage.TheVariants.{Record}
use Rattle.ev_mailboxes.specs.declared.edge_message.Letter.TheVariants.{Of}
use Rattle.ev_mailboxes.specs.Letter.{coming}
use Rattle.ev_peers.specs.declared.shared_edge.Ended.TheVariants.{End}
use Rattle.ev_peers.specs.Passing.{Said, Announces}
use Rattle.ev_peers.specs.Working.{Standing, PeerEnds}

-- ---- sending

-- the letters that carry these updates
abbrev pub letters_of : List Fields → List Letter
letters_of us = map (λ u. Of (Record u)) us

-- these updates for an edge, after the letters before, unless the edge is the sender's own
abbrev pub one_with_all : ℕ → List Fields → ℕ × List Letter → ℕ × List Letter
one_with_all own us e = if e.0 == own then e else (e.0, e.1 ++ letters_of us)

-- the announcements of a worker's edge are sent to each of the other edges, in their order, each once, and none to its
-- own edge
abbrev pub AnnouncedIsSent : Type 0
AnnouncedIsSent =
    (p p' : PassState) (old new : Said) (a : Announces p old p' new)
    → new.sent ≡ map (one_with_all old.own (reverse a.got)) old.sent

-- ---- taking

-- one of the posts of a mailbox has sent this message
abbrev pub WasSent : List (View Letter) → EdgeMessage → Type 0
WasSent views m =
    (post p : ℕ) × (put : List Letter) × (get_elem? views post ≡ some (Sender p put)) × Contains put (Of m)

-- A mailbox at a moment, after its edge's worker of updates has ended. The rule of the mailbox's channel holds of the
-- letters that wait and of what all passes know. The inbox has received the letters whose messages came to the worker.
pub record HasReceived (came : List (Option EdgeMessage)) (waiting : List Letter) (views : List (View Letter)) :
    Type 0 where
  pub rule : Delivers waiting views
  pub inbox : ℕ
  pub got : List (ℕ × Letter)
  pub made : ℕ
  pub is_inbox : get_elem? views inbox ≡ some (Receiver got made)
  pub came_is : came ≡ map coming (messages got)

-- each message that the worker handled was sent by a post of the mailbox
abbrev pub EachTakenWasSent : Type 0
EachTakenWasSent =
    (bridge : ℕ) (s s' : Standing) (came : List (Option EdgeMessage)) (ends : PeerEnds End bridge [] s came s')
    (waiting : List Letter) (views : List (View Letter)) → HasReceived came waiting views
    → (m : EdgeMessage) → Contains ends.all.things m → WasSent views m

-- each message that a post has sent was handled by the worker, or waits after the end
abbrev pub EachSentIsTaken : Type 0
EachSentIsTaken =
    (bridge : ℕ) (s s' : Standing) (came : List (Option EdgeMessage)) (ends : PeerEnds End bridge [] s came s')
    (waiting : List Letter) (views : List (View Letter)) → HasReceived came waiting views
    → (m : EdgeMessage) → WasSent views m → Contains ends.all.things m ⊎ Contains waiting (Of m)
