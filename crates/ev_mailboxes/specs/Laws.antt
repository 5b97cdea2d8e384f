-- The laws of a mailbox, at any moment: the rule holds of the waiting messages `items` and of what all passes know.
use Rattle.std.specs.Prelude.{◌≡◌, ℕ, List, ◌++◌, Contains}
use mathlib.Core.Option.{some}
use lib.ListN.{get_elem?}
use Rattle.ev_mailboxes.specs.declared.view.View.{View}
use Rattle.ev_mailboxes.specs.declared.view.View.TheVariants.{Sender, Receiver}
use Rattle.ev_mailboxes.specs.Delivery.{of, messages, Delivers}

-- of each post, the received messages, followed by the waiting ones, are the sent ones, in their order, each once
abbrev pub ReceivedAndWaitingAreSent : Type 0 → Type 0
ReceivedAndWaitingAreSent T =
    (items : List T) (views : List (View T)) (inbox post : ℕ) (got : List (ℕ × T)) (made p : ℕ) (put : List T)
    → Delivers items views → get_elem? views inbox ≡ some (Receiver got made)
    → get_elem? views post ≡ some (Sender p put)
    → (waiting : List (ℕ × T)) × (messages waiting ≡ items) × (of p (got ++ waiting) ≡ put)

-- each received message was sent by a post
abbrev pub ReceivedWasSent : Type 0 → Type 0
ReceivedWasSent T =
    (items : List T) (views : List (View T)) (inbox : ℕ) (got : List (ℕ × T)) (made : ℕ) (x : T)
    → Delivers items views → get_elem? views inbox ≡ some (Receiver got made) → Contains (messages got) x
    → (post p : ℕ) × (put : List T) × (get_elem? views post ≡ some (Sender p put)) × Contains put x
