-- The edge of a book, call by call.
use Rattle.std.specs.Prelude.{◌≡◌, ℕ, Bool, true, false, List, Result, Ok, Err}
use Rattle.ev_edge.specs.declared.event.Event.{Event}
use Rattle.ev_edge.specs.declared.reply.Reply.{Reply}
use Rattle.ev_edge.specs.Edge.{Edge}
use Rattle.ev_edge.specs.Steps.{Steps}
use Rattle.ev_book.specs.declared.refusal.BookRefusal.{BookRefusal}
use Rattle.ev_book.specs.declared.refusal.BookRefusal.TheVariants.{PassStrange, PassSpent, NoRoom, Edge as OfEdge}
use Rattle.ev_book.specs.declared.log_entry.LogEntry.{LogEntry}
use Rattle.ev_book.specs.Standing.{Stands}

-- whether a call of the book was a step of its edge
abbrev pub has_stepped : Result (Unit {0}) BookRefusal → Bool
has_stepped (Ok done) = true
has_stepped (Err (OfEdge r)) = true
has_stepped (Err NoRoom) = false
has_stepped (Err PassStrange) = false
has_stepped (Err PassSpent) = false

-- the step of a book's edge in a call
abbrev pub EdgeGoes : Edge → Event → Result Reply BookRefusal → Edge → Type 0
EdgeGoes e event (Ok reply) e' = Steps e event (Ok reply) e'
EdgeGoes e event (Err (OfEdge r)) e' = Steps e event (Err r) e'
EdgeGoes e event (Err NoRoom) e' = e' ≡ e
EdgeGoes e event (Err PassStrange) e' = e' ≡ e
EdgeGoes e event (Err PassSpent) e' = e' ≡ e

-- a call of a book moves its edge; the reply of an accepted event isn't named
abbrev pub EdgeMoves : Edge → Event → Result (Unit {0}) BookRefusal → Edge → Type 0
EdgeMoves e event (Ok done) e' = (reply : Reply) × Steps e event (Ok reply) e'
EdgeMoves e event (Err (OfEdge r)) e' = Steps e event (Err r) e'
EdgeMoves e event (Err NoRoom) e' = e' ≡ e
EdgeMoves e event (Err PassStrange) e' = e' ≡ e
EdgeMoves e event (Err PassSpent) e' = e' ≡ e

-- an edge that stood at the end of a history has gone on by one call of its book
pub record GoesOn (place : ℕ) (log : List LogEntry) (event : Event) (result : Result (Unit {0}) BookRefusal)
    (later : Edge) : Type 0 where
  pub before : Edge
  pub stood : Stands place log before
  pub moves : EdgeMoves before event result later
