-- Which passes fit a book after a call.
use Rattle.std.specs.Prelude.{◌≡◌, ◌≢◌, true, Result}
use Rattle.ev_edge.specs.declared.event.Event.{Event}
use Rattle.ev_edge.specs.declared.reply.Reply.{Reply}
use Rattle.ev_book.specs.declared.refusal.BookRefusal.{BookRefusal}
use Rattle.ev_book.specs.Book.{BookState, PassState, fits}
use Rattle.ev_book.specs.Entering.{CallsBook}

-- a pass that fits does so after its call, too, whatever is answered; and so does each other one
pub record FitAgain (b b' : BookState) (p p' : PassState) : Type 0 where
  pub own : fits b' p' ≡ true
  pub others : (q : PassState) → q.number ≢ p.number → fits b q ≡ true → fits b' q ≡ true

abbrev pub FitsAgain : Type 0
FitsAgain =
    (b b' : BookState) (p p' : PassState) (event : Event) (result : Result Reply BookRefusal) → fits b p ≡ true
    → CallsBook b p event result b' p' → FitAgain b b' p p'
