-- The numbers of a book's own refusals.
use Rattle.std.specs.Prelude.{ℕ}
use Rattle.ev_edge.specs.Refusal as edges
use Rattle.ev_book.specs.declared.refusal.BookRefusal.{BookRefusal}
use Rattle.ev_book.specs.declared.refusal.BookRefusal.TheVariants.{PassStrange, PassSpent, NoRoom, Edge}

abbrev pub refusal_number : BookRefusal → ℕ
refusal_number NoRoom = 15
refusal_number PassSpent = 20
refusal_number PassStrange = 23
refusal_number (Edge r) = edges.refusal_number r
