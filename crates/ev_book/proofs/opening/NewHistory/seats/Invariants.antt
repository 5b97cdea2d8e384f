use Rattle.std.proofs.Common.{◌≡◌, ◌+◌, ◌≤◌, ℕ, Some, vec_len, vec_capacity, slice_get}
use Rattle.ev_book.specs.Rule.{SeatState}
use Rattle.ev_book.proofs.opening.NewHistory.seats.Given as goal

abbrev pub invariant-loop-place : goal.invariant-loop-place
invariant-loop-place g l = record {
  book : l.pens.book ≡ g.J.Naming.book;
  next : l.pens.next ≡ l.place;
  left : l.pens.left + l.place ≡ l.fn.self.edges;
  room : l.fn.self.edges ≤ vec_capacity l.seats;
  len : vec_len l.seats ≡ l.place;
  places : (n : ℕ) (s : SeatState) → slice_get l.seats.items n ≡ Some s → s.place ≡ n;
  logs : (n : ℕ) (s : SeatState) → slice_get l.seats.items n ≡ Some s → s.log ≡ l.fn.self.seen.log;
}
