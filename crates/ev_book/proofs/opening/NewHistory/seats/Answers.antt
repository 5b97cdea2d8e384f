use Rattle.std.proofs.Common.{rules, arith, ◌≡◌, ◌+◌, ◌∷◌, [], ◌++◌, ℕ, List, Some, length, vec_len, slice_get, ap}
use Rattle.std.proofs.Common.{sym, subst, ◌∙◌}
use Rattle.ev_book.specs.Rule.{SeatState}
use Rattle.ev_book.proofs.Standing.{places_push, all_push}
use Rattle.ev_book.proofs.opening.NewHistory.seats.Goals as goal

pub loop-place-preserved : goal.loop-place-preserved
loop-place-preserved g c =
    let inv = c.loop-place.invariant in
    let rest = c.take-pen.ensures.rest in
    let seats = c.loop-place.seats in
    let seat = c.new.result in
    let at : seat.place ≡ length seats.items = c.new.ensures.seat.0 ∙ sym (sym seats.ok.0 ∙ inv.len) in
    record {
      book = rest.0 ∙ inv.book;
      next = rest.1 ∙ ap (λ n. n + 1) inv.next;
      left = search rules;
      room = search rules;
      len = search rules;
      places = λ n s h. places_push (λ (x : SeatState). x.place) seats.items seat inv.places at n s
          (subst (λ (l : List SeatState). slice_get l n ≡ Some s) (search rules) h);
      logs = λ n s h. all_push (λ (x : SeatState). x.log ≡ c.args.self.seen.log) seats.items seat inv.logs
          (search rules) n s (subst (λ (l : List SeatState). slice_get l n ≡ Some s) (search rules) h);
    }
