use Rattle.std.proofs.Common.{◌≡◌}
use Rattle.ev_book.proofs.seat.Seat.added.Given as goal

-- nothing changes until it is done
abbrev pub invariant-loop : goal.invariant-loop
invariant-loop g l =
    (goal.iterator-loop g).can_next l.iterator' × (goal.iterator-loop g).is_finite l.iterator'
