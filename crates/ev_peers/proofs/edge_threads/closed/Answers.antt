use Rattle.std.proofs.Common.{ℕ, subst}
use Rattle.ev_book.specs.Standing.{Stands}
use Rattle.ev_peers.proofs.edge_threads.closed.Goals as goal

pub returns-clause-stands : goal.returns-clause-stands
returns-clause-stands g c =
    let e = c.close.ensures in
    let seat = c.close.result.2 in
    record {
      legal = e.legal;
      place_is = e.place;
      stands = subst (λ (n : ℕ). Stands n seat.log c.close.result.0) e.place e.stands;
    }
