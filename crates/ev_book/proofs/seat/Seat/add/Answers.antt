use Rattle.std.proofs.Common.{sym, subst}
use Rattle.ev_book.specs.declared.log_entry.LogEntry.TheVariants.{Does}
use Rattle.ev_book.specs.Log.{count}
use Rattle.ev_book.specs.Rule.{SeatState, IsAdded}
use Rattle.ev_book.proofs.Standing.{added_stands, added_seat}
use Rattle.ev_book.proofs.seat.Seat.add.Goals as goal

pub invariant_of-self : goal.invariant_of-self
invariant_of-self g c =
    let s = c.self.inside in
    let deed = c.args.adding.now.deed in
    let edge = c.args.adding.now.edge.now in
    let new = c.added-front.result in
    let added : IsAdded s.place (count s.place s.front) s.front (Does s.place deed edge) new =
    subst (λ (x : SeatState). IsAdded x.place (count x.place x.log) x.log (Does x.place deed edge) new)
    (sym c.self.view_is) c.added-front.ensures.added in
    added_seat g.J.Naming.book s.place s.entries s.word s.front new deed edge c.self.invariant added

pub returns-clause-stands : goal.returns-clause-stands
returns-clause-stands g c =
    let s = c.self.inside in
    let deed = c.args.adding.now.deed in
    let edge = c.args.adding.now.edge.now in
    let new = c.added-front.result in
    let added : IsAdded s.place (count s.place s.front) s.front (Does s.place deed edge) new =
    subst (λ (x : SeatState). IsAdded x.place (count x.place x.log) x.log (Does x.place deed edge) new)
    (sym c.self.view_is) c.added-front.ensures.added in
    added_stands s.place (count s.place s.front) s.front new deed edge added
