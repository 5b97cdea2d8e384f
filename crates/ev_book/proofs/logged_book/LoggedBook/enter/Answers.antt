use Rattle.std.proofs.Common.{◌≡◌, true, sym, subst, option_copied}
use Rattle.ev_edge.specs.declared.event.Event.TheVariants as events
use Rattle.ev_edge.specs.Edge.{Edge}
use Rattle.ev_book.specs.Booking.{is_own, IsCovered}
use Rattle.ev_book.specs.Inner.Booking.{GoesOn}
use Rattle.ev_book.proofs.Booking.{goes_on, own_stands}
use Rattle.ev_book.proofs.logged_book.LoggedBook.enter.Goals as goal

pub note-requires : goal.note-requires
note-requires g c =
    let s = c.self.inside in
    let e = c.enter_into-answer in
    let u = c.in-Some.told.now in
    let taken : c.args.event.now ≡ events.Take u =
    subst (λ o. IsCovered c.args.event.now (option_copied o)) c.in-Some.is c.requires in
    subst (λ (x : Edge). GoesOn s.seat.place s.seat.log (events.Take u) e.result x) (sym c.edge.ensures)
    (goes_on s.seat.place s.seat.log s.book e.new.self c.args.pass.now e.new.pass c.args.event.now u e.result
    e.new.reply
    taken c.self.invariant.1 e.ensures.calls)

pub invariant_of-self-in-None : goal.invariant_of-self-in-None
invariant_of-self-in-None g c =
    let s = c.self.inside in
    let e = c.enter_into-answer in
    let own : is_own c.args.event.now ≡ true =
    subst (λ o. IsCovered c.args.event.now (option_copied o)) c.in-None.is c.requires in (
      c.self.invariant.0,
      own_stands s.seat.place s.seat.log s.book e.new.self c.args.pass.now e.new.pass c.args.event.now e.result
          e.new.reply own c.self.invariant.1 e.ensures.calls,
    )
