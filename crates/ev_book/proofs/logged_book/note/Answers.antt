use Rattle.std.proofs.Common.{sym, subst, ◌∙◌}
use Rattle.route_wire.specs.Fields.{Fields}
use Rattle.ev_edge.specs.declared.event.Event.TheVariants as events
use Rattle.ev_book.specs.Log.{Taking, world}
use Rattle.ev_book.proofs.Booking.{goes_follows, goes_stands}
use Rattle.ev_book.proofs.logged_book.note.Goals as goal

pub add-requires : goal.add-requires
add-requires g c =
    let seat = c.args.seat.now in
    let z = world c.front.result.now in
    subst (λ (u : Fields). Taking (world c.front.result.now).outside (world c.front.result.now).pool
    ((world seat.log).edges seat.place) u c.args.edge.now) (sym c.update.ensures)
    (goes_follows seat.place seat.log c.args.told.now c.args.answer.now c.args.edge.now z c.front.ensures c.requires
    (sym c.has_stepped.ensures ∙ c.if-has_stepped.true))

pub returns-else-has_stepped-clause-stands : goal.returns-else-has_stepped-clause-stands
returns-else-has_stepped-clause-stands g c =
    let seat = c.args.seat.now in
    goes_stands seat.place seat.log (events.Take c.args.told.now) c.args.answer.now c.args.edge.now c.requires
    (sym c.has_stepped.ensures ∙ c.if-has_stepped.false)
