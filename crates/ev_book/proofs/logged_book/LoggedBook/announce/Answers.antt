use Rattle.std.proofs.Common.{sym, subst, ◌∙◌}
use Rattle.ev_edge.specs.Edge.{Edge}
use Rattle.ev_book.specs.Entering.{answered}
use Rattle.ev_book.specs.Log.{Announcing, world}
use Rattle.ev_book.proofs.Booking.{announce_follows, announce_stands}
use Rattle.ev_book.proofs.logged_book.LoggedBook.announce.Goals as goal

pub tell-requires : goal.tell-requires
tell-requires g c =
    let s = c.self.inside in
    let e = c.enter_into-answer in
    subst (λ (x : Edge). Announcing ((world s.seat.log).edges s.seat.place) c.in-Some.update x) (sym c.edge.ensures)
    (announce_follows s.seat.place s.seat.log (world s.seat.log) s.book e.new.self c.args.pass.now e.new.pass
    c.in-Some.update (answered e.result e.new.reply) (sym c.announced_by.ensures ∙ c.in-Some.is)
    c.self.invariant.1 e.ensures.calls)

pub invariant_of-self-in-None : goal.invariant_of-self-in-None
invariant_of-self-in-None g c =
    let s = c.self.inside in
    let e = c.enter_into-answer in (
      c.self.invariant.0,
      announce_stands s.seat.place s.seat.log s.book e.new.self c.args.pass.now e.new.pass
          (answered e.result e.new.reply) (sym c.announced_by.ensures ∙ c.in-None.is) c.self.invariant.1
          e.ensures.calls,
    )
