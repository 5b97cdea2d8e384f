use Rattle.std.proofs.Common.{sym, subst, ◌∙◌, List}
use Rattle.ev_book.specs.declared.log_entry.LogEntry.{LogEntry}
use Rattle.ev_book.specs.Log.{world, count, IsKnown}
use Rattle.ev_book.proofs.Standing.{told_known}
use Rattle.ev_book.proofs.logged_book.tell.Goals as goal

pub new-requires : goal.new-requires
new-requires g c =
    let seat = c.args.seat.now in
    let new = c.add.new.self.log in
    subst (λ (l : List LogEntry). IsKnown (world l).outside (world l).pool c.args.update)
    (sym (c.again.ensures.same ∙ c.front-3.ensures.log))
    (told_known seat.place (count seat.place seat.log) seat.log new c.args.update c.args.edge.now c.add.ensures.added)
