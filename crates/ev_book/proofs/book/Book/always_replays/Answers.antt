use Rattle.std.proofs.Common.{subst}
use Rattle.route_join.specs.Table.{IsListed}
use Rattle.ev_book.specs.Book.{book_of}
use Rattle.ev_book.specs.Laws.{Replays}
use Rattle.ev_book.proofs.Replaying.{replays}
use Rattle.ev_book.proofs.book.Book.always_replays.Goals as goal

pub returns-clause-replays : goal.returns-clause-replays
returns-clause-replays g c =
    let listed = subst IsListed c.table.ensures c.originators-listed.ensures.listed in
    subst Replays c.self.view_is (replays (book_of c.self.inside.edge c.self.inside.journal.updates.items
    c.self.inside.kept.items) c.self.inside.sum.total c.self.invariant.0 listed)
