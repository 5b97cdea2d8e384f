use Rattle.std.proofs.Common.{rules, ◌≡◌, [], List, OnOk, subst}
use Rattle.route_wire.specs.Fields.{Fields}
use Rattle.route_wire.specs.Record.{Answers}
use Rattle.ev_book.proofs.Replaying.{reports_where_ok}
use Rattle.ev_book.proofs.book.Book.write_journal.Goals as goal
use Rattle.route_wire.specs.Records.{records_of, all_ok}

pub returns-clause-report : goal.returns-clause-report
returns-clause-report g c =
    let written : c.as_slice.result.now ≡ c.args.self.now.journal = search rules in
    let read = subst (λ (us : List Fields). OnOk c.put_records.result (Answers (records_of us) (all_ok us) [])) written
    c.put_records.ensures.again in
    reports_where_ok c.args.self.now c.put_records.result c.always_replays.ensures.replays read
