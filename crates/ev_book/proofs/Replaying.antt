-- A table that takes the updates of a journal, and the report of its octets.
use Rattle.std.proofs.Common.{◌≡◌, ℕ, List, [], Result, Ok, Err, OnOk, ap, sym, subst}
use Rattle.std.specs.FinMap.{empty}
use Rattle.route_wire.specs.Fields.{Fields}
use Rattle.route_wire.specs.Record.{Answers}
use Rattle.route_wire.proofs.Streams.{read_once}
use Rattle.route_join.specs.Table.{Table, IsListed, IsTableOf, with_updates}
use Rattle.route_join.specs.Report.{report_of}
use Rattle.route_join.proofs.Tables.{one_table}
use Rattle.route_join.proofs.Edits.{new_table}
use Rattle.route_join.proofs.Joins.{none_taken, all_taken}
use Rattle.ev_edge.specs.Edge.{table_of}
use Rattle.ev_book.specs.Book.{BookState, IsGoodBook}
use Rattle.ev_book.specs.Laws.{Replays, ReportsAs, listening}
use Rattle.route_wire.specs.Records.{records_of, all_ok}

replay : (us : List Fields) (t : Table) → IsTableOf us t
    → IsTableOf us (with_updates (record { originators = t.originators; registers = empty }) us)
replay us t h = all_taken [] us (record { originators = t.originators; registers = empty })
    (subst (IsTableOf []) (new_table t.originators) (none_taken t.originators))

pub replays : (b : BookState) (total : ℕ) → IsGoodBook b total → IsListed (table_of b.edge) → Replays b
replays b total good listed =
    let t = table_of b.edge in
    let again = replay b.journal t good.table in
    let same : (with_updates (listening b) b.journal).registers ≡ t.registers =
    one_table b.journal b.journal (with_updates (listening b) b.journal) t
    (record { there = λ w c. c; back = λ w c. c }) again good.table in
    record {
      listed = λ u c. (let n = good.table.newest u c in listed u.register n.0 n.1);
      registers = same;
      report = ap (λ registers. report_of (record { originators = []; registers = registers })) same;
    }

-- the journal's octets, read again
reports : (b : BookState) → Replays b → Answers (records_of b.journal) (all_ok b.journal) []
    → ReportsAs (listening b) (records_of b.journal) (report_of (table_of b.edge))
reports b again read = record {
  updates = b.journal;
  answers = read;
  only = λ answers rest other. (let same = read_once 3 (records_of b.journal) (all_ok b.journal) answers [] rest read
      other in (sym same.0, sym same.1));
  listed = again.listed;
  report = again.report;
}

pub reports_where_ok : {V E : Type 0} (b : BookState) (result : Result V E) → Replays b
    → OnOk result (Answers (records_of b.journal) (all_ok b.journal) [])
    → OnOk result (ReportsAs (listening b) (records_of b.journal) (report_of (table_of b.edge)))
reports_where_ok b (Ok v) again read = reports b again read
reports_where_ok b (Err e) again read = tt
