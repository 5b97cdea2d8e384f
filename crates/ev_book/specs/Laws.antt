-- The journal of a book, taken again, and its octets, read again.
use Rattle.std.specs.Prelude.{◌≡◌, ℕ, true, List, [], Result, Contains}
use Rattle.std.specs.FinMap.{empty}
use Rattle.route_wire.specs.Fields.{Fields}
use Rattle.route_wire.specs.Record.{Answers}
use Rattle.route_join.specs.Table.{Table, is_listed, with_updates}
use Rattle.route_join.specs.Report.{report_of}
use Rattle.ev_edge.specs.Edge.{table_of}
use Rattle.ev_book.specs.Book.{BookState}
use Rattle.route_wire.specs.Records.{all_ok}

-- a table that listens to the same originators as the edge and has heard nothing
abbrev pub listening : BookState → Table
listening b = record { originators = (table_of b.edge).originators; registers = empty }

-- Each update of the journal is of a listed originator. A table that takes them has the edge's registers and report.
pub record Replays (b : BookState) : Type 0 where
  pub listed : (u : Fields) → Contains b.journal u → is_listed (table_of b.edge) u.register.originator ≡ true
  pub registers : (with_updates (listening b) b.journal).registers ≡ (table_of b.edge).registers
  pub report : report_of (with_updates (listening b) b.journal) ≡ report_of (table_of b.edge)

-- The octets are a stream of records that spell updates of listed originators, with nothing left over, however it is
-- read;
-- and this is the report of a table that takes them.
pub record ReportsAs (t : Table) (octets text : List ℕ) : Type 0 where
  pub updates : List Fields
  pub answers : Answers octets (all_ok updates) []
  pub only : (answers : List (Result Fields ℕ)) (rest : List ℕ) → Answers octets answers rest
      → (answers ≡ all_ok updates) × (rest ≡ [])
  pub listed : (u : Fields) → Contains updates u → is_listed t u.register.originator ≡ true
  pub report : report_of (with_updates t updates) ≡ text
