-- The basis of a report: a stream's records, one after the other, and the table that takes them.
use Rattle.std.specs.Prelude.{ℕ, List, [], ◌∷◌, Result}
use Rattle.route_wire.specs.Fields.{Fields}
use Rattle.route_join.specs.Table.{Table}
use Rattle.ev_report.specs.Report.{table_after}

abbrev pub table_after_all : Table → List (Result Fields ℕ) → Table
table_after_all t [] = t
table_after_all t (outcome ∷ outcomes) = table_after_all (table_after t outcome) outcomes
