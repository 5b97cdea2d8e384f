use Rattle.std.proofs.Common.{[], ap}
use Rattle.route_join.specs.Report.{report_of}
use Rattle.route_join.proofs.Tables.{one_table}
use Rattle.route_join.proofs.laws.equal_reports.Goals as goal

-- a report depends only on the registers
pub returns : goal.returns
returns c = λ us vs s t same of_us of_vs.
    ap (λ registers. report_of (record { originators = []; registers = registers }))
    (one_table us vs s t same of_us of_vs)
