use Rattle.std.proofs.Common.{◌≡◌, ◌++◌, map, drop}
use Rattle.toml.specs.View.{table_view}
use Rattle.ev_config.specs.Faults.{rows_faults}
use Rattle.ev_config.specs.Inner.Faults.{spot_of, faults_view, row_of, context_view}
use Rattle.ev_config.proofs.faults.add_rows.Given as goal

abbrev pub invariant-loop-row : goal.invariant-loop-row
invariant-loop-row l =
    faults_view l.faults.items
    ++ rows_faults (context_view l.context) (spot_of l.place) (map row_of (drop l.row-index l.rows))
    (table_view l.table)
    ≡ faults_view l.initial.faults.items
    ++ rows_faults (context_view l.context) (spot_of l.place) (map row_of l.rows) (table_view l.table)
