use Rattle.std.proofs.Common.{◌≡◌, ◌++◌, drop, map}
use Rattle.ev_run.specs.Inner.SystemDrops.{text_of_rows}
use Rattle.ev_run.proofs.system_drops.text_of_rows.Given as goal

abbrev pub invariant-loop-row : goal.invariant-loop-row
invariant-loop-row l = l.text.items ++ text_of_rows (map (λ row. row.now) (drop l.row-index l.rows))
    ≡ text_of_rows (map (λ row. row.now) l.rows)
