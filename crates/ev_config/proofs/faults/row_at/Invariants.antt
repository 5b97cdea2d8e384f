use Rattle.std.proofs.Common.{◌≡◌, map, drop}
use Rattle.ev_config.specs.Faults.{find_row}
use Rattle.ev_config.specs.Inner.Faults.{row_of}
use Rattle.ev_config.proofs.faults.row_at.Given as goal

abbrev pub invariant-loop-row : goal.invariant-loop-row
invariant-loop-row l = find_row (map row_of (drop l.row-index l.rows)) l.key ≡ find_row (map row_of l.rows) l.key
