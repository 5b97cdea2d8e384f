use Rattle.std.proofs.Common.{◌≡◌, drop}
use Rattle.std.specs.List.{filter_map, enumerate_from}
use Rattle.rstp_state.specs.Selection.{own_path, path_at, path_cmp}
use Rattle.rstp_state.proofs.Least.{least}
use Rattle.rstp_state.proofs.selection.best_path.Given as goal

abbrev pub invariant-loop-place : goal.invariant-loop-place
invariant-loop-place l =
    least path_cmp l.best (filter_map (path_at l.settings) (enumerate_from l.place (drop l.place l.ports)))
    ≡ least path_cmp (own_path l.fn.settings) (filter_map (path_at l.fn.settings) (enumerate_from 0 l.fn.ports))
