use Rattle.std.proofs.Common.{◌≡◌, ◌++◌, take, drop, map}
use Rattle.std.specs.List.{enumerate_from}
use Rattle.rstp_state.specs.Selection.{with_choice, is_through}
use Rattle.rstp_state.proofs.selection.choose_all.Given as goal

abbrev pub invariant-loop-place : goal.invariant-loop-place
invariant-loop-place l =
    l.ports ≡ map (λ e. with_choice l.settings l.root (is_through l.path e.0) e.1)
    (enumerate_from 0 (take l.place l.fn.ports)) ++ drop l.place l.fn.ports
