use Rattle.std.proofs.Common.{◌≡◌, List, [], drop, subst, sym, ap, ◌∙◌}
use Rattle.std.proofs.lemmas.List.{drop_all}
use Rattle.std.specs.List.{filter_map, enumerate_from}
use Rattle.rstp_state.specs.declared.port.PortState.{PortState}
use Rattle.rstp_state.specs.declared.selection.Path.{Path}
use Rattle.rstp_state.specs.Selection.{IsLeastOf, path_at, path_cmp, candidates}
use Rattle.rstp_state.proofs.Least.{least}
use Rattle.rstp_state.proofs.Paths.{least_of_candidates, least_is_best}
use Rattle.rstp_state.proofs.selection.best_path.Goals as goal

-- after the last port, the path is the one that the pass finds
found : (c : goal.After-loop-place) → IsLeastOf (candidates c.args.settings.now c.args.ports.now) c.loop-place.best
found c =
    let none_left : drop c.loop-place.place c.args.ports.now ≡ [] =
    drop_all c.loop-place.place c.args.ports.now c.loop-place-test.false in
    let at_end = ap (λ (rest : List PortState). least path_cmp c.loop-place.best
    (filter_map (path_at c.args.settings.now) (enumerate_from c.loop-place.place rest))) none_left in
    let P : Path → Type 0 = λ path. IsLeastOf (candidates c.args.settings.now c.args.ports.now) path in
    subst P (sym c.loop-place.invariant ∙ at_end) (least_of_candidates c.args.settings.now c.args.ports.now)

pub returns-clause-least : goal.returns-clause-least
returns-clause-least c = found c

pub returns-clause-value : goal.returns-clause-value
returns-clause-value c = least_is_best c.args.settings.now c.args.ports.now c.loop-place.best (found c)
