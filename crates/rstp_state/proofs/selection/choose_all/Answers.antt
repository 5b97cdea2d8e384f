use Rattle.std.proofs.Common.{◌<◌, length, arith}
use Rattle.std.proofs.lemmas.List.{get_or_default}
use Rattle.rstp_state.specs.Selection.{with_choice, is_through}
use Rattle.rstp_state.proofs.Places.{places_more}
use Rattle.rstp_state.proofs.selection.choose_all.Goals as goal

pub loop-place-preserved : goal.loop-place-preserved
loop-place-preserved c =
    let within : c.loop-place.place < length c.loop-place.ports = omega arith in
    rw (c.choose.ensures, c.is_through.ensures)
    (places_more (λ e. with_choice c.args.settings.now c.args.root.now (is_through c.args.path.now e.0) e.1) _ _
    c.loop-place.place _
    c.loop-place-test.true c.loop-place.invariant (get_or_default _ _ _ _ within))
