use Rattle.std.proofs.Common.{ℕ, ◌++◌, take, sym, ap, ◌∙◌}
use Rattle.std.specs.List.{flat_map}
use Rattle.ether_wire.specs.Ends.{End, with_text}
use Rattle.ether_wire.proofs.Appending.{with_text_twice}
use Rattle.ev_script.specs.Printing.{later_words}
use Rattle.ev_script.proofs.Each.{one_behind}
use Rattle.ev_script.proofs.simulate.print.put_later.Goals as goal

pub loop-address-preserved : goal.loop-address-preserved
loop-address-preserved g c =
    let start : End = g.W.Out.end c.args.out.now in
    let all = c.args.addresses.now in
    let place = c.loop-address.address-index in
    let one : ℕ = c.address-item.result in
    c.in_ok-put_later_one.ensures
    ∙ ap (λ (e : End). with_text e (later_words one)) c.loop-address.invariant
    ∙ with_text_twice start (flat_map later_words (take place all)) (later_words one)
    ∙ ap (λ (t : ℕ). with_text start (flat_map later_words (take place all) ++ later_words t)) c.address-item.is
    ∙ ap (with_text start) (sym (one_behind later_words all place one c.loop-address-test.true))
