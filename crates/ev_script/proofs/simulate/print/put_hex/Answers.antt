use Rattle.std.proofs.Common.{ℕ, take, get_or, sym, ap, ◌∙◌}
use Rattle.std.specs.List.{flat_map}
use Rattle.ether_wire.specs.Ends.{End, with_text}
use Rattle.ether_wire.proofs.Appending.{with_text_twice}
use Rattle.ev_script.specs.Printing.{hex_digits}
use Rattle.ev_script.proofs.Each.{one_behind}
use Rattle.ev_script.proofs.simulate.print.put_hex.Goals as goal

pub loop-octet-preserved : goal.loop-octet-preserved
loop-octet-preserved g c =
    let start : End = g.W.Out.end c.args.out.now in
    let all = c.args.octets.now in
    let place = c.loop-octet.octet-index in
    let one : ℕ = get_or all place 0 in
    c.in_ok-put_hex_digits.ensures
    ∙ ap (λ (e : End). with_text e (hex_digits one)) c.loop-octet.invariant
    ∙ with_text_twice start (flat_map hex_digits (take place all)) (hex_digits one)
    ∙ ap (with_text start) (sym (one_behind hex_digits all place 0 c.loop-octet-test.true))
