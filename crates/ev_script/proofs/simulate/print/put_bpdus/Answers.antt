use Rattle.std.proofs.Common.{ℕ, ◌++◌, take, sym, ap, ◌∙◌}
use Rattle.std.specs.List.{flat_map}
use Rattle.ether_wire.specs.Ends.{End, with_text}
use Rattle.ether_wire.proofs.Appending.{with_text_twice}
use Rattle.bpdu_wire.specs.declared.bpdu.Bpdu.{Bpdu}
use Rattle.ev_script.specs.Printing.{bpdu_line}
use Rattle.ev_script.proofs.Each.{one_behind}
use Rattle.ev_script.proofs.simulate.print.put_bpdus.Goals as goal

pub loop-sent-preserved : goal.loop-sent-preserved
loop-sent-preserved g c =
    let start : End = g.W.Out.end c.args.out.now in
    let all = c.args.bpdus.now in
    let place = c.loop-sent.sent-index in
    let one : ℕ × Bpdu = c.sent-item.result in
    c.in_ok-put_bpdu.ensures
    ∙ ap (λ (e : End). with_text e (bpdu_line c.args.edge one)) c.loop-sent.invariant
    ∙ with_text_twice start (flat_map (bpdu_line c.args.edge) (take place all)) (bpdu_line c.args.edge one)
    ∙ ap (λ (t : ℕ × Bpdu). with_text start (flat_map (bpdu_line c.args.edge) (take place all)
    ++ bpdu_line c.args.edge t)) c.sent-item.is
    ∙ ap (with_text start) (sym (one_behind (bpdu_line c.args.edge) all place one c.loop-sent-test.true))
