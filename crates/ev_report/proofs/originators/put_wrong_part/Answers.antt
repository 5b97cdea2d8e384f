use Rattle.std.proofs.Common.{codes, ap, ◌++◌, ◌≡◌, ◌∙◌}
use Rattle.ether_wire.specs.Ends.{End, with_text}
use Rattle.ether_wire.proofs.Appending.{puts_behind, with_text_twice}
use Rattle.ev_report.specs.Originators.{reason_of}
use Rattle.ev_report.proofs.originators.put_wrong_part.Goals as goal

pub returns : goal.returns
returns g c =
    let e = g.N.Out.end c.args.notes.now in
    let n = g.N.Out.end c.put-2.new.self in
    let o = g.N.Out.end c.put-3.new.self in
    let end = g.N.Out.end c.put-4.new.self in
    let head = codes "error: --originators: '" in
    let part = c.args.wrong.part.now in
    let reason = reason_of c.args.wrong.fault in
    let two : n ≡ with_text e (head ++ part) = c.in_ok-put-2.ensures
    ∙ ap (λ (x : End). with_text x part) c.in_ok-put.ensures ∙ with_text_twice e head part in
    let three : o ≡ with_text e (head ++ part ++ reason) =
    c.in_ok-put-3.ensures ∙ ap (with_text n) c.reason.ensures ∙ ap (λ (x : End). with_text x reason) two
    ∙ with_text_twice e (head ++ part) reason in
    puts_behind e o end (head ++ part ++ reason) (codes
    "expected 1 to 64 different IPv4 addresses with commas between them, as in 10.0.0.1,10.0.0.2\n") c.put-4.result
    three c.put-4.ensures
