use Rattle.std.proofs.Common.{List, ℕ, ◌≡◌, ◌++◌, ap, subst, ◌∙◌}
use Rattle.ether_wire.specs.Ends.{End, with_text, Puts}
use Rattle.ether_wire.proofs.Appending.{puts_behind, with_text_twice}
use Rattle.evpnd.specs.Files.{reason_of}
use Rattle.evpnd.proofs.files.put_unread.Goals as goal

pub returns : goal.returns
returns g c =
    let e = g.N.Out.end c.args.notes.now in
    let o = g.N.Out.end c.put-2.new.self in
    let end = g.N.Out.end c.put-3.new.self in
    let head = c.lead.result.now in
    let path = c.args.path.now in
    let two : o ≡ with_text e (head ++ path) = c.in_ok-put-2.ensures
    ∙ ap (λ (x : End). with_text x path) c.in_ok-put.ensures ∙ with_text_twice e head path in
    subst (λ (t : List ℕ). Puts e end (t ++ path ++ reason_of c.args.why) c.put-3.result) c.lead.ensures
    (puts_behind e o end (head ++ path) (reason_of c.args.why) c.put-3.result two
    (subst (λ (t : List ℕ). Puts o end t c.put-3.result) c.reason.ensures c.put-3.ensures))
