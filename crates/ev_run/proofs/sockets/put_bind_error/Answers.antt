use Rattle.std.proofs.Common.{List, ℕ, ◌≡◌, ◌++◌, codes, ap, subst, ◌∙◌}
use Rattle.ether_wire.specs.Ends.{End, with_text, Puts}
use Rattle.ether_wire.proofs.Appending.{puts_behind, with_text_twice}
use Rattle.ev_run.specs.RunEdges.{why_text, endpoint_text}
use Rattle.ev_run.proofs.sockets.put_bind_error.Goals as goal

pub returns : goal.returns
returns g c =
    let e = g.N.Out.end c.args.notes.now in
    let n = g.N.Out.end c.put_endpoint.new.notes in
    let o = g.N.Out.end c.put-2.new.self in
    let end = g.N.Out.end c.put-3.new.self in
    let head = codes "can't bind " in
    let place = endpoint_text c.args.at in
    let colon = codes ": " in
    let two : n ≡ with_text e (head ++ place) = c.in_ok-put_endpoint.ensures
    ∙ ap (λ (x : End). with_text x place) c.in_ok-put.ensures ∙ with_text_twice e head place in
    let three : o ≡ with_text e (head ++ (place ++ colon)) = c.in_ok-put-2.ensures
    ∙ ap (λ (x : End). with_text x colon) two ∙ with_text_twice e (head ++ place) colon in
    puts_behind e o end (head ++ (place ++ colon)) (why_text c.args.why) c.put-3.result three
    (subst (λ (t : List ℕ). Puts o end t c.put-3.result) c.reason.ensures c.put-3.ensures)
