use Rattle.std.proofs.Common.{List, ℕ, ◌≡◌, ◌++◌, codes, ap, subst, ◌∙◌}
use Rattle.ether_wire.specs.Ends.{End, with_text, Puts}
use Rattle.ether_wire.proofs.Appending.{puts_behind, with_text_twice}
use Rattle.ev_run.specs.Serving.{reason_of}
use Rattle.ev_run.proofs.control_socket.put_listen_error.Goals as goal

pub returns : goal.returns
returns g c =
    let e = g.N.Out.end c.args.notes.now in
    let n = g.N.Out.end c.put-2.new.self in
    let o = g.N.Out.end c.put-3.new.self in
    let end = g.N.Out.end c.put-4.new.self in
    let head = codes "can't listen at " in
    let path = c.args.path.now in
    let colon = codes ": " in
    let two : n ≡ with_text e (head ++ path) = c.in_ok-put-2.ensures
    ∙ ap (λ (x : End). with_text x path) c.in_ok-put.ensures ∙ with_text_twice e head path in
    let three : o ≡ with_text e (head ++ (path ++ colon)) = c.in_ok-put-3.ensures
    ∙ ap (λ (x : End). with_text x colon) two ∙ with_text_twice e (head ++ path) colon in
    puts_behind e o end (head ++ (path ++ colon)) (reason_of c.args.why) c.put-4.result three
    (subst (λ (t : List ℕ). Puts o end t c.put-4.result) c.reason.ensures c.put-4.ensures)
