use Rattle.std.proofs.Common.{List, ℕ, take, length, sym, subst, ◌≡◌, arith}
use Rattle.std.proofs.lemmas.Bool.Decides.{nat_tests}
use Rattle.ev_report.proofs.Fronts.{Front, front_none, front_more, front_all}
use Rattle.ev_exchange.proofs.Receiving.{Took, took_none, took_both}
use Rattle.ev_exchange.proofs.receiver.Receiver.take.Goals as goal

pub loop-rest-init : goal.loop-rest-init
loop-rest-init g c =
    let r = c.args.self.now in
    let given = g.E.Entrance.given c.args.into.now in
    front_none (Took r r given given) c.args.piece.now (took_none r given)

pub loop-rest-preserved : goal.loop-rest-preserved
loop-rest-preserved g c =
    let r = c.args.self.now in
    let s = c.loop-rest.self in
    let t = c.step-n.new.self in
    let given = g.E.Entrance.given c.args.into.now in
    let given' = g.E.Entrance.given c.loop-rest.into in
    let given'' = g.E.Entrance.given c.step-n.new.into in
    let rest = c.loop-rest.rest.now in
    let n = c.step-n.result in
    subst (λ (behind : List ℕ). Front (Took r t given given'') c.args.piece.now behind) (sym c.split_at.ensures.back)
    (front_more (Took r s given given') c.args.piece.now rest c.loop-rest.invariant (Took r t given given'') n
    (λ front h. took_both front (take n rest) r s t given given' given'' h c.step-n.ensures.took))

pub returns : goal.returns
returns g c =
    let none : length c.loop-rest.rest.now ≡ 0 = grind (arith, nat_tests, c.is_empty.ensures, c.loop-rest-test.false) in
    front_all (Took c.args.self.now c.loop-rest.self (g.E.Entrance.given c.args.into.now)
    (g.E.Entrance.given c.loop-rest.into)) c.args.piece.now c.loop-rest.rest.now c.loop-rest.invariant none
