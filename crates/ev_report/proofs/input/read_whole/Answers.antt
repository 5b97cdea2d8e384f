use Rattle.std.proofs.Common.{◌+◌, ◌<◌, ◌^◌, ℕ, List, ◌++◌, take, cond, not, sym, ap, subst, ◌∙◌, arith}
use Rattle.ev_report.specs.Input.{Gathers}
use Rattle.ev_report.proofs.Gathering.{gathers_more, whole_refused}
use Rattle.ev_report.proofs.input.read_whole.Goals as goal

pub returns-then-is_err : goal.returns-then-is_err
returns-then-is_err g c =
    let mid = g.R.In.end c.loop-turn.reader in
    let last = g.R.In.end c.read.new.self in
    let test = c.loop-turn-test.true in
    let turns : c.loop-turn.turn < 2 ^ 40 = omega (arith, test) in
    let some : 0 < c.in-Ok.n = omega (arith, c.in-Ok.n-test) in
    whole_refused c.loop-turn.turn (g.R.In.end c.args.reader.now) mid last c.loop-turn.input.items c.read.new.buffer
    c.loop-turn.invariant c.in-Ok.n turns c.in-Ok.ensures some

pub loop-turn-preserved : goal.loop-turn-preserved
loop-turn-preserved g c =
    let mid = g.R.In.end c.loop-turn.reader in
    let last = g.R.In.end c.read.new.self in
    let some : 0 < c.in-Ok.n = omega (arith, c.in-Ok.n-test) in
    let was = c.loop-turn.input.items in
    let got = take c.in-Ok.n c.read.new.buffer in
    let done = c.is_err.ensures.negation ∙ ap not c.if-is_err.false in
    subst (λ (xs : List ℕ). Gathers (c.loop-turn.turn + 1) (g.R.In.end c.args.reader.now) last xs)
    (sym (c.extend_from_slice.ensures.items ∙ ap (λ b. cond b (was ++ got) was) done))
    (gathers_more c.loop-turn.turn (g.R.In.end c.args.reader.now) mid last was c.read.new.buffer c.loop-turn.invariant
    c.in-Ok.n c.in-Ok.ensures some)
