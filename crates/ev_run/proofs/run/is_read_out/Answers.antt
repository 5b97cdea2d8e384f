use Rattle.std.proofs.Common.{rules, ◌≡◌, ◌<◌, ◌^◌, ℕ, Ok, length, subst, arith}
use Rattle.ether_wire.specs.Ends.{Gets}
use Rattle.std.proofs.lemmas.Bool.Decides.{nat_tests}
use Rattle.ev_run.proofs.Running.{drains_more, drained_ended}
use Rattle.ev_run.proofs.run.is_read_out.Goals as goal

pub returns-in-Ok-eq0 : goal.returns-in-Ok-eq0
returns-in-Ok-eq0 g c =
    let turns : c.loop-turn.turn < 2 ^ 40 = grind (arith, nat_tests, c.loop-turn-test.true) in
    let room : 0 < length c.read.new.buffer = search rules in
    let none : c.in-Ok-eq0.field-0 ≡ 0 = omega (arith, c.in-Ok-eq0.field-0-test) in
    let got = subst (λ (n : ℕ). Gets (g.E.In.end c.loop-turn.reader) (g.E.In.end c.read.new.self) c.read.new.buffer
    (Ok n)) none c.in-Ok-eq0.ensures in
    drained_ended c.loop-turn.turn (g.E.In.end c.args.reader.now) (g.E.In.end c.loop-turn.reader)
    (g.E.In.end c.read.new.self) c.read.new.buffer c.loop-turn.invariant turns room got

pub loop-turn-preserved : goal.loop-turn-preserved
loop-turn-preserved g c =
    let some : 0 < c.in-Ok.n = omega (arith, c.in-Ok.n-test) in
    drains_more c.loop-turn.turn (g.E.In.end c.args.reader.now) (g.E.In.end c.loop-turn.reader)
    (g.E.In.end c.read.new.self) c.read.new.buffer c.loop-turn.invariant c.in-Ok.n c.in-Ok.ensures some
