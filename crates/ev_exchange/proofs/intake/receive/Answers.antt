use Rattle.std.proofs.Common.{ℕ, ◌+◌, ◌<◌, ◌^◌, ◌≡◌, [], length, Ok, refl, sym, subst, ◌∙◌, arith}
use Rattle.std.proofs.lemmas.Bool.Decides.{nat_tests}
use Rattle.ether_wire.specs.Ends.{Gets}
use Rattle.ev_report.specs.declared.ending.Ending.TheVariants.{Ended, Failed, Faulty, Unended}
use Rattle.ev_report.proofs.Gathering.{stops_ended, stops_failed, stops_unended}
use Rattle.ev_exchange.specs.Receiving.{Received}
use Rattle.ev_exchange.proofs.Readings.{Coming, coming_none, coming_more, empty_faultless, receives_by, receives_fault}
use Rattle.ev_exchange.proofs.Readings.{receives_as}
use Rattle.ev_exchange.proofs.intake.receive.Goals as goal

pub loop-turn-init : goal.loop-turn-init
loop-turn-init g c =
    let s = g.R.In.end c.args.reader.now in
    let given = g.E.Entrance.given c.args.into.now in
    let r = c.new-receiver.result in
    let end = c.end-end.result in
    let new = c.new-receiver.ensures given in
    let d = c.end-end.ensures.delivers given given [] new in
    record {
      coming = subst (λ (x : Received). Coming 0 s s given given x end) (sym c.end-end.ensures.same)
          (coming_none s given r end new d);
      faultless = empty_faultless given given r.counts end d;
    }

pub returns-in-Ok-eq0 : goal.returns-in-Ok-eq0
returns-in-Ok-eq0 g c =
    let coming = c.loop-turn.invariant.coming in
    let source = g.R.In.end c.args.reader.now in
    let mid = g.R.In.end c.loop-turn.reader in
    let last = g.R.In.end c.read.new.self in
    let start = g.E.Entrance.given c.args.into.now in
    let given = g.E.Entrance.given c.loop-turn.into in
    let turns : c.loop-turn.turn < 2 ^ 40 = grind (arith, nat_tests, c.loop-turn-test.true) in
    let none : c.in-Ok-eq0.field-0 ≡ 0 = omega (arith, c.in-Ok-eq0.field-0-test) in
    let room : 0 < length c.read.new.buffer = omega (arith, c.read.auto.buffer) in
    receives_as source last start given c.loop-turn.receiver c.came.result.receiver c.loop-turn.end c.came.result.end
    Ended c.came.result.ending
    (receives_by c.loop-turn.turn source mid start given c.loop-turn.receiver c.loop-turn.end coming
    c.loop-turn.invariant.faultless Ended last
    (stops_ended c.loop-turn.turn source mid last coming.input c.read.new.buffer coming.read turns room
    (subst (λ (n : ℕ). Gets mid last c.read.new.buffer (Ok n)) none c.in-Ok-eq0.ensures)) refl) c.came.ensures

pub returns-in-Err : goal.returns-in-Err
returns-in-Err g c =
    let coming = c.loop-turn.invariant.coming in
    let source = g.R.In.end c.args.reader.now in
    let mid = g.R.In.end c.loop-turn.reader in
    let last = g.R.In.end c.read.new.self in
    let start = g.E.Entrance.given c.args.into.now in
    let given = g.E.Entrance.given c.loop-turn.into in
    let turns : c.loop-turn.turn < 2 ^ 40 = grind (arith, nat_tests, c.loop-turn-test.true) in
    receives_as source last start given c.loop-turn.receiver c.came-in-Err.result.receiver c.loop-turn.end
    c.came-in-Err.result.end Failed c.came-in-Err.result.ending
    (receives_by c.loop-turn.turn source mid start given c.loop-turn.receiver c.loop-turn.end coming
    c.loop-turn.invariant.faultless Failed last
    (stops_failed c.loop-turn.turn source mid last coming.input c.read.new.buffer coming.read c.in-Err.field-0 turns
    c.in-Err.ensures) refl) c.came-in-Err.ensures

pub returns-in-Some : goal.returns-in-Some
returns-in-Some g c =
    let source = g.R.In.end c.args.reader.now in
    let mid = g.R.In.end c.loop-turn.reader in
    let last = g.R.In.end c.read.new.self in
    let start = g.E.Entrance.given c.args.into.now in
    let given = g.E.Entrance.given c.loop-turn.into in
    let given' = g.E.Entrance.given c.take.new.into in
    let r' = c.take.new.self in
    let end' = c.end-end-in-loop-turn.result in
    let told = c.came-in-Some.ensures in
    let turns : c.loop-turn.turn < 2 ^ 40 = grind (arith, nat_tests, c.loop-turn-test.true) in
    let some : 0 < c.in-Ok.n = omega (arith, c.in-Ok.n-test) in
    receives_as source last start given' r' c.came-in-Some.result.receiver end' c.came-in-Some.result.end
    (Faulty c.in-Some.fault) c.came-in-Some.result.ending
    (receives_fault c.loop-turn.turn source mid start given c.loop-turn.receiver c.loop-turn.end
    c.loop-turn.invariant.coming last c.read.new.buffer c.in-Ok.n c.in-Ok.ensures some given' r' end' c.take.ensures
    (λ start stream h. c.end-end-in-loop-turn.ensures.delivers start given' stream h) c.in-Some.fault turns
    c.loop-turn.invariant.faultless c.in-Some.ensures)
    (told.0 ∙ c.end-end-in-loop-turn.ensures.same, told.1, told.2)

pub loop-turn-preserved : goal.loop-turn-preserved
loop-turn-preserved g c =
    let source = g.R.In.end c.args.reader.now in
    let mid = g.R.In.end c.loop-turn.reader in
    let last = g.R.In.end c.read.new.self in
    let start = g.E.Entrance.given c.args.into.now in
    let given = g.E.Entrance.given c.loop-turn.into in
    let given' = g.E.Entrance.given c.take.new.into in
    let end' = c.end-end-in-loop-turn.result in
    let some : 0 < c.in-Ok.n = omega (arith, c.in-Ok.n-test) in
    record {
      coming = subst (λ (x : Received). Coming (c.loop-turn.turn + 1) source last start given' x end')
          (sym c.end-end-in-loop-turn.ensures.same)
          (coming_more c.loop-turn.turn source mid start given c.loop-turn.receiver c.loop-turn.end
          c.loop-turn.invariant.coming last c.read.new.buffer c.in-Ok.n c.in-Ok.ensures some given' c.take.new.self
          end' c.take.ensures (λ start stream h. c.end-end-in-loop-turn.ensures.delivers start given' stream h));
      faultless = sym c.in_default.ensures;
    }

pub returns : goal.returns
returns g c =
    let coming = c.loop-turn.invariant.coming in
    let source = g.R.In.end c.args.reader.now in
    let mid = g.R.In.end c.loop-turn.reader in
    let start = g.E.Entrance.given c.args.into.now in
    let given = g.E.Entrance.given c.loop-turn.into in
    let turns : c.loop-turn.turn ≡ 2 ^ 40 = grind (
      arith,
      nat_tests,
      c.loop-turn-test.false,
      c.loop-turn.auto.turn-end,
    ) in
    receives_as source mid start given c.loop-turn.receiver c.came-2.result.receiver c.loop-turn.end
    c.came-2.result.end Unended c.came-2.result.ending
    (receives_by c.loop-turn.turn source mid start given c.loop-turn.receiver c.loop-turn.end coming
    c.loop-turn.invariant.faultless Unended mid
    (stops_unended c.loop-turn.turn source mid coming.input coming.read turns) refl) c.came-2.ensures
