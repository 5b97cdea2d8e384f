use Rattle.std.proofs.Common.{ℕ, ◌<◌, ◌^◌, take, length, length-take-le, Ok, refl, ap, subst, ◌≡◌, arith}
use Rattle.std.proofs.lemmas.Bool.Decides.{nat_tests}
use Rattle.ether_wire.specs.Ends.{Gets}
use Rattle.route_wire.specs.Stream.{whole_up_to}
use Rattle.ev_report.specs.declared.ending.Ending.TheVariants.{Ended, Failed, Unended}
use Rattle.ev_report.specs.Inner.Progressing.{State, state}
use Rattle.ev_report.proofs.Gathering.{stops_ended, stops_failed, stops_faulty, stops_unended}
use Rattle.ev_report.proofs.Inputs.{reads_none, reads_more, input_by, input_faulty}
use Rattle.ev_report.proofs.stream.Intake.take_input.Goals as goal

pub loop-turn-init : goal.loop-turn-init
loop-turn-init g c = record {
  taken = reads_none (g.R.In.end c.args.reader.now) (state c.args.self.now (g.N.Out.end c.args.notes.now));
  feed = ap (whole_up_to c.args.self.now.feed.newest) c.requires.feed;
  few = omega (arith, c.requires.count);
}

pub returns-in-Ok-eq0-clause-taken : goal.returns-in-Ok-eq0-clause-taken
returns-in-Ok-eq0-clause-taken g c =
    let inv = c.loop-turn.invariant in
    let mid = g.R.In.end c.loop-turn.reader in
    let last = g.R.In.end c.read.new.self in
    let s : State = state c.args.self.now (g.N.Out.end c.args.notes.now) in
    let t : State = state c.loop-turn.self (g.N.Out.end c.loop-turn.notes) in
    let turns : c.loop-turn.turn < 2 ^ 40 = grind (arith, nat_tests, c.loop-turn-test.true) in
    let none : c.in-Ok-eq0.field-0 ≡ 0 = omega (arith, c.in-Ok-eq0.field-0-test) in
    let room : 0 < length c.read.new.buffer = omega (arith, c.read.auto.buffer) in
    input_by c.loop-turn.turn (g.R.In.end c.args.reader.now) mid s t inv.taken c.requires.feed inv.feed
    Ended last (stops_ended c.loop-turn.turn (g.R.In.end c.args.reader.now) mid last inv.taken.input c.read.new.buffer
    inv.taken.read turns room (subst (λ (n : ℕ). Gets mid last c.read.new.buffer (Ok n)) none c.in-Ok-eq0.ensures)) refl

pub returns-in-Err-clause-taken : goal.returns-in-Err-clause-taken
returns-in-Err-clause-taken g c =
    let inv = c.loop-turn.invariant in
    let mid = g.R.In.end c.loop-turn.reader in
    let last = g.R.In.end c.read.new.self in
    let s : State = state c.args.self.now (g.N.Out.end c.args.notes.now) in
    let t : State = state c.loop-turn.self (g.N.Out.end c.loop-turn.notes) in
    let turns : c.loop-turn.turn < 2 ^ 40 = grind (arith, nat_tests, c.loop-turn-test.true) in
    input_by c.loop-turn.turn (g.R.In.end c.args.reader.now) mid s t inv.taken c.requires.feed inv.feed
    Failed last (stops_failed c.loop-turn.turn (g.R.In.end c.args.reader.now) mid last inv.taken.input c.read.new.buffer
    inv.taken.read c.in-Err.field-0 turns c.in-Err.ensures) refl

pub returns-in-Err-piece-clause-taken : goal.returns-in-Err-piece-clause-taken
returns-in-Err-piece-clause-taken g c =
    let inv = c.loop-turn.invariant in
    let mid = g.R.In.end c.loop-turn.reader in
    let last = g.R.In.end c.read.new.self in
    let s : State = state c.args.self.now (g.N.Out.end c.args.notes.now) in
    let t : State = state c.loop-turn.self (g.N.Out.end c.loop-turn.notes) in
    let u : State = state c.piece.new.self (g.N.Out.end c.piece.new.notes) in
    let turns : c.loop-turn.turn < 2 ^ 40 = grind (arith, nat_tests, c.loop-turn-test.true) in
    let some : 0 < c.in-Ok.n = omega (arith, c.in-Ok.n-test) in
    input_faulty c.loop-turn.turn (g.R.In.end c.args.reader.now) mid s t inv.taken c.requires.feed inv.feed
    last u (take c.in-Ok.n c.read.new.buffer) c.in-Err-piece.fault
    (stops_faulty c.loop-turn.turn (g.R.In.end c.args.reader.now) mid last inv.taken.input c.read.new.buffer
    inv.taken.read c.in-Ok.n c.in-Err-piece.fault turns c.in-Ok.ensures some)
    c.piece.ensures.taken c.in-Err-piece.ensures.shows

pub loop-turn-preserved : goal.loop-turn-preserved
loop-turn-preserved g c =
    let inv = c.loop-turn.invariant in
    let mid = g.R.In.end c.loop-turn.reader in
    let last = g.R.In.end c.read.new.self in
    let s : State = state c.args.self.now (g.N.Out.end c.args.notes.now) in
    let t : State = state c.loop-turn.self (g.N.Out.end c.loop-turn.notes) in
    let u : State = state c.piece.new.self (g.N.Out.end c.piece.new.notes) in
    let some : 0 < c.in-Ok.n = omega (arith, c.in-Ok.n-test) in
    record {
      taken = reads_more c.loop-turn.turn (g.R.In.end c.args.reader.now) mid s t inv.taken last u c.read.new.buffer
          c.in-Ok.n c.in-Ok.ensures some c.piece.ensures.taken;
      feed = c.in_default.ensures.shows;
      few =
          let len : length (take c.in-Ok.n c.read.new.buffer) ≡ c.in-Ok.n =
          length-take-le c.in-Ok.n c.read.new.buffer c.in-Ok.ensures.takes.fits in
          let fits = c.in-Ok.ensures.takes.fits in
          omega (arith, inv.few, c.piece.ensures.few, c.read.auto.buffer);
    }

pub returns-clause-taken : goal.returns-clause-taken
returns-clause-taken g c =
    let inv = c.loop-turn.invariant in
    let s : State = state c.args.self.now (g.N.Out.end c.args.notes.now) in
    let t : State = state c.loop-turn.self (g.N.Out.end c.loop-turn.notes) in
    let turns : c.loop-turn.turn ≡ 2 ^ 40 = grind (
      arith,
      nat_tests,
      c.loop-turn-test.false,
      c.loop-turn.auto.turn-end,
    ) in
    let mid = g.R.In.end c.loop-turn.reader in
    input_by c.loop-turn.turn (g.R.In.end c.args.reader.now) mid s t inv.taken c.requires.feed inv.feed
    Unended mid (stops_unended c.loop-turn.turn (g.R.In.end c.args.reader.now) mid inv.taken.input inv.taken.read turns)
    refl
