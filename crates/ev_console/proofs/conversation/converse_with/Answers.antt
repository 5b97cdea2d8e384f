use Rattle.std.proofs.Common.{◌<◌, ℕ, List, [], take, length, Ok, Err, refl, subst, ◌∙◌, arith}
use Rattle.std.proofs.lemmas.Bool.Decides.{nat_tests}
use Rattle.ether_wire.specs.Ends.{Gets}
use Rattle.ev_console.specs.Inner.Conversation.{TakesOctets, TakesEnd}
use Rattle.ev_console.proofs.Talking.{goes_none, goes_more, goes_unwritten, goes_end, goes_unread, goes_on}
use Rattle.ev_console.proofs.conversation.converse_with.Goals as goal

pub loop-turn-init : goal.loop-turn-init
loop-turn-init g c = record {
  goes = goes_none (g.O.Operated.count c.args.operated.now) (g.I.In.end c.args.reader.now) c.new-line.result.items
      (g.O.Operated.asked c.args.operated.now) (g.W.Out.end c.args.out.now) c.new-line.ensures;
  count = refl;
}

pub returns-in-Err : goal.returns-in-Err
returns-in-Err g c =
    goes_unread c.loop-turn.turn (g.O.Operated.count c.args.operated.now) (g.I.In.end c.args.reader.now)
    (g.I.In.end c.loop-turn.reader) (g.I.In.end c.read.new.self) c.loop-turn.line.items c.read.new.buffer
    (g.O.Operated.asked c.args.operated.now) (g.O.Operated.asked c.loop-turn.operated) (g.W.Out.end c.args.out.now)
    (g.W.Out.end c.loop-turn.out) c.loop-turn.invariant.goes c.in-Err.device c.in-Err.ensures

pub returns-then-n-eq0 : goal.returns-then-n-eq0
returns-then-n-eq0 g c =
    let mid = g.I.In.end c.loop-turn.reader in
    let last = g.I.In.end c.read.new.self in
    let buffer = c.read.new.buffer in
    let middle = g.O.Operated.asked c.loop-turn.operated in
    let after = g.O.Operated.asked c.take_end.new.operated in
    let e = g.W.Out.end c.loop-turn.out in
    let new = g.W.Out.end c.take_end.new.out in
    let r = c.take_end.result in
    let room : 0 < length buffer = grind arith in
    goes_end c.loop-turn.turn (g.O.Operated.count c.args.operated.now) (g.I.In.end c.args.reader.now) mid last
    c.loop-turn.line.items buffer (g.O.Operated.asked c.args.operated.now) middle (g.W.Out.end c.args.out.now) e
    c.loop-turn.invariant.goes after new r c.loop-turn-test.true room
    (subst (λ (n : ℕ). Gets mid last buffer (Ok n)) c.if-n-eq0.true c.in-Ok.ensures)
    (subst (λ (n : ℕ). TakesEnd n c.loop-turn.line.items middle after e new r) c.loop-turn.invariant.count
    (subst (λ (l : List ℕ). TakesEnd (g.O.Operated.count c.loop-turn.operated) l middle after e new r)
    c.as_slice.ensures.value c.take_end.ensures))

pub returns-in-Err-take_piece : goal.returns-in-Err-take_piece
returns-in-Err-take_piece g c =
    let mid = g.I.In.end c.loop-turn.reader in
    let last = g.I.In.end c.read.new.self in
    let buffer = c.read.new.buffer in
    let held = c.loop-turn.line.items in
    let held' = c.take_piece.new.line.items in
    let middle = g.O.Operated.asked c.loop-turn.operated in
    let after = g.O.Operated.asked c.take_piece.new.operated in
    let e = g.W.Out.end c.loop-turn.out in
    let new = g.W.Out.end c.take_piece.new.out in
    let n = c.in-Ok.n in
    let device = c.in-Err-take_piece.device in
    let some : 0 < n = grind (arith, nat_tests) in
    goes_unwritten c.loop-turn.turn (g.O.Operated.count c.args.operated.now) (g.I.In.end c.args.reader.now) mid last
    held buffer (g.O.Operated.asked c.args.operated.now) middle (g.W.Out.end c.args.out.now) e
    c.loop-turn.invariant.goes n c.in-Ok.ensures held' after new device some
    (subst (λ (m : ℕ). TakesOctets m (take n buffer) held held' middle after e new (Err device))
    c.loop-turn.invariant.count c.in-Err-take_piece.ensures.takes)

pub loop-turn-preserved : goal.loop-turn-preserved
loop-turn-preserved g c =
    let mid = g.I.In.end c.loop-turn.reader in
    let last = g.I.In.end c.read.new.self in
    let buffer = c.read.new.buffer in
    let held = c.loop-turn.line.items in
    let held' = c.take_piece.new.line.items in
    let middle = g.O.Operated.asked c.loop-turn.operated in
    let after = g.O.Operated.asked c.take_piece.new.operated in
    let e = g.W.Out.end c.loop-turn.out in
    let new = g.W.Out.end c.take_piece.new.out in
    let n = c.in-Ok.n in
    let some : 0 < n = grind (arith, nat_tests) in
    record {
      goes = goes_more c.loop-turn.turn (g.O.Operated.count c.args.operated.now) (g.I.In.end c.args.reader.now) mid
          last held buffer (g.O.Operated.asked c.args.operated.now) middle (g.W.Out.end c.args.out.now) e
          c.loop-turn.invariant.goes n c.in-Ok.ensures held' after new tt some
          (subst (λ (m : ℕ). TakesOctets m (take n buffer) held held' middle after e new (Ok tt))
          c.loop-turn.invariant.count c.in-Ok-take_piece.ensures.takes);
      count = c.in-Ok-take_piece.ensures.count ∙ c.loop-turn.invariant.count;
    }

pub returns : goal.returns
returns g c =
    goes_on c.loop-turn.turn (g.O.Operated.count c.args.operated.now) (g.I.In.end c.args.reader.now)
    (g.I.In.end c.loop-turn.reader) (g.I.In.end c.loop-turn.reader) c.loop-turn.line.items []
    (g.O.Operated.asked c.args.operated.now) (g.O.Operated.asked c.loop-turn.operated) (g.W.Out.end c.args.out.now)
    (g.W.Out.end c.loop-turn.out) c.loop-turn.invariant.goes _
    (omega (arith, c.loop-turn-test.false, c.loop-turn.auto.turn-end))
