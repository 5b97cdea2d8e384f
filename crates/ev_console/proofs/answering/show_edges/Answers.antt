use Rattle.std.proofs.Common.{◌∙◌, arith}
use Rattle.ev_console.proofs.Doing.{showing_more, shows_all, shows_unwritten}
use Rattle.ev_console.proofs.answering.show_edges.Goals as goal

pub loop-place-preserved : goal.loop-place-preserved
loop-place-preserved g c = record {
  showing = showing_more c.loop-place.place (g.O.Operated.asked c.args.operated.now)
      (g.O.Operated.asked c.loop-place.operated) (g.W.Out.end c.args.out.now) (g.W.Out.end c.loop-place.out)
      c.loop-place.is_told c.loop-place.invariant.showing c.served-answer.result
      (g.O.Operated.asked c.served-answer.new.self) (g.W.Out.end c.tell_served-is_told.new.out)
      c.tell_served-is_told.result c.served-answer.ensures.asked c.tell_served-is_told.ensures;
  count = c.served-answer.ensures.count ∙ c.loop-place.invariant.count;
}

pub returns-else-is_told-clause-does : goal.returns-else-is_told-clause-does
returns-else-is_told-clause-does g c =
    shows_unwritten c.loop-place.place (g.O.Operated.asked c.args.operated.now)
    (g.O.Operated.asked c.loop-place.operated) (g.W.Out.end c.args.out.now) (g.W.Out.end c.loop-place.out)
    c.loop-place.is_told c.loop-place.invariant.showing (g.O.Operated.count c.args.operated.now) _
    (omega (arith, c.loop-place.auto.place-end, c.loop-place-test.false, c.edges-place-end.ensures)) c.if-is_told.false

pub returns-then-is_told-clause-does : goal.returns-then-is_told-clause-does
returns-then-is_told-clause-does g c =
    shows_all c.loop-place.place (g.O.Operated.asked c.args.operated.now)
    (g.O.Operated.asked c.loop-place.operated) (g.W.Out.end c.args.out.now) (g.W.Out.end c.loop-place.out)
    c.loop-place.is_told c.loop-place.invariant.showing (g.O.Operated.count c.args.operated.now) _
    (omega (arith, c.loop-place.auto.place-end, c.loop-place-test.false, c.edges-place-end.ensures)) c.if-is_told.true
