use Rattle.std.specs.Prelude.{not}
use Rattle.std.proofs.Common.{is_none, true, None, refl, sym, ap, subst, ◌∙◌, arith}
use Rattle.ev_console.proofs.Paging.{Paging, paging_none, paging_on, shows_last, shows_most}
use Rattle.ev_console.proofs.table.show_table.Goals as goal

pub loop-turn-init : goal.loop-turn-init
loop-turn-init g c = record {
  paging = subst (λ report. Paging c.args.edge 0 (g.O.Operated.asked c.args.operated.now)
      (g.O.Operated.asked c.args.operated.now) (g.W.Out.end c.args.out.now) (g.W.Out.end c.args.out.now) true None
      report) (sym c.new-report.ensures)
      (paging_none c.args.edge (g.O.Operated.asked c.args.operated.now) (g.W.Out.end c.args.out.now));
  count = refl;
}

pub loop-turn-preserved : goal.loop-turn-preserved
loop-turn-preserved g c = record {
  paging = paging_on c.args.edge c.loop-turn.turn (g.O.Operated.asked c.args.operated.now)
      (g.O.Operated.asked c.loop-turn.operated) (g.W.Out.end c.args.out.now) (g.W.Out.end c.loop-turn.out)
      c.loop-turn.is_told c.loop-turn.after c.loop-turn.report c.loop-turn.invariant.paging c.page-answer.result
      (g.O.Operated.asked c.page-answer.new.self) (g.W.Out.end c.tell_updates-is_told.new.out)
      c.tell_updates-is_told.result c.tell_updates-is_told.new.report c.next_after-after.result
      c.next_after-after.ensures.next c.next_after-after.ensures.page c.page-answer.ensures.after
      c.page-answer.ensures.asked c.tell_updates-is_told.ensures.told c.tell_updates-is_told.ensures.begun
      (ap not (c.is_none.ensures ∙ ap not c.if-is_none.false));
  count = c.page-answer.ensures.count ∙ c.loop-turn.invariant.count;
}

pub returns-then-is_none-clause-does : goal.returns-then-is_none-clause-does
returns-then-is_none-clause-does g c =
    shows_last c.args.edge c.loop-turn.turn (g.O.Operated.asked c.args.operated.now)
    (g.O.Operated.asked c.loop-turn.operated) (g.W.Out.end c.args.out.now) (g.W.Out.end c.loop-turn.out)
    c.loop-turn.is_told c.loop-turn.after c.loop-turn.report c.loop-turn.invariant.paging c.page-answer.result
    (g.O.Operated.asked c.page-answer.new.self) (g.W.Out.end c.tell_updates-is_told.new.out)
    c.tell_updates-is_told.result c.tell_updates-is_told.new.report
    c.next_after-after.ensures.page c.page-answer.ensures.after
    c.page-answer.ensures.asked c.tell_updates-is_told.ensures.told c.tell_updates-is_told.ensures.begun
    (ap is_none (sym c.next_after-after.ensures.next) ∙ ap not (c.is_none.ensures ∙ ap not c.if-is_none.true))
    (g.W.Out.end c.tell_end-is_told.new.out) c.tell_end-is_told.result c.told.result c.tell_end-is_told.ensures
    c.told.ensures

pub returns-clause-does : goal.returns-clause-does
returns-clause-does g c =
    shows_most c.args.edge c.loop-turn.turn (g.O.Operated.asked c.args.operated.now)
    (g.O.Operated.asked c.loop-turn.operated) (g.W.Out.end c.args.out.now) (g.W.Out.end c.loop-turn.out)
    c.loop-turn.is_told c.loop-turn.after c.loop-turn.report c.loop-turn.invariant.paging
    (omega (arith, c.loop-turn.auto.turn-end, c.loop-turn-test.false))
    (g.W.Out.end c.tell_end-is_told-2.new.out) c.tell_end-is_told-2.result c.told-2.result c.tell_end-is_told-2.ensures
    c.told-2.ensures
