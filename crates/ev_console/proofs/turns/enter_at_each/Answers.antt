use Rattle.std.proofs.Common.{◌+◌, Bool, refl, sym, subst, ◌∙◌}
use Rattle.ev_console.specs.Turns.{EntersAtEach}
use Rattle.ev_console.proofs.Turning.{entering_none, entering_more}
use Rattle.ev_console.proofs.turns.enter_at_each.Goals as goal

pub loop-place-init : goal.loop-place-init
loop-place-init g c = record {
  entered = entering_none c.args.step.now (g.O.Operated.asked c.args.operated.now);
  count = refl;
}

pub loop-place-preserved : goal.loop-place-preserved
loop-place-preserved g c = record {
  entered = subst (λ (b : Bool). EntersAtEach (c.loop-place.place + 1) c.args.step.now
      (g.O.Operated.asked c.args.operated.now) (g.O.Operated.asked c.enter-answer.new.self) b)
      (sym c.are_taken-is_taken.ensures)
      (entering_more c.loop-place.place c.args.step.now (g.O.Operated.asked c.args.operated.now)
      (g.O.Operated.asked c.loop-place.operated) (g.O.Operated.asked c.enter-answer.new.self) c.loop-place.is_taken
      c.enter-answer.result c.loop-place.invariant.entered c.enter-answer.ensures.asked);
  count = c.enter-answer.ensures.count ∙ c.loop-place.invariant.count;
}
