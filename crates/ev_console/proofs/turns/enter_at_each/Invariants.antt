use Rattle.std.proofs.Common.{◌≡◌}
use Rattle.ev_console.specs.Turns.{EntersAtEach}
use Rattle.ev_console.proofs.turns.enter_at_each.Given as goal

abbrev pub invariant-loop-place : goal.invariant-loop-place
invariant-loop-place g l = record {
  entered : EntersAtEach l.place l.step (g.O.Operated.asked l.initial.operated) (g.O.Operated.asked l.operated)
      l.is_taken;
  count : g.O.Operated.count l.operated ≡ g.O.Operated.count l.initial.operated;
}
