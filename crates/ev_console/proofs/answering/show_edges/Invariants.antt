use Rattle.std.proofs.Common.{◌≡◌}
use Rattle.ev_console.proofs.Doing.{Showing}
use Rattle.ev_console.proofs.answering.show_edges.Given as goal

abbrev pub invariant-loop-place : goal.invariant-loop-place
invariant-loop-place g l = record {
  showing : Showing l.place (g.O.Operated.asked l.initial.operated) (g.O.Operated.asked l.operated)
      (g.W.Out.end l.initial.out) (g.W.Out.end l.out) l.is_told;
  count : g.O.Operated.count l.operated ≡ g.O.Operated.count l.initial.operated;
}
