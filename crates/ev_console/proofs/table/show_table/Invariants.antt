use Rattle.std.proofs.Common.{◌≡◌}
use Rattle.ev_console.proofs.Paging.{Paging}
use Rattle.ev_console.proofs.table.show_table.Given as goal

abbrev pub invariant-loop-turn : goal.invariant-loop-turn
invariant-loop-turn g l = record {
  paging : Paging l.edge l.turn (g.O.Operated.asked l.initial.operated) (g.O.Operated.asked l.operated)
      (g.W.Out.end l.initial.out) (g.W.Out.end l.out) l.is_told l.after l.report;
  count : g.O.Operated.count l.operated ≡ g.O.Operated.count l.initial.operated;
}
