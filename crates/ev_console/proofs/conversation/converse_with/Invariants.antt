use Rattle.std.proofs.Common.{◌≡◌}
use Rattle.ev_console.proofs.Talking.{Goes}
use Rattle.ev_console.proofs.conversation.converse_with.Given as goal

abbrev pub invariant-loop-turn : goal.invariant-loop-turn
invariant-loop-turn g l = record {
  goes : Goes l.turn (g.O.Operated.count l.initial.operated) (g.I.In.end l.initial.reader) (g.I.In.end l.reader)
      l.line.items (g.O.Operated.asked l.initial.operated) (g.O.Operated.asked l.operated)
      (g.W.Out.end l.initial.out) (g.W.Out.end l.out);
  count : g.O.Operated.count l.operated ≡ g.O.Operated.count l.initial.operated;
}
