use Rattle.std.proofs.Common.{◌≡◌, [], take, Ok}
use Rattle.ev_console.specs.Inner.Conversation.{TakesOctets}
use Rattle.ev_console.proofs.conversation.take_piece.Given as goal

abbrev pub invariant-loop-octet : goal.invariant-loop-octet
invariant-loop-octet g l = record {
  takes : TakesOctets (g.O.Operated.count l.initial.operated) (take l.octet-index l.piece) l.initial.line.items
      l.line.items (g.O.Operated.asked l.initial.operated) (g.O.Operated.asked l.operated)
      (g.W.Out.end l.initial.out) (g.W.Out.end l.out) (Ok tt);
  count : g.O.Operated.count l.operated ≡ g.O.Operated.count l.initial.operated;
  flushed : g.W.Flushing.held l.initial.out ≡ [] → g.W.Flushing.held l.out ≡ [];
  failures : (g.W.Out.end l.out).failures ≡ (g.W.Out.end l.initial.out).failures;
}
