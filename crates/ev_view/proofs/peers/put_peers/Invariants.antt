use Rattle.std.proofs.Common.{◌≡◌, drop}
use Rattle.ether_wire.specs.Ends.{with_text}
use Rattle.ev_view.specs.Peers.{lines_of}
use Rattle.ev_view.proofs.peers.put_peers.Given as goal

-- the rest completes the text written so far to the whole text
abbrev pub invariant-loop-originator : goal.invariant-loop-originator
invariant-loop-originator g l = record {
  whole : with_text (g.W.Out.end l.initial.out) (lines_of l.number l.edge l.originator-items)
      ≡ with_text (g.W.Out.end l.out) (lines_of l.number l.edge (drop l.originator-index l.originator-items));
  failed : (g.W.Out.end l.out).failures ≡ (g.W.Out.end l.initial.out).failures;
}
