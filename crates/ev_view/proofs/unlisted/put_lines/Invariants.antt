use Rattle.std.proofs.Common.{◌≡◌, drop}
use Rattle.ether_wire.specs.Ends.{with_text}
use Rattle.ev_view.specs.Peers.{unlisted_lines}
use Rattle.ev_view.proofs.unlisted.put_lines.Given as goal

-- the rest completes the text written so far to the whole text
abbrev pub invariant-loop-originator : goal.invariant-loop-originator
invariant-loop-originator g l = record {
  whole : with_text (g.W.Out.end l.initial.out) (unlisted_lines l.number l.unlisted)
      ≡ with_text (g.W.Out.end l.out) (unlisted_lines l.number (drop l.originator-index l.unlisted));
  failed : (g.W.Out.end l.out).failures ≡ (g.W.Out.end l.initial.out).failures;
}
