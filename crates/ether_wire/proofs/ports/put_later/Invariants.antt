use Rattle.std.proofs.Common.{◌≡◌, ◌-◌}
use Rattle.ether_wire.specs.Ends.{with_text}
use Rattle.ether_wire.specs.Ports.{ports_after, comma_text}
use Rattle.ether_wire.proofs.ports.put_later.Given as goal

-- the written text, followed by the text still to be written, is the whole text
abbrev pub invariant-loop-next : goal.invariant-loop-next
invariant-loop-next g l = record {
  same : with_text (g.O.Out.end l.out) (comma_text (ports_after l.set l.port))
      ≡ with_text (g.O.Out.end l.initial.out) (comma_text (ports_after l.set l.first));
  failures : (g.O.Out.end l.out).failures ≡ (g.O.Out.end l.initial.out).failures;
}

abbrev pub decreases-loop-next : goal.decreases-loop-next
decreases-loop-next g l = 64 - l.port
