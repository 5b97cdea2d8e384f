use Rattle.std.proofs.Common.{◌≡◌}
use Rattle.ether_wire.specs.Ends.{with_text}
use Rattle.route_join.specs.Table.{entries_of}
use Rattle.route_join.specs.Inner.Lines.{register_lines, HaveText}
use Rattle.route_join.proofs.report.put_updates.Given as goal

-- the written text, followed by the text still to be written, is the whole text
abbrev pub invariant-loop-update : goal.invariant-loop-update
invariant-loop-update g l = record {
  whole : with_text (g.O.Out.end l.initial.out) (register_lines (entries_of l.fn.updates))
      ≡ with_text (g.O.Out.end l.out) (register_lines (entries_of l.update-iterator));
  text : HaveText l.subject (entries_of l.update-iterator);
  failed : (g.O.Out.end l.out).failures ≡ (g.O.Out.end l.initial.out).failures;
}
