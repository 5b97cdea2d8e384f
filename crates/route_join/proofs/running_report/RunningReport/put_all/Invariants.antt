use Rattle.std.proofs.Common.{◌≡◌, drop}
use Rattle.ether_wire.specs.Ends.{with_text}
use Rattle.route_join.specs.Table.{entries_of}
use Rattle.route_join.specs.RunningReport.{texts_with, begun_by}
use Rattle.route_join.proofs.running_report.RunningReport.put_all.Given as goal

-- the written text, followed by the text still to be written, is the whole text
abbrev pub invariant-loop-update : goal.invariant-loop-update
invariant-loop-update g l = record {
  whole : with_text (g.O.Out.end l.initial.out) (texts_with l.initial.self (entries_of l.updates))
      ≡ with_text (g.O.Out.end l.out) (texts_with l.self (entries_of (drop l.update-index l.updates)));
  begun : begun_by l.initial.self (entries_of l.updates)
      ≡ begun_by l.self (entries_of (drop l.update-index l.updates));
  failed : (g.O.Out.end l.out).failures ≡ (g.O.Out.end l.initial.out).failures;
}
