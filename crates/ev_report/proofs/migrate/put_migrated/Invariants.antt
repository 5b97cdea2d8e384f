use Rattle.std.proofs.Common.{◌≡◌, drop}
use Rattle.ether_wire.specs.Ends.{with_text}
use Rattle.ev_report.specs.Migrated.{migrated_along, migrated_of, records_of}
use Rattle.ev_report.specs.Inner.Migrated.{behind}
use Rattle.ev_report.proofs.migrate.put_migrated.Given as goal

-- the rest completes the output, and the one iterator is at the end of the other's old register
abbrev pub invariant-loop-update : goal.invariant-loop-update
invariant-loop-update g l = record {
  whole : with_text (g.W.Out.end l.initial.out) (records_of (migrated_of l.fn.table))
      ≡ with_text (g.W.Out.end l.out) (records_of (migrated_along l.newest l.update-iterator));
  ahead : l.ahead ≡ drop 1 (behind l.newest l.update-iterator);
  failed : (g.W.Out.end l.out).failures ≡ (g.W.Out.end l.initial.out).failures;
}
