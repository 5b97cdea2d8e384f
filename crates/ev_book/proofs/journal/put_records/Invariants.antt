use Rattle.std.proofs.Common.{◌≡◌, take}
use Rattle.ether_wire.specs.Ends.{with_text}
use Rattle.ev_book.proofs.Again.{ReadAgain}
use Rattle.ev_book.proofs.journal.put_records.Given as goal
use Rattle.route_wire.specs.Records.{records_of}

abbrev pub invariant-loop-update : goal.invariant-loop-update
invariant-loop-update g l = record {
  written : g.W.Out.end l.out ≡ with_text (g.W.Out.end l.initial.out) (records_of (take l.update-index l.updates));
  failed : (g.W.Out.end l.out).failures ≡ (g.W.Out.end l.initial.out).failures;
  again : ReadAgain (take l.update-index l.updates);
}
