use Rattle.std.proofs.Common.{◌≡◌, ◌+◌, ◌≤◌, length}
use Rattle.route_wire.specs.declared.stream.Whole.TheVariants.{Rest}
use Rattle.route_wire.specs.Feed.{shown}
use Rattle.ev_report.specs.Inner.Progressing.{state, TakesOctets}
use Rattle.ev_report.proofs.Fronts.{Front}
use Rattle.ev_report.proofs.stream.Intake.take_piece.Given as goal

abbrev pub invariant-loop-rest : goal.invariant-loop-rest
invariant-loop-rest g l = record {
  taken : Front (λ octets. TakesOctets octets (state l.initial.self (g.N.Out.end l.initial.notes))
      (state l.self (g.N.Out.end l.notes))) l.fn.piece l.rest;
  feed : shown l.self.feed ≡ Rest;
  few : l.self.count + length l.rest ≤ l.initial.self.count + length l.fn.piece;
}

abbrev pub decreases-loop-rest : goal.decreases-loop-rest
decreases-loop-rest g l = length l.rest
