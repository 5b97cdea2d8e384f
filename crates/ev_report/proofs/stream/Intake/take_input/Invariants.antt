use Rattle.std.proofs.Common.{◌≡◌, ◌*◌, ◌≤◌}
use Rattle.route_wire.specs.declared.stream.Whole.TheVariants.{Rest}
use Rattle.route_wire.specs.Feed.{shown}
use Rattle.ev_report.specs.Inner.Progressing.{state}
use Rattle.ev_report.proofs.Inputs.{TakesReads}
use Rattle.ev_report.proofs.stream.Intake.take_input.Given as goal

abbrev pub invariant-loop-turn : goal.invariant-loop-turn
invariant-loop-turn g l = record {
  taken : TakesReads l.turn (g.R.In.end l.initial.reader) (g.R.In.end l.reader)
      (state l.initial.self (g.N.Out.end l.initial.notes)) (state l.self (g.N.Out.end l.notes));
  feed : shown l.self.feed ≡ Rest;
  few : l.self.count ≤ l.turn * 16384;
}
