use Rattle.std.proofs.Common.{◌≡◌, None}
use Rattle.ev_exchange.specs.Receiving.{fault_by}
use Rattle.ev_exchange.proofs.Readings.{Coming}
use Rattle.ev_exchange.proofs.intake.receive.Given as goal

abbrev pub invariant-loop-turn : goal.invariant-loop-turn
invariant-loop-turn g l = record {
  coming : Coming l.turn (g.R.In.end l.initial.reader) (g.R.In.end l.reader) (g.E.Entrance.given l.initial.into)
      (g.E.Entrance.given l.into) l.receiver l.end;
  faultless : fault_by l.end ≡ None;
}
