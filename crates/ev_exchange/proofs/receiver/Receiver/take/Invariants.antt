use Rattle.std.proofs.Common.{length}
use Rattle.ev_report.proofs.Fronts.{Front}
use Rattle.ev_exchange.proofs.Receiving.{Took}
use Rattle.ev_exchange.proofs.receiver.Receiver.take.Given as goal

abbrev pub invariant-loop-rest : goal.invariant-loop-rest
invariant-loop-rest g l = Front (Took l.initial.self l.self (g.E.Entrance.given l.initial.into)
    (g.E.Entrance.given l.into)) l.fn.piece l.rest

abbrev pub decreases-loop-rest : goal.decreases-loop-rest
decreases-loop-rest g l = length l.rest
