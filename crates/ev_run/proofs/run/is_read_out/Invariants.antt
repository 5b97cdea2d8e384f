use Rattle.ev_run.proofs.Running.{Drains}
use Rattle.ev_run.proofs.run.is_read_out.Given as goal

abbrev pub invariant-loop-turn : goal.invariant-loop-turn
invariant-loop-turn g l = Drains l.turn (g.E.In.end l.initial.reader) (g.E.In.end l.reader)
