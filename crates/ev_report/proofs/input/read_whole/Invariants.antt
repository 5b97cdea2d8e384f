use Rattle.ev_report.specs.Input.{Gathers}
use Rattle.ev_report.proofs.input.read_whole.Given as goal

abbrev pub invariant-loop-turn : goal.invariant-loop-turn
invariant-loop-turn g l = Gathers l.turn (g.R.In.end l.initial.reader) (g.R.In.end l.reader) l.input.items
