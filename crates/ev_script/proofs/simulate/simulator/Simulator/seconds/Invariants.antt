use Rattle.ev_script.specs.Script.{second}
use Rattle.ev_script.specs.Inner.Playing.{Performs}
use Rattle.ev_script.proofs.simulate.simulator.Simulator.seconds.Given as goal

abbrev pub invariant-loop-turn : goal.invariant-loop-turn
invariant-loop-turn g l =
    Performs l.edge (second l.turn) l.initial.self l.self (g.W.Out.end l.initial.out) (g.W.Out.end l.out)
