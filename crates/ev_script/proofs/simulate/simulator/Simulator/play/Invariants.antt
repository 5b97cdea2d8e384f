use Rattle.std.proofs.Common.{◌+◌, ◌≤◌, length}
use Rattle.ev_script.specs.Inner.Playing.{Played}
use Rattle.ev_script.proofs.simulate.simulator.Simulator.play.Given as goal

abbrev pub invariant-lines : goal.invariant-lines
invariant-lines g l = record {
  played : Played l.mode l.script l.rest l.initial.self l.self l.number (g.W.Out.end l.initial.out) (g.W.Out.end l.out);
  few : l.number + length l.rest ≤ length l.script;
}

abbrev pub decreases-lines : goal.decreases-lines
decreases-lines g l = length l.rest
