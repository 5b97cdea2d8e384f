use Rattle.ev_edge.proofs.Passing.{Upto}
use Rattle.ev_edge.proofs.bridging.passing_ports.Given as goal

-- the set has the ports before this place that pass
abbrev pub invariant-loop-place : goal.invariant-loop-place
invariant-loop-place l = Upto l.bridge l.place l.set
