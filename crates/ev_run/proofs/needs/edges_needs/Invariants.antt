use Rattle.std.proofs.Common.{◌≡◌, take, fold}
use Rattle.ev_run.specs.Needs.{with_edge, alone}
use Rattle.ev_run.proofs.needs.edges_needs.Given as goal

abbrev pub invariant-loop-edge : goal.invariant-loop-edge
invariant-loop-edge l = l.needs ≡ fold with_edge alone (take l.edge-index l.edges)
