use Rattle.std.proofs.Common.{◌≡◌, false, take}
use Rattle.ev_run.specs.Obstacles.{is_tunnel}
use Rattle.ev_run.proofs.obstacles.is_tunnel.Given as goal

abbrev pub invariant-loop-edge : goal.invariant-loop-edge
invariant-loop-edge l = is_tunnel (take l.edge-index l.edges) l.at ≡ false
