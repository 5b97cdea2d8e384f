use Rattle.std.proofs.Common.{◌≡◌, ℕ}
use Rattle.std.specs.Prelude.{nat_le, ◌&&◌}
use Rattle.ether_wire.specs.Ports.{has_port}
use Rattle.ev_claims.specs.LocalRoutes.{is_member}
use Rattle.ev_claims.proofs.local_routes.LocalRoutes.members.Given as goal

abbrev pub invariant-loop-place : goal.invariant-loop-place
invariant-loop-place l = (p : ℕ) → has_port l.set p ≡ (nat_le p l.place && is_member l.self.ports l.vni p)
