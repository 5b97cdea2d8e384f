use Rattle.std.proofs.Common.{◌≡◌, ◌-◌}
use Rattle.ev_claims.specs.LocalRoutes.{after_removals}
use Rattle.ether_wire.specs.Ports.{ports_after}
use Rattle.ev_claims.specs.Leaving.{flushed_at, after_flush}
use Rattle.ev_claims.proofs.local_routes.LocalRoutes.flush.Given as goal

abbrev pub invariant-loop-port : goal.invariant-loop-port
invariant-loop-port l = after_removals l.self (flushed_at l.self.learned (ports_after l.ports l.after))
    ≡ after_flush l.initial.self l.ports

abbrev pub decreases-loop-port : goal.decreases-loop-port
decreases-loop-port l = 64 - l.after
