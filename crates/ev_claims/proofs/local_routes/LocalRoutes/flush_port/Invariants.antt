use Rattle.std.proofs.Common.{◌≡◌, length}
use Rattle.ev_claims.specs.LocalRoutes.{after_removals}
use Rattle.mac_arena.specs.Laws.{unpinned_on}
use Rattle.ev_claims.specs.Inner.Leaving.{AreKept}
use Rattle.ev_claims.proofs.local_routes.LocalRoutes.flush_port.Given as goal

abbrev pub invariant-loop-station : goal.invariant-loop-station
invariant-loop-station l = record {
  same : after_removals l.self (unpinned_on l.self.learned l.port)
      ≡ after_removals l.initial.self (unpinned_on l.initial.self.learned l.port);
  others : AreKept l.initial.self.learned l.self.learned l.port;
}

abbrev pub decreases-loop-station : goal.decreases-loop-station
decreases-loop-station l = length (unpinned_on l.self.learned l.port)
