use Rattle.std.proofs.Common.{◌≡◌, length}
use Rattle.ev_claims.specs.Leaving.{after_ageing, due_in}
use Rattle.ev_claims.proofs.local_routes.LocalRoutes.age.Given as goal

abbrev pub invariant-loop-station : goal.invariant-loop-station
invariant-loop-station l = after_ageing l.self l.limit ≡ after_ageing l.initial.self l.limit

abbrev pub decreases-loop-station : goal.decreases-loop-station
decreases-loop-station l = length (due_in l.self.learned l.limit)
