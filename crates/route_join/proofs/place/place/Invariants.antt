use Rattle.std.proofs.Common.{◌≡◌, drop}
use Rattle.route_join.specs.Inner.Place.{place_of, later_by}
use Rattle.route_join.proofs.place.place.Given as goal

abbrev pub invariant-loop-i : goal.invariant-loop-i
invariant-loop-i l = place_of l.updates l.register ≡ later_by l.i (place_of (drop l.i l.updates) l.register)
