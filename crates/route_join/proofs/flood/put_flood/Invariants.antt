use Rattle.std.proofs.Common.{◌≡◌, ◌++◌}
use Rattle.route_join.specs.Table.{entries_of}
use Rattle.route_join.specs.Flood.{flooding}
use Rattle.route_join.proofs.flood.put_flood.Given as goal

abbrev pub invariant-loop-update : goal.invariant-loop-update
invariant-loop-update l = flooding l.vni (entries_of l.fn.updates) ≡ l.flood.items
    ++ flooding l.vni (entries_of l.update-iterator)
