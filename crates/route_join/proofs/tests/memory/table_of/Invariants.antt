use Rattle.std.proofs.Common.{◌≡◌}
use Rattle.route_join.proofs.tests.memory.table_of.Given as goal

abbrev pub invariant-loop-update : goal.invariant-loop-update
invariant-loop-update l = l.table.originators ≡ l.initial.table.originators
