use Rattle.std.proofs.Common.{◌≡◌}
use Rattle.route_join.proofs.tests.memory.random_table.Given as goal

abbrev pub invariant-loop-step : goal.invariant-loop-step
invariant-loop-step l = l.table.originators ≡ l.initial.table.originators
