use Rattle.std.proofs.Common.{◌≡◌}
use Rattle.std.specs.Prelude.{slice_get}
use Rattle.idx_links.specs.Links.{list_at}
use Rattle.mac_arena.proofs.Tables.{IsPassed}
use Rattle.mac_arena.proofs.table.MacTable.find.Given as goal

abbrev pub invariant-loop : goal.invariant-loop
invariant-loop l = record {
  at : l.at ≡ slice_get (list_at l.self-inside.orders.chains l.bucket) l.counter;
  passed : IsPassed l.self-inside.slots.items (list_at l.self-inside.orders.chains l.bucket) l.key l.counter;
}
