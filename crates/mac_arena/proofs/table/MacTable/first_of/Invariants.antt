use Rattle.std.proofs.Common.{◌≡◌, drop, map}
use Rattle.std.specs.Prelude.{slice_get}
use Rattle.idx_links.specs.Links.{list_at}
use Rattle.mac_arena.specs.Learning.{first_unpinned, stations_at}
use Rattle.mac_arena.specs.Nodes.{station_in}
use Rattle.mac_arena.proofs.table.MacTable.first_of.Given as goal

abbrev pub invariant-loop : goal.invariant-loop
invariant-loop l = record {
  at : l.at ≡ slice_get (list_at l.self-inside.orders.ports l.list) l.counter;
  rest : first_unpinned l.self (stations_at l.self.ports l.list)
      ≡ first_unpinned l.self (map (station_in l.self-inside.slots.items)
      (drop l.counter (list_at l.self-inside.orders.ports l.list)));
}
