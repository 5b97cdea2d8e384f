use Rattle.std.proofs.Common.{rules}
use Rattle.ev_peers.proofs.PassingOn.{goes_on, none_left}
use Rattle.ev_peers.proofs.worker.Worker.announce.Goals as goal

pub loop-preserved : goal.loop-preserved
loop-preserved g c = record {
  so_far = goes_on c.args.self.now.pass (g.O.Outlet.records c.args.self.now.outlet) c.loop.self.pass
      (g.O.Outlet.records c.loop.self.outlet) c.has_room.result (g.O.Outlet.records c.has_room.new.self)
      c.in-Some-ask.update c.ask.new.pass (g.O.Outlet.records c.record.new.self) c.loop.invariant.so_far
      c.has_room.ensures.told (search rules) c.in-Some-ask.ensures c.record.ensures.given;
  parcels = search rules;
  stays = search rules;
}

pub returns-in_default-clause-announces : goal.returns-in_default-clause-announces
returns-in_default-clause-announces g c = none_left c.args.self.now.pass (g.O.Outlet.records c.args.self.now.outlet)
    c.loop.self.pass (g.O.Outlet.records c.loop.self.outlet) c.has_room.result c.ask.new.pass
    (g.O.Outlet.records c.has_room.new.self) c.loop.invariant.so_far c.has_room.ensures.told (search rules)
    c.in_default.ensures
