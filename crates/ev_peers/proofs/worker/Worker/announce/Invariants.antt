use Rattle.std.proofs.Common.{◌≡◌}
use Rattle.ev_peers.proofs.PassingOn.{SoFar}
use Rattle.ev_peers.proofs.worker.Worker.announce.Given as goal

abbrev pub invariant-loop : goal.invariant-loop
invariant-loop g l = record {
  so_far : SoFar l.initial.self.pass (g.O.Outlet.records l.initial.self.outlet) l.self.pass
      (g.O.Outlet.records l.self.outlet);
  parcels : g.O.Outlet.parcels l.self.outlet ≡ g.O.Outlet.parcels l.initial.self.outlet;
  stays : l.self.shared_edge ≡ l.initial.self.shared_edge;
}
