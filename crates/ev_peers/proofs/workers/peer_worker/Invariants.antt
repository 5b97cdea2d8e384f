use Rattle.std.proofs.Common.{◌≡◌, Some}
use Rattle.ev_peers.specs.Working.{standing, Takes}
use Rattle.ev_links.specs.Coming.{DoesAll}
use Rattle.ev_peers.proofs.workers.peer_worker.Given as goal

-- all messages so far were taken
abbrev pub invariant-loop : goal.invariant-loop
invariant-loop g l = record {
  took : DoesAll (Takes l.initial.worker.shared_edge.now.bridge) (Some (g.I.UpdatesIn.came l.initial.updates))
      (standing l.initial.worker.pass (g.O.Outlet.parcels l.initial.worker.outlet)
      (g.O.Outlet.records l.initial.worker.outlet)) (Some (g.I.UpdatesIn.came l.updates))
      (standing l.worker.pass (g.O.Outlet.parcels l.worker.outlet) (g.O.Outlet.records l.worker.outlet));
  stays : l.worker.shared_edge ≡ l.initial.worker.shared_edge;
}
