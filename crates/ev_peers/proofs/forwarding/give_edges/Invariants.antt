use Rattle.std.proofs.Common.{◌≡◌, take}
use Rattle.ev_peers.specs.Forwarding.{to_edges}
use Rattle.ev_links.specs.Coming.{behind}
use Rattle.ev_peers.proofs.forwarding.give_edges.Given as goal

abbrev pub invariant-loop-edge : goal.invariant-loop-edge
invariant-loop-edge g l = record {
  parcels : g.O.Outlet.parcels l.outlet ≡ behind (g.O.Outlet.parcels l.initial.outlet)
      (to_edges l.datagram (take l.edge-index l.edges));
  records : g.O.Outlet.records l.outlet ≡ g.O.Outlet.records l.initial.outlet;
}
