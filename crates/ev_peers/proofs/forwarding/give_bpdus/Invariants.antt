use Rattle.std.proofs.Common.{◌≡◌, map, take}
use Rattle.ev_peers.specs.Forwarding.{bpdu_parcel}
use Rattle.ev_links.specs.Coming.{behind}
use Rattle.ev_peers.proofs.forwarding.give_bpdus.Given as goal

abbrev pub invariant-loop-sent : goal.invariant-loop-sent
invariant-loop-sent g l = record {
  parcels : g.O.Outlet.parcels l.outlet ≡ behind (g.O.Outlet.parcels l.initial.outlet)
      (map (bpdu_parcel l.bridge) (take l.sent-index l.bpdus));
  records : g.O.Outlet.records l.outlet ≡ g.O.Outlet.records l.initial.outlet;
}
