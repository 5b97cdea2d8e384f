use Rattle.std.proofs.Common.{◌≡◌, ◌-◌}
use Rattle.ether_wire.specs.Ports.{ports_after, ports_of}
use Rattle.ev_peers.specs.Forwarding.{to_ports}
use Rattle.ev_links.specs.Coming.{behind}
use Rattle.ev_peers.proofs.forwarding.give_ports.Given as goal

-- the frames passed on so far, followed by those that are left, are all frames to be passed on
abbrev pub invariant-loop-next : goal.invariant-loop-next
invariant-loop-next g l = record {
  parcels : behind (g.O.Outlet.parcels l.outlet) (to_ports l.frame (ports_after l.ports l.port))
      ≡ behind (g.O.Outlet.parcels l.initial.outlet) (to_ports l.frame (ports_of l.ports));
  records : g.O.Outlet.records l.outlet ≡ g.O.Outlet.records l.initial.outlet;
}

abbrev pub decreases-loop-next : goal.decreases-loop-next
decreases-loop-next g l = 64 - l.port
