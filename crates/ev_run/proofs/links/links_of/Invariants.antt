use Rattle.std.proofs.Common.{◌≡◌, ◌≤◌, map, take, vec_len, vec_capacity}
use Rattle.ev_links.specs.WireOut.{destination_of}
use Rattle.ev_run.specs.Inner.Sockets.{to_remote, devices_of, own_devices}
use Rattle.ev_run.proofs.links.links_of.Given as goal

abbrev pub invariant-loop-cable : goal.invariant-loop-cable
invariant-loop-cable g l = record {
  ports : vec_len l.ports ≡ l.cable-index;
  room : vec_len l.sockets.ports ≤ vec_capacity l.ports;
  remotes : map (λ link. destination_of link.output) l.ports.items
      ≡ map to_remote (take l.cable-index l.sockets.ports.items);
  devices : map devices_of l.ports.items ≡ map own_devices (take l.cable-index l.sockets.ports.items);
}
