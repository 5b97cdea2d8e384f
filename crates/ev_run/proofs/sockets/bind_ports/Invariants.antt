use Rattle.std.proofs.Common.{◌≡◌, ◌≤◌, false, map, take, length, vec_len, vec_capacity}
use Rattle.ev_run.specs.Sockets.{locals_of, remotes_of, lacks_ends}
use Rattle.ev_run.specs.Inner.Sockets.{local_end, remote_end}
use Rattle.ev_run.proofs.sockets.bind_ports.Given as goal

abbrev pub invariant-loop-link : goal.invariant-loop-link
invariant-loop-link g l = record {
  ports : vec_len l.ports ≡ l.link-index;
  room : length l.links ≤ vec_capacity l.ports;
  bound : map local_end l.ports.items ≡ locals_of (take l.link-index l.links);
  remotes : map remote_end l.ports.items ≡ remotes_of (take l.link-index l.links);
  whole : lacks_ends (take l.link-index l.links) ≡ false;
}
