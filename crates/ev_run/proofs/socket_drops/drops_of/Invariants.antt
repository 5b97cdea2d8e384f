use Rattle.std.proofs.Common.{◌≡◌, ◌≤◌, ◌+◌, ◌∷◌, ◌++◌, length, map, option_map, drop, vec_len, vec_capacity}
use Rattle.ev_run.specs.LinkEnds.{Udp}
use Rattle.ev_run.specs.Inner.Sockets.{local_end}
use Rattle.ev_run.specs.Inner.SystemDrops.{drops_at}
use Rattle.ev_run.proofs.socket_drops.drops_of.Given as goal

abbrev pub invariant-loop-cable : goal.invariant-loop-cable
invariant-loop-cable l = record {
  len : vec_len l.drops ≡ l.cable-index + 1;
  room : length l.ports + 1 ≤ vec_capacity l.drops;
  drops : l.drops.items ++ map (drops_at (option_map (λ text. text.items) l.table))
      (map local_end (drop l.cable-index l.ports))
      ≡ map (drops_at (option_map (λ text. text.items) l.table))
      (Udp l.sockets.at ∷ map local_end l.sockets.ports.items);
}
