-- The learning table as callers see it (IEEE 802.1D-2004, 7.8 and 7.9), and the effect of each call.
use Rattle.std.specs.Prelude.{ℕ, Option, Some, None, [], ◌∷◌, ◌++◌}
use Rattle.std.specs.Prelude.{map, slice_set}
use Rattle.std.specs.FinMap.{insert, remove}
use Rattle.ether_wire.specs.Ports.{place_of_port}
use Rattle.mac_arena.specs.declared.station.Station.{Station}
use Rattle.mac_arena.specs.declared.station.Entry.{Entry}
use Rattle.mac_arena.specs.declared.station.Learned.{Learned}
use Rattle.mac_arena.specs.Entry.{pinned_at, heard_at}
use Rattle.mac_arena.specs.Learning.{Learning, learned_at, left, joined_by, place_of}

abbrev pub someone : Option Learned → Learned
someone None = record { station = record { vni = 0; mac = 0 }; entry = pinned_at 0 }
someone (Some x) = x

-- the same at a place where somebody stands
abbrev pub standing : Learning → ℕ → Learned
standing t n = someone (learned_at t n)

-- a pinned one on the port is heard, and ages from then on
abbrev pub heard : Learning → Station → ℕ → ℕ → Learning
heard t s port second = record t { entries = insert t.entries s (heard_at port second); ageing = t.ageing ++ s ∷ [] }

-- it is pinned on the port where it is
abbrev pub held : Learning → Station → ℕ → Learning
held t s port = record t { entries = insert t.entries s (pinned_at port); ageing = left s t.ageing }

-- it goes to another port
abbrev pub shifted : Learning → Station → Entry → ℕ → Learning
shifted t s e port = record t {
  entries = insert t.entries s (record e { port = port });
  ports = joined_by (place_of_port port) s (map (left s) t.ports);
}

-- a pinned one leaves the table
abbrev pub dropped : Learning → Station → Learning
dropped t s = record t {
  entries = remove t.entries s;
  ports = map (left s) t.ports;
  chains = map (left s) t.chains;
  places = slice_set t.places (place_of t.places s) None;
  free = t.free ++ place_of t.places s ∷ [];
}
