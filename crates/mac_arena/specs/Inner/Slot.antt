-- The content of a node's slot, and its change at each step.
use Rattle.std.specs.Prelude.{ℕ, Bool, true, false, Option, Some, None}
use Rattle.mac_arena.specs.declared.station.Learned.{Learned}
use Rattle.mac_arena.specs.Entry.{pinned_at, heard_at}

-- a station, if the slot is taken
abbrev pub learned_in : Bool → Learned → Option Learned
learned_in false x = None
learned_in true x = Some x

-- heard on the port where it is
abbrev pub heard_on : ℕ → Learned → Learned
heard_on second x = record { station = x.station; entry = heard_at x.entry.port second }

-- pinned on the port where it is
abbrev pub held_on : Learned → Learned
held_on x = record { station = x.station; entry = pinned_at x.entry.port }

-- on another port
abbrev pub shifted_to : ℕ → Learned → Learned
shifted_to port x = record { station = x.station; entry = record x.entry { port = port } }
