-- The entry of a station.
use Rattle.std.specs.Prelude.{ℕ, true, false}
use Rattle.mac_arena.specs.declared.station.Entry.{Entry}

-- pinned on a port; its second is 0
abbrev pub pinned_at : ℕ → Entry
pinned_at port = record { port = port; last = 0; pinned = true }

-- heard on a port
abbrev pub heard_at : ℕ → ℕ → Entry
heard_at port second = record { port = port; last = second; pinned = false }
