-- The effect of an event of the bridge on an edge (IEEE 802.1D-2004, 17.11 for flushes, and 7.9.2 for ageing).
use Rattle.std.specs.Prelude.{◌≡◌, ℕ, ◌+◌, ◌-◌, ◌^◌, ◌==◌, nat_le, Bool, List, if◌then◌else◌}
use Rattle.bpdu_wire.specs.declared.bpdu.Bpdu.{Bpdu}
use Rattle.rstp_run.specs.declared.event.Event.{Event}
use Rattle.rstp_run.specs.Events.{Happens, firings_at, sent_from}
use Rattle.rstp_run.specs.Rules.{Tree}
use Rattle.ev_claims.specs.LocalRoutes.{LocalRoutes}
use Rattle.ev_claims.specs.Leaving.{after_ageing, after_flush}
use Rattle.ev_edge.specs.Edge.{Edge}

-- The bridge takes the event and fires rules until it is settled, or has fired as often as it may, and these messages
-- are in its slots; `flush` are the ports that it flushes. `happens` states that it is settled exactly if no rule is
-- enabled.
pub record BridgeGoes (event : Event) (old new : Tree) (flush : ℕ) (sent : List (ℕ × Bpdu)) : Type 0 where
  pub settled : Bool
  pub happens : Happens event (firings_at old) old new settled flush
  pub slots : sent ≡ sent_from 1 new.ports

-- the unpinned stations behind flushed ports go
abbrev pub after_bridge : Edge → Tree → ℕ → Edge
after_bridge e tree flush = record e { tree = tree; routes = after_flush e.routes flush }

-- the clock counts up to 2^63
abbrev pub next_second : ℕ → ℕ
next_second clock = if clock == 2 ^ 63 then clock else clock + 1

-- stations whose last frame is this number of seconds old, or older, are removed
abbrev pub aged : LocalRoutes → ℕ → ℕ → LocalRoutes
aged c ageing clock = if nat_le ageing clock then after_ageing c (clock - ageing) else c

-- a second passes: the unpinned stations behind flushed ports go first, then those that are due
abbrev pub after_second : Edge → Tree → ℕ → Edge
after_second e tree flush = record e {
  clock = next_second e.clock;
  tree = tree;
  routes = aged (after_flush e.routes flush) e.ageing (next_second e.clock);
}
