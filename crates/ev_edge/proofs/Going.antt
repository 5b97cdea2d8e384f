-- The bridge's answer to an event is part of the edge's answer.
use Rattle.std.proofs.Common.{◌≡◌, ℕ, Bool, List}
use Rattle.bpdu_wire.specs.declared.bpdu.Bpdu.{Bpdu}
use Rattle.rstp_run.specs.declared.event.Event.{Event}
use Rattle.rstp_run.specs.Events.{Happens, firings_at, sent_from}
use Rattle.rstp_run.specs.Rules.{Tree}
use Rattle.ev_edge.specs.Bridging.{BridgeGoes}

pub goes_by : (event : Event) (old new : Tree) (settled : Bool) (flush : ℕ) (sent : List (ℕ × Bpdu))
    → Happens event (firings_at old) old new settled flush → sent ≡ sent_from 1 new.ports
    → BridgeGoes event old new flush sent
goes_by event old new settled flush sent happens slots = record { settled = settled; happens = happens; slots = slots }
