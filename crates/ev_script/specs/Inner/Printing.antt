-- The text for a port that was looked at.
use Rattle.std.specs.Prelude.{ℕ, Bool, List, Result, Ok, Err}
use Rattle.rstp_state.specs.declared.port.PortState.{PortState}
use Rattle.ev_fabric.specs.declared.refusal.FabricRefusal.{FabricRefusal}
use Rattle.ev_script.specs.Printing.{refusal_text, port_text}

-- a port's state and whether frames pass there, or a refusal
abbrev pub seen_text : ℕ → ℕ → Result (PortState × Bool) FabricRefusal → List ℕ
seen_text edge number (Ok seen) = port_text edge number seen.0 seen.1
seen_text edge number (Err refusal) = refusal_text edge refusal
