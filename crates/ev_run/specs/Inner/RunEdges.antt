-- The results of a run of edges over sockets.
use Rattle.std.specs.Prelude.{◌≡◌, ℕ, Bool}
use Rattle.std.specs.Prelude.{List, Contains}
use Rattle.std.specs.Prelude.{Result, Ok, Err}
use Rattle.ether_wire.specs.declared.ends.Device.{Device}
use Rattle.ether_wire.specs.Ends.{End, IsOpen, Puts}
use Rattle.ev_edge.specs.declared.config.EdgeConfig.{EdgeConfig}
use Rattle.ev_edge.specs.Config.{IsConfig}
use Rattle.ev_mailboxes.specs.Notices.{Told, lines_of}
use Rattle.ev_report.specs.Originators.{Text}
use Rattle.ev_run.specs.RunEdges.{Ended, TellsEnded}
use Rattle.ev_report.specs.declared.status.Status.{Status}

-- each of these configurations may be opened
abbrev pub EachConfig : List EdgeConfig → Type 0
EachConfig configs = (c : EdgeConfig) → Contains configs c → IsConfig c

-- alerts were written while the edges ran, a line each, the last one first in this list; or a call of the writer failed
pub record TellsMeanwhile (notes notes' : End) (told : Result (Unit {0}) Device) : Type 0 where
  pub alerts : List Told
  pub lines : Puts notes notes' (lines_of alerts) told

-- `TellsEnded` holds for any alerts that were written before
abbrev pub TellsRest : Result (Unit {0}) Device → List Ended → Text → Bool → End → End → End → End → Status → Type 0
TellsRest told ended system is_read out out' notes notes' status =
    (start : End) (alerts : List Told) → IsOpen start → Puts start notes (lines_of alerts) told
    → TellsEnded alerts ended system is_read out out' start notes' status

-- the notes after the alerts, unless a call has failed
abbrev pub PutsRest : Result (Unit {0}) Device → End → End → Text → Result (Unit {0}) Device → Type 0
PutsRest (Ok done) notes notes' text result = Puts notes notes' text result
PutsRest (Err device) notes notes' text result = (notes' ≡ notes) × (result ≡ Err device)
