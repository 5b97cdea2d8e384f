-- Writers to which nothing was written.
use Rattle.std.specs.Prelude.{◌≡◌, ◌||◌, true, false, []}
use Rattle.ether_wire.specs.Ends.{End}
use Rattle.ev_report.specs.Notes.{status_of}
use Rattle.ev_report.specs.Ends.{has_failed, Holds}
use Rattle.ev_report.specs.declared.status.Status.{Status}

-- nothing was written, unless a call failed
pub record IsSilent (out out' notes notes' : End) : Type 0 where
  pub out_kept : Holds out out' []
  pub notes_kept : Holds notes notes' []

-- memory was refused before anything was run
abbrev pub IsRefusedMemory : End → End → End → End → Status → Type 0
IsRefusedMemory out out' notes notes' status = IsSilent out out' notes notes'
    × (status ≡ status_of (has_failed out out' || has_failed notes notes') true false)
