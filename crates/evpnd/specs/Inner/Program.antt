-- A run of the program, from its arguments to its status.
use Rattle.std.specs.Prelude.{◌≡◌, ℕ, ◌+◌, ◌⊎◌}
use Rattle.ether_wire.specs.Ends.{End}
use Rattle.ev_report.specs.Originators.{Text}
use Rattle.ev_report.specs.Usage.{IsTold}
use Rattle.ev_report.specs.declared.status.Status.{Status}
use Rattle.ev_report.specs.declared.status.Status.TheVariants as statuses

-- the report of a fault of the arguments: memory was refused once more for the text, or it was written
abbrev pub TellsFault : ℕ → ℕ → End → End → Status → Type 0
TellsFault refusals refusals' notes notes' status =
    ((refusals' ≡ refusals + 1) × (notes' ≡ notes) × (status ≡ statuses.Memory))
    ⊎ ((refusals' ≡ refusals) × ((text : Text) × IsTold text notes notes' status))
