-- The result of reading a configuration that is to be used.
use Rattle.std.specs.Prelude.{◌≡◌, ℕ, Bool, true, false, Result, Ok, Err}
use Rattle.ether_wire.specs.Ends.{End, Source}
use Rattle.ev_config.specs.declared.config.ConfigRefusal.{ConfigRefusal}
use Rattle.ev_config.specs.declared.whole.Use.{Use}
use Rattle.ev_config.specs.declared.whole.Use.TheVariants.{Any, Run}
use Rattle.ev_report.specs.Ends.{Devices, devices}
use Rattle.evpnd.specs.Files.{Text, Shelf, IsTextOf}
use Rattle.evpnd.specs.Checks.{desk, Gives, OfFile}
use Rattle.evpnd.specs.Configured.{OfFound}
use Rattle.ev_report.specs.declared.status.Status.{Status}

-- the use of a configuration that is read for a run, or not
abbrev pub use_for : Bool → Use
use_for false = Any
use_for true = Run

-- no configuration is used
abbrev pub Never : {X : Type 0} → X → Devices → Devices → Status → Type 0
Never config before after status = ⊥

-- A text gives this configuration for a use; or this status, and a report of its fault, for any input and output.
abbrev pub TextGives : {X : Type 0} → Use → Gives X → Text → End → End → Result X Status → Type 0
TextGives wanted gives text notes notes' (Ok config) = (notes' ≡ notes) × gives text (Ok config)
TextGives {X = X} wanted gives text notes notes' (Err status) =
    (found : Result X ConfigRefusal) × gives text found
    × ((input : Source) → (out : End) → OfFound wanted Never text found (devices input out notes)
    (devices input out notes') status)

-- The file at a path has a text that gives this configuration for a use; or this status, and a report of the fault.
abbrev pub FileGives : {X : Type 0} → Use → Gives X → Text → Shelf → Shelf → End → End → Result X Status → Type 0
FileGives wanted gives path shelf shelf' notes notes' (Ok config) = (shelf' ≡ shelf) × (notes' ≡ notes)
    × ((text : Text) × IsTextOf shelf path text × gives text (Ok config))
FileGives {X = X} wanted gives path shelf shelf' notes notes' (Err status) =
    (input : Source) → (out : End) → OfFile gives (OfFound {X = X} wanted Never) path
    (desk shelf (devices input out notes)) (desk shelf' (devices input out notes')) status
