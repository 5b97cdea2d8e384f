-- The results of reading a configuration's file, and of a check.
use Rattle.std.specs.Prelude.{◌≡◌, ℕ, ◌+◌, ◌⊎◌, Bool, true, false, List, [], ◌∷◌, ◌++◌, Option, Result, Ok, Err}
use Rattle.std.specs.Prelude.{if◌then◌else◌}
use Rattle.ether_wire.specs.Ends.{End}
use Rattle.ev_edge.specs.declared.config.EdgeConfig.{EdgeConfig}
use Rattle.ev_config.specs.declared.whole.Config.{Config}
use Rattle.ev_config.specs.declared.config.ConfigRefusal.{ConfigRefusal}
use Rattle.ev_config.specs.declared.config.ConfigRefusal.TheVariants as refusal
use Rattle.evpnd.specs.declared.files.Unread.{Unread}
use Rattle.evpnd.specs.declared.files.Named.{Named}
use Rattle.evpnd.specs.declared.files.Named.TheVariants as named
use Rattle.evpnd.specs.Files.{Text, Shelf, IsTextOf, unread_text}
use Rattle.ev_report.specs.Ends.{Devices, devices, has_failed, Holds}
use Rattle.ev_report.specs.Usage.{IsTold}
use Rattle.ev_config.specs.declared.whole.Use.{Use}
use Rattle.ev_config.specs.Told.{AreFaultLines}
use Rattle.ev_config.specs.Summary.{summary_text}
use Rattle.ev_config.specs.declared.whole.Use.TheVariants.{Any, Run, Serve}
use Rattle.ev_run.specs.declared.obstacles.ProcessLimits.{ProcessLimits}
use Rattle.ev_run.specs.declared.obstacles.Obstacle.{Obstacle}
use Rattle.ev_run.specs.Needs.{needs_of, asked_text}
use Rattle.ev_run.specs.Obstacles.{obstacles_of, obstacles_text}
use Rattle.evpnd.specs.declared.check.Purpose.{Purpose}
use Rattle.ev_report.specs.declared.status.Status.{Status}
use Rattle.ev_report.specs.declared.status.Status.TheVariants as statuses

-- the devices and the files
pub record Desk : Type 0 where
  pub shelf : Shelf
  pub devices : Devices

abbrev pub desk : Shelf → Devices → Desk
desk shelf devices = record { shelf = shelf; devices = devices }

-- ---- files

-- memory was refused once more, for the text of a file; no device was called
pub record IsRefusedText (before after : Desk) (status : Status) : Type 0 where
  pub refused : after.shelf ≡ record before.shelf { refusals = before.shelf.refusals + 1 }
  pub devices_kept : after.devices ≡ before.devices
  pub status_is : status ≡ statuses.Memory

-- once more the file of an option had no text, which is reported; nothing was read, nothing else written
pub record IsUnread (option : Named) (path : Text) (before after : Desk) (status : Status) : Type 0 where
  pub failed : after.shelf ≡ record before.shelf { failures = before.shelf.failures + 1 }
  pub why : Unread
  pub input : after.devices.input ≡ before.devices.input
  pub out : after.devices.out ≡ before.devices.out
  pub noted : Holds before.devices.notes after.devices.notes (unread_text option path why)
  pub status_is : status ≡ statuses.Device

-- there is no text of an option's file: memory was refused for it, or it can't be read, which is reported
abbrev pub IsTextless : Named → Text → Desk → Desk → Status → Type 0
IsTextless option path before after status = IsRefusedText before after status
    ⊎ IsUnread option path before after status

-- the configuration of a text, for a purpose
abbrev pub Gives : Type 0 → Type 1
Gives X = Text → Result X ConfigRefusal → Type 0

-- the use of a text's configuration
abbrev pub Uses : Type 0 → Type 1
Uses X = Text → Result X ConfigRefusal → Devices → Devices → Status → Type 0

-- the file has this text, and its configuration is used
pub record IsRead {X : Type 0} (gives : Gives X) (uses : Uses X) (path : Text) (before after : Desk)
    (status : Status) : Type 0 where
  pub shelf_kept : after.shelf ≡ before.shelf
  pub text : Text
  pub read : IsTextOf before.shelf path text
  pub found : Result X ConfigRefusal
  pub is_found : gives text found
  pub used : uses text found before.devices after.devices status

-- the use of a file's configuration
abbrev pub OfFile : {X : Type 0} → Gives X → Uses X → Text → Desk → Desk → Status → Type 0
OfFile gives uses path before after status = IsTextless named.Config path before after status
    ⊎ IsRead gives uses path before after status

-- ---- a check

-- a text was written on the output, or a call of it failed
abbrev pub Sums : Text → End → End → Status → Type 0
Sums text before after status =
    Holds before after text × (status ≡ (if has_failed before after then statuses.Device else statuses.Done))

-- the summary of a configuration's edges, and the resources of their run
abbrev pub run_text : Bool → Config → Text
run_text is_asked config =
    summary_text config.edges.items ++ asked_text is_asked (needs_of config.edges.items config.links.items)

-- the lines for a text that is no configuration are written to the notes, or a call of them failed
abbrev pub TellsFaults : Use → Text → End → End → Status → Type 0
TellsFaults wanted text before after status =
    (told : Text) × AreFaultLines wanted text told × IsTold told before after status

-- A run has no obstacles, and this text is written; or its obstacles are reported.
abbrev pub TellsObstacles : List Obstacle → Text → End → End → End → End → Status → Type 0
TellsObstacles [] text out out' notes notes' status = (notes' ≡ notes) × Sums text out out' status
TellsObstacles (one ∷ more) text out out' notes notes' status =
    (out' ≡ out) × IsTold (obstacles_text (one ∷ more)) notes notes' status

-- The obstacles of a configuration's run, or its summary and resources, served or not, given the limits of the process;
-- or there was no memory for the obstacles.
abbrev pub SumsRun : Bool → ProcessLimits → Config → End → End → End → End → Status → Type 0
SumsRun is_asked limits config out out' notes notes' status =
    TellsObstacles (obstacles_of config.edges.items config.links.items is_asked limits)
    (run_text is_asked config) out out' notes notes' status
    ⊎ ((out' ≡ out) × (notes' ≡ notes) × (status ≡ statuses.Memory))

-- the summary of a configuration for a use; for a run, its obstacles or its resources
abbrev pub SumsFor : Use → ProcessLimits → Config → End → End → End → End → Status → Type 0
SumsFor Any limits config out out' notes notes' status =
    (notes' ≡ notes) × Sums (summary_text config.edges.items) out out' status
SumsFor Run limits config out out' notes notes' status = SumsRun false limits config out out' notes notes' status
SumsFor Serve limits config out out' notes notes' status = SumsRun true limits config out out' notes notes' status

-- A text's configuration is summed up on the output for its purpose (0); its faults are reported on the notes (2), or
-- there was no memory (3); nothing was read, nothing else written.
abbrev pub Checks : Purpose → Text → Result Config ConfigRefusal → Devices → Devices → Status → Type 0
Checks purpose text (Ok config) before after status = (after.input ≡ before.input)
    × SumsFor purpose.wanted purpose.limits config before.out after.out before.notes after.notes status
Checks purpose text (Err (refusal.Key key)) before after status = (after.input ≡ before.input)
    × (after.out ≡ before.out) × TellsFaults purpose.wanted text before.notes after.notes status
Checks purpose text (Err refusal.Text) before after status = (after.input ≡ before.input)
    × (after.out ≡ before.out) × TellsFaults purpose.wanted text before.notes after.notes status
Checks purpose text (Err refusal.NoMemory) before after status = (after ≡ before) × (status ≡ statuses.Memory)
