-- The output of `evpnd version`.
use Rattle.std.specs.Prelude.{◌≡◌, ℕ, codes, if◌then◌else◌}
use Rattle.ev_report.specs.Ends.{Devices, has_failed, Holds}
use Rattle.evpnd.specs.Files.{Text}
use Rattle.ev_report.specs.declared.status.Status.{Status}
use Rattle.ev_report.specs.declared.status.Status.TheVariants as statuses

abbrev pub version_text : Text
version_text = codes "evpnd 0.1.0\nproved\n"

-- The version is written on the output, or a call of it failed; nothing was read, and nothing was written to the notes.
pub record TellsVersion (before after : Devices) (status : Status) : Type 0 where
  pub input : after.input ≡ before.input
  pub written : Holds before.out after.out version_text
  pub notes : after.notes ≡ before.notes
  pub status_is : status ≡ (if has_failed before.out after.out then statuses.Device else statuses.Done)
