-- The check of a script, which isn't run.
use Rattle.std.specs.Prelude.{◌≡◌, ℕ, ◌⊎◌, Bool, false, not, ◌||◌, ◌==◌, if◌then◌else◌, List, [], ◌++◌, length, codes}
use Rattle.std.specs.Prelude.{decimal, Option, Some, None, MatchBool}
use Rattle.std.specs.List.{list_all}
use Rattle.ether_wire.specs.Ends.{End}
use Rattle.ev_report.specs.Ends.{has_failed, Holds}
use Rattle.ev_report.specs.Notes.{status_of}
use Rattle.ev_script.specs.Script.{Follows}
use Rattle.ev_script.specs.Faults.{is_good, faults_text}
use Rattle.ev_config.specs.Config.{ConfigFor}
use Rattle.evpnd.specs.declared.files.Named.TheVariants.{Script}
use Rattle.evpnd.specs.Files.{Text, IsTextOf}
use Rattle.evpnd.specs.declared.check.Purpose.{Purpose}
use Rattle.evpnd.specs.Checks.{Desk, IsTextless, OfFile, Checks}
use Rattle.ev_report.specs.declared.status.Status.{Status}
use Rattle.ev_report.specs.Status.{is_done}

abbrev pub lines_word : ℕ → Text
lines_word count = if count == 1 then codes " line\n" else codes " lines\n"

-- `ok: N lines`, if each is a command
abbrev pub lines_text : Bool → ℕ → Text
lines_text are_good count = if are_good then codes "ok: " ++ decimal count ++ lines_word count else []

-- A script of this name was split into its lines. Each invalid line is reported with its place and the reason (1); or
-- the number of lines is written (0).
pub record Looks (name script : Text) (out out' notes notes' : End) (status : Status) : Type 0 where
  pub lines : List Text
  pub follows : Follows (λ line. Some line) script lines []
  pub noted : Holds notes notes' (faults_text name 1 lines)
  pub written : Holds out out' (lines_text (list_all is_good lines) (length lines))
  pub status_is : status
      ≡ status_of (has_failed out out' || has_failed notes notes') false (not (list_all is_good lines))

-- the file has this text, which was checked; nothing was read from the input
pub record IsLooked (path : Text) (before after : Desk) (status : Status) : Type 0 where
  pub shelf_kept : after.shelf ≡ before.shelf
  pub text : Text
  pub read : IsTextOf before.shelf path text
  pub input : after.devices.input ≡ before.devices.input
  pub looks : Looks path text before.devices.out after.devices.out before.devices.notes after.devices.notes status

abbrev pub OfScript : Text → Desk → Desk → Status → Type 0
OfScript path before after status = IsTextless Script path before after status ⊎ IsLooked path before after status

-- the script is checked if the status so far is `Done`; otherwise nothing is done
abbrev pub Behind : Status → Text → Desk → Desk → Status → Type 0
Behind first path before after status =
    MatchBool (is_done first) (OfScript path before after status) ((after ≡ before) × (status ≡ first))

-- A configuration is checked for a purpose. If the status of that is `Done`, the script is checked too, if one was
-- given.
abbrev pub ChecksAll : Purpose → Text → Option Text → Desk → Desk → Status → Type 0
ChecksAll purpose path None before after status =
    OfFile (ConfigFor purpose.wanted) (Checks purpose) path before after status
ChecksAll purpose path (Some script) before after status =
    (mid : Desk) × (first : Status) × OfFile (ConfigFor purpose.wanted) (Checks purpose) path before mid first
    × Behind first script mid after status
