-- A run of the program, from its words to its status.
use Rattle.std.specs.Prelude.{◌≡◌, ℕ, List, [], ◌∷◌, codes, map, string_bytes}
use Rattle.evpnd_report.specs.declared.program.Arguments.{Arguments}
use Rattle.evpnd_report.specs.declared.program.Arguments.TheVariants.{Words, NotText, NoMemory}
use Rattle.ev_report.specs.Originators.{Text}
use Rattle.ev_report.specs.Ends.{Devices}
use Rattle.ev_report.specs.Usage.{TellsUsage, OfList}
use Rattle.ev_report.specs.Report.{Reports}
use Rattle.ev_report.specs.Failures.{failures_of, TellsFailed}
use Rattle.ev_report.specs.declared.status.Status.{Status}
use Rattle.ev_report.specs.declared.status.Status.TheVariants as statuses

-- the usage, if the arguments are not the program's name and one list
abbrev pub usage : Text
usage = codes "usage: evpnd_report LIST\n"

-- the message for an argument that is not UTF-8
abbrev pub not_text : Text
not_text = codes "error: a word isn't UTF-8\n"

-- the records are reported with the list's originators, or its fault is printed; then, whether an end failed
pub record ReportsTelling (list : Text) (before after : Devices) (status : Status) : Type 0 where
  pub mid : Devices
  pub reports : OfList Reports list before mid status
  pub told : TellsFailed (failures_of before) mid after

-- The records are reported with the originators of the list, or the fault of the list or of the arguments is printed.
abbrev pub ReportsWords : List Text → Devices → Devices → Status → Type 0
ReportsWords [] before after status = TellsUsage usage before after status
ReportsWords (name ∷ []) before after status = TellsUsage usage before after status
ReportsWords (name ∷ list ∷ []) before after status = ReportsTelling list before after status
ReportsWords (name ∷ list ∷ word ∷ words) before after status = TellsUsage usage before after status

-- A run, with the system's arguments.
abbrev pub ReportsLine : Arguments → Devices → Devices → Status → Type 0
ReportsLine NoMemory before after status = (after ≡ before) × (status ≡ statuses.Memory)
ReportsLine NotText before after status = TellsUsage not_text before after status
ReportsLine (Words words) before after status = ReportsWords (map string_bytes words.items) before after status
