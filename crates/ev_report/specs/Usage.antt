-- The messages about a program's arguments.
use Rattle.std.specs.Prelude.{◌≡◌, ℕ, List, if◌then◌else◌, MatchResult}
use Rattle.ether_wire.specs.Ends.{End}
use Rattle.ev_report.specs.Ends.{Devices, has_failed, Holds}
use Rattle.ev_report.specs.Originators.{Text, originators_of_text, list_text}
use Rattle.ev_report.specs.Report.{Reports}
use Rattle.ev_report.specs.Migrations.{Migrates}
use Rattle.ev_report.specs.declared.usage.StreamUse.{StreamUse}
use Rattle.ev_report.specs.declared.usage.StreamUse.TheVariants.{Report, Migrate}
use Rattle.ev_report.specs.declared.status.Status.{Status}
use Rattle.ev_report.specs.declared.status.Status.TheVariants as statuses

-- A text about the arguments, or about a file that they name, was written to the notes, or a call of them failed.
pub record IsTold (text : Text) (before after : End) (status : Status) : Type 0 where
  pub noted : Holds before after text
  pub status_is : status ≡ (if has_failed before after then statuses.Device else statuses.Usage)

-- The message was written; nothing was read, nothing else written.
pub record TellsUsage (text : Text) (before after : Devices) (status : Status) : Type 0 where
  pub input : after.input ≡ before.input
  pub out : after.out ≡ before.out
  pub told : IsTold text before.notes after.notes status

-- the use of a stream of records
abbrev pub uses : StreamUse → List ℕ → Devices → Devices → Status → Type 0
uses Report = Reports
uses Migrate = Migrates

-- the use of a list's originators, or the message about the list's wrong part
abbrev pub OfList : (List ℕ → Devices → Devices → Status → Type 0) → Text → Devices → Devices → Status → Type 0
OfList does list before after status =
    MatchResult (originators_of_text list) (λ originators. does originators before after status)
    (λ wrong. TellsUsage (list_text wrong) before after status)
