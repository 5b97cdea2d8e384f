-- The program's output when it migrates records.
use Rattle.std.specs.Prelude.{ℕ, ◌||◌, if◌then◌else◌, List, []}
use Rattle.ev_report.specs.Notes.{has_stopped, ran_out_of_memory}
use Rattle.ev_report.specs.Ends.{Devices}
use Rattle.ev_report.specs.Report.{Output, Renders, taken_of}
use Rattle.ev_report.specs.Migrated.{AreMigrated, migrated_of, records_of}
use Rattle.ev_report.specs.declared.status.Status.{Status}

-- the records of the migration, but none if reading failed or memory was refused, since the table is incomplete then
abbrev pub migration : Output
migration ending outcomes t = if has_stopped ending || ran_out_of_memory outcomes then []
    else records_of (migrated_of t)

-- The records are of versions 1 and 2, and the output is the migration of the updates that were taken.
pub record Migrates (originators : List ℕ) (before after : Devices) (status : Status) : Type 0 where
  pub run : Renders 2 migration originators before after status
  pub migrated : AreMigrated (taken_of run.outcomes) (migrated_of run.table)
