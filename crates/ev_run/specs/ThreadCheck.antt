-- The check before a run that the system starts as many threads as the run needs.
use Rattle.std.specs.Prelude.{◌≡◌, ℕ, ◌<◌, ◌||◌, Bool, true, false, List, [], ◌++◌, codes}
use Rattle.std.specs.Fmt.{decimal}
use Rattle.ev_edge.specs.declared.config.EdgeConfig.{EdgeConfig}
use Rattle.ev_report.specs.Ends.{Devices, has_failed, Holds}
use Rattle.ev_report.specs.Notes.{status_of}
use Rattle.ev_report.specs.Originators.{Text}
use Rattle.ev_run.specs.Needs.{threads_of}
use Rattle.ev_run.specs.declared.thread_check.ThreadPolicy.{ThreadPolicy}
use Rattle.ev_run.specs.declared.thread_check.ThreadPolicy.TheVariants.{RunWithout}
use Rattle.ev_run.specs.declared.thread_check.TooFewThreads.{TooFewThreads}
use Rattle.ev_report.specs.declared.status.Status.{Status}
use Rattle.ev_report.specs.declared.status.Status.TheVariants as statuses

-- this many threads are needed, and the system allows fewer
abbrev pub IsTooFew : ℕ → TooFewThreads → Type 0
IsTooFew needed lack = (lack.needed ≡ needed) × (lack.allowed < needed)

abbrev pub allowed_text : ℕ → Text
allowed_text allowed = codes " threads: the system allows " ++ decimal allowed
    ++ codes "; raise ulimit -u or TasksMax, or free memory\n"

-- `can't start N threads: the system allows M; ..`
abbrev pub too_few_text : TooFewThreads → Text
too_few_text lack = codes "can't start " ++ decimal lack.needed ++ allowed_text lack.allowed

-- The system allows fewer threads than these edges need, with the one that accepts clients if `is_asked`. Nothing was
-- read, and only a note about the threads was written. The policy `RunWithout` leads to this only if that failed.
pub record LacksThreads (is_asked : Bool) (policy : ThreadPolicy) (edges : List EdgeConfig) (before after : Devices)
    (status : Status) : Type 0 where
  pub lack : TooFewThreads
  pub few : IsTooFew (threads_of is_asked edges) lack
  pub unread : after.input ≡ before.input
  pub unwritten : Holds before.out after.out []
  pub noted : Holds before.notes after.notes (too_few_text lack)
  pub status_is : status
      ≡ status_of (has_failed before.out after.out || has_failed before.notes after.notes) true false
  pub must : policy ≡ RunWithout → status ≡ statuses.Device
