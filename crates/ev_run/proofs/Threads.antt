-- The note about too few threads, and buffered writers.
use Rattle.std.proofs.Common.{◌≡◌, ℕ, Bool, true, false, not, List, [], Result, is_ok, refl, sym, ap, ◌∙◌, arith, ◌||◌}
use Rattle.std.proofs.Common.{Option, Some, MatchOption}
use Rattle.std.proofs.lemmas.Bool.Decides.{nat_tests}
use Rattle.ether_wire.specs.declared.ends.Device as device
use Rattle.ether_wire.specs.Ends.{End, Source, IsOpen, Puts, with_text}
use Rattle.ev_edge.specs.declared.config.EdgeConfig.{EdgeConfig}
use Rattle.ev_report.specs.Ends.{Devices, devices, has_failed, Holds, Passes}
use Rattle.ev_report.specs.Notes.{status_of}
use Rattle.ev_report.proofs.Finishing.{put_holds, put_failed, passed_out, passed_notes, passed_status, failed_out}
use Rattle.ev_report.proofs.Finishing.{failed_notes}
use Rattle.ev_report.proofs.Silence.{holds_none, passed_four}
use Rattle.ev_run.specs.Needs.{threads_of}
use Rattle.ev_run.specs.ThreadCheck.{IsTooFew, too_few_text, LacksThreads}
use Rattle.ev_run.specs.declared.thread_check.ThreadPolicy.{ThreadPolicy}
use Rattle.ev_run.specs.declared.thread_check.ThreadPolicy.TheVariants.{RunWithout}
use Rattle.ev_run.specs.declared.thread_check.TooFewThreads.{TooFewThreads}
use Rattle.ev_report.specs.declared.status.Status.{Status}
use Rattle.ev_report.specs.declared.status.Status.TheVariants as statuses

-- a note about too few threads, and the status if no edge may begin
abbrev pub StopsBy : ThreadPolicy → TooFewThreads → End → End → Option Status → Type 0
StopsBy policy lack notes notes' stopped = MatchOption stopped
    ((notes' ≡ with_text notes (too_few_text lack)) × (policy ≡ RunWithout))
    (λ status. Holds notes notes' (too_few_text lack)
    × (status ≡ status_of (has_failed notes notes') true false) × (policy ≡ RunWithout → status ≡ statuses.Device))

-- whether the note was written
pub told_by : (lack : TooFewThreads) (notes notes' : End) (r : Result (Unit {0}) device.Device)
    → IsOpen notes → Puts notes notes' (too_few_text lack) r
    → Holds notes notes' (too_few_text lack)
    × (status_of (not (is_ok r)) true false ≡ status_of (has_failed notes notes') true false)
told_by lack notes notes' r room put = (
  put_holds notes notes' r (too_few_text lack) room put,
  ap (λ b. status_of b true false) (sym (put_failed notes notes' r (too_few_text lack) room put)),
)

unfailed : (e : End) → has_failed e e ≡ false
unfailed e = grind (arith, nat_tests)

pub lacks_threads : (edges : List EdgeConfig) (is_asked : Bool) (policy : ThreadPolicy) (lack : TooFewThreads)
    (input : Source) (out notes notes' : End) (status : Status) → IsTooFew (threads_of is_asked edges) lack
    → StopsBy policy lack notes notes' (Some status)
    → LacksThreads is_asked policy edges (devices input out notes) (devices input out notes') status
lacks_threads edges is_asked policy lack input out notes notes' status few told = record {
  lack = lack;
  few = few;
  unread = refl;
  unwritten = holds_none out;
  noted = told.0;
  status_is = told.1
      ∙ ap (λ b. status_of (b || has_failed notes notes') true false) (sym (unfailed out));
  must = told.2;
}

module _ (is_asked : Bool) (policy : ThreadPolicy) (edges : List EdgeConfig) (before held after : Devices)
    (status last : Status) (p : Passes before.out.failures before.notes.failures held after status last) where
  pub passed_few : LacksThreads is_asked policy edges before held status
      → LacksThreads is_asked policy edges before after last
  passed_few l = record {
    lack = l.lack;
    few = l.few;
    unread = p.input ∙ l.unread;
    unwritten = passed_out before held after status last p [] l.unwritten;
    noted = passed_notes before held after status last p (too_few_text l.lack) l.noted;
    status_is = passed_status before held after status last p false true false
        (failed_out before held after status last p [] l.unwritten)
        (failed_notes before held after status last p (too_few_text l.lack) l.noted) l.status_is;
    must = λ without. passed_four before held after status last p (l.must without);
  }
