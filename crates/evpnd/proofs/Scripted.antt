-- A script that is checked after a configuration.
use Rattle.std.proofs.Common.{◌≡◌, ◌⊎◌, inl, inr, ℕ, ◌+◌, Bool, true, false, cond, not, ◌||◌, ◌==◌, List, [], ◌∷◌, ◌++◌}
use Rattle.std.proofs.Common.{length, Option, Some, option_map, Bor, Result, Ok, Err, is_ok, refl, sym, ap, subst, ◌∙◌}
use Rattle.std.proofs.Common.{arith}
use Rattle.std.proofs.lemmas.Bool.Decides.{nat_tests}
use Rattle.ether_wire.specs.declared.ends.Device.{Device}
use Rattle.ether_wire.specs.Ends.{End, Source, IsOpen, Puts}
use Rattle.ev_config.specs.declared.whole.Config.{Config}
use Rattle.ev_config.specs.declared.config.ConfigRefusal.{ConfigRefusal}
use Rattle.ev_config.specs.declared.config.ConfigRefusal.TheVariants as refusal
use Rattle.ev_report.specs.Ends.{devices, has_failed, Holds, Tells}
use Rattle.ev_report.specs.Notes.{status_of}
use Rattle.ev_report.proofs.Finishing.{put_holds, put_failed}
use Rattle.ev_report.proofs.Silence.{status_as}
use Rattle.ev_script.specs.declared.checking.CheckedLines.{CheckedLines}
use Rattle.ev_script.specs.Faults.{faults_text, ChecksLines}
use Rattle.evpnd.specs.Files.{Text, Shelf, HasRoom, IsTextOf}
use Rattle.ev_config.specs.Summary.{summary_text}
use Rattle.ev_run.specs.declared.obstacles.Obstacle.{Obstacle}
use Rattle.ev_run.specs.Obstacles.{obstacles_of}
use Rattle.evpnd.specs.declared.check.Purpose.{Purpose}
use Rattle.ev_config.specs.declared.whole.Use.{Use}
use Rattle.ev_config.specs.declared.whole.Use.TheVariants.{Any, Run, Serve}
use Rattle.ev_config.specs.Config.{ConfigFor}
use Rattle.evpnd.specs.Checks.{Desk, desk, OfFile, run_text, TellsObstacles, SumsRun, SumsFor, Checks}
use Rattle.evpnd.specs.Scripts.{lines_text, Looks, OfScript, Behind, ChecksAll}
use Rattle.ev_report.specs.declared.status.Status.{Status}
use Rattle.ev_report.specs.declared.status.Status.TheVariants as statuses
use Rattle.ev_report.specs.Status.{is_done}

-- notes that may have failed
noted : (a b : End) (q : Bool) (t : Text) → IsOpen a → Tells a b true q t → Holds a b t × (has_failed a b ≡ not q)
noted a b true t room h =
    let same : b.failures ≡ a.failures = ap (λ (e : End). e.failures) (h.written refl) in
    (record { written = λ _. h.written refl; failures = inl same }, grind (arith, nat_tests))
noted a b false t room h =
    let one = h.failed refl refl room in
    (record { written = λ e. absurd (omega arith); failures = inr one }, grind (arith, nat_tests))

-- the lines of a script were checked, and counted on the output
pub looks : (name script : Text) (out out' notes notes' : End) (found : CheckedLines) (r : Result (Unit {0}) Device)
    (status : Status) → IsOpen out → IsOpen notes → ChecksLines name script notes notes' found
    → Puts out out' (lines_text found.are_good found.count) r
    → status ≡ status_of (not (is_ok r) || not found.are_told) false (not found.are_good)
    → Looks name script out out' notes notes' status
looks name script out out' notes notes' found r status out_open notes_open h put is =
    let told = noted notes notes' found.are_told (faults_text name 1 h.lines) notes_open h.told in
    record {
      lines = h.lines;
      follows = h.follows;
      noted = told.0;
      written = subst (λ (b : Bool). Holds out out' (lines_text b (length h.lines))) h.good
          (subst (λ (n : ℕ). Holds out out' (lines_text found.are_good n)) h.count
          (put_holds out out' r (lines_text found.are_good found.count) out_open put));
      status_is = is
          ∙ status_as (not (is_ok r)) (not found.are_told) (has_failed out out') (has_failed notes notes') false false
          (not found.are_good)
          (sym (put_failed out out' r (lines_text found.are_good found.count) out_open put)) (sym told.1) refl
          ∙ ap (λ b. status_of (has_failed out out' || has_failed notes notes') false (not b)) h.good;
    }

-- the file of the script has this text
pub script_looked : (path text : Text) (s s' : Shelf) (input : Source) (out out' notes notes' : End) (status : Status)
    → (s' ≡ s) × IsTextOf s path text
    → Looks path text out out' notes notes' status
    → OfScript path (desk s (devices input out notes)) (desk s' (devices input out' notes')) status
script_looked path text s s' input out out' notes notes' status gives h =
    inr (record { shelf_kept = gives.0; text = text; read = gives.1; input = refl; looks = h })

-- ---- after a valid configuration

-- one call more may fail
open_kept : (a b : End) (text : Text) (status : Status) → Holds a b text
    → ◌≡◌ {A = Status} status (cond (has_failed a b) statuses.Device statuses.Done)
    → status ≡ statuses.Done → IsOpen a → IsOpen b
open_kept a b text status h is done room = go h.failures
  where
    go : (b.failures ≡ a.failures) ⊎ (b.failures ≡ a.failures + 1) → IsOpen b
    go (inl same) = omega (arith, same, room)
    go (inr one) =
        let failed : has_failed a b ≡ true = grind (arith, nat_tests) in
        let four : ◌≡◌ {A = Status} status statuses.Device =
        is ∙ ap (λ (x : Bool). cond x statuses.Device statuses.Done) failed in
        absurd (cc)

two_or_four : (x : Bool) (status : Status) → ◌≡◌ {A = Status} status (cond x statuses.Device statuses.Usage)
    → status ≡ statuses.Done → ⊥
two_or_four true status is done = absurd (cc)
two_or_four false status is done = absurd (cc)

-- the conditions of a checked script
pub record IsReady (s : Shelf) (out notes : End) : Type 0 where
  pub has_room : HasRoom s
  pub out_open : IsOpen out
  pub notes_open : IsOpen notes

checked_ready : (purpose : Purpose) (text : Text) (found : Result Config ConfigRefusal) (s : Shelf) (input : Source)
    (out out' notes notes' : End)
    (status : Status) → Checks purpose text found (devices input out notes) (devices input out' notes') status
    → status ≡ statuses.Done → HasRoom s → IsOpen out → IsOpen notes → IsReady s out' notes'
checked_ready purpose text (Ok config) s input out out' notes notes' status h done room o n = go purpose.wanted h.1
  where
    open_behind : (text : Text) → notes' ≡ notes → Holds out out' text
        → ◌≡◌ {A = Status} status (cond (has_failed out out') statuses.Device statuses.Done)
        → IsReady s out' notes'
    open_behind text same h is =
        record {
          has_room = room;
          out_open = open_kept out out' text status h is done o;
          notes_open = subst
              (λ (e : End). IsOpen e) (sym same) n;
        }

    told : (found : List Obstacle) (text : Text) → TellsObstacles found text out out' notes notes' status
        → IsReady s out' notes'
    told [] text t = open_behind text t.0 t.1.0 t.1.1
    told (one ∷ more) text t = absurd (two_or_four (has_failed notes notes') status t.1.status_is done)

    run : (is_asked : Bool) → SumsRun is_asked purpose.limits config out out' notes notes' status
        → IsReady s out' notes'
    run is_asked (inl t) =
        told (obstacles_of config.edges.items config.links.items is_asked purpose.limits)
        (run_text is_asked config) t
    run is_asked (inr m) = let three = m.2 in absurd (cc)

    go : (wanted : Use) → SumsFor wanted purpose.limits config out out' notes notes' status → IsReady s out' notes'
    go Any p = open_behind (summary_text config.edges.items) p.0 p.1.0 p.1.1
    go Run p = run false p
    go Serve p = run true p
checked_ready purpose text (Err (refusal.Key key)) s input out out' notes notes' status h done room o n =
    absurd (two_or_four (has_failed notes notes') status h.2.2.status_is done)
checked_ready purpose text (Err refusal.Text) s input out out' notes notes' status h done room o n =
    absurd (two_or_four (has_failed notes notes') status h.2.2.status_is done)
checked_ready purpose text (Err refusal.NoMemory) s input out out' notes notes' status h done room o n =
    let three = h.1 in absurd (cc)

pub ready : (purpose : Purpose) (path : Text) (s s' : Shelf) (input : Source) (out out' notes notes' : End)
    (status : Status)
    → OfFile (ConfigFor purpose.wanted) (Checks purpose) path (desk s (devices input out notes))
    (desk s' (devices input out' notes')) status
    → HasRoom s → IsOpen out → IsOpen notes → status ≡ statuses.Done → IsReady s' out' notes'
ready purpose path s s' input out out' notes notes' status (inl (inl h)) room o n done =
    let three = h.status_is in absurd (cc)
ready purpose path s s' input out out' notes notes' status (inl (inr h)) room o n done =
    let four = h.status_is in absurd (cc)
ready purpose path s s' input out out' notes notes' status (inr r) room o n done =
    checked_ready purpose r.text r.found s' input out out' notes notes' status r.used done
    (subst (λ (x : Shelf). HasRoom x) (sym r.shelf_kept) room) o n

pub was_done : (status : Status) → is_done status ≡ true → status ≡ statuses.Done
was_done statuses.Done e = refl
was_done statuses.Broken e = absurd (cc)
was_done statuses.Usage e = absurd (cc)
was_done statuses.Memory e = absurd (cc)
was_done statuses.Device e = absurd (cc)

-- the script isn't checked, since the first status isn't `Done`
pub behind_failed : (first : Status) (path : Text) (d : Desk) → is_done first ≡ false → Behind first path d d first
behind_failed first path d e = rw e (refl, refl)

-- the script is checked, since the first status is `Done`
pub behind_done : (first : Status) (path : Text) (before after : Desk) (status : Status) → is_done first ≡ true
    → OfScript path before after status → Behind first path before after status
behind_done first path before after status e h = rw e h

-- a checked configuration, followed by a script
pub with_script : (purpose : Purpose) (path : Text) (given : Option (Bor Text)) (script : Bor Text)
    (before mid after : Desk) (first status : Status) → given ≡ Some script
    → OfFile (ConfigFor purpose.wanted) (Checks purpose) path before mid first
    → Behind first script.now mid after status
    → ChecksAll purpose path (option_map (λ s. s.now) given) before after status
with_script purpose path given script before mid after first status is checked behind = rw is
    (mid, first, checked, behind)
