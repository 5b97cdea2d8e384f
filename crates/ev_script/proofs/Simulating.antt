-- The status and the notes at the end of a simulation.
use Rattle.std.proofs.Common.{◌≡◌, inl, inr, ℕ, ◌+◌, Bool, true, false, not, ◌||◌, List, [], length, Option}
use Rattle.std.proofs.Common.{Some, None, is_some, Result, Ok, Err, is_ok, refl, sym, ap, subst, ◌∙◌}
use Rattle.ether_wire.specs.declared.ends.Device as device
use Rattle.ether_wire.specs.Ends.{End, Source, IsOpen, Puts}
use Rattle.ev_edge.specs.declared.config.EdgeConfig.{EdgeConfig}
use Rattle.ev_fabric.specs.Fabric.{Fabric}
use Rattle.ev_report.specs.declared.input.ReadError.{ReadError}
use Rattle.ev_report.specs.declared.input.ReadError.TheVariants.{Device, NoMemory}
use Rattle.ev_script.specs.declared.script.mode.Mode.{Mode}
use Rattle.ev_script.specs.declared.simulate.simulator.BadLine.{BadLine}
use Rattle.ev_script.specs.declared.simulate.simulator.Simulator.{Simulator}
use Rattle.ev_script.specs.Script.{cut_line}
use Rattle.ev_report.specs.Ends.{Devices, has_failed, Holds, Tells, Passes}
use Rattle.ev_report.specs.Input.{ReadsWhole}
use Rattle.ev_report.specs.Notes.{status_of}
use Rattle.ev_report.proofs.Silence.{status_as, is_silent, refused_memory, passed_silent, passed_refused, passed_four}
use Rattle.ev_script.specs.Simulation.{RunsLines, made_by, text_of, ran_out_of_memory, bad_line, note_of}
use Rattle.ev_script.specs.Inner.Simulation.{note_of_line}
use Rattle.ev_script.specs.Simulation.{PlaysOn, PlaysRead, Simulates}
use Rattle.ev_script.specs.Inner.Simulation.{read_error_status}
use Rattle.ev_script.specs.Inner.Playing.{PlaysTo}
use Rattle.ev_report.proofs.Finishing.{put_holds, put_failed, passed_out, passed_notes, passed_status, failed_out}
use Rattle.ev_report.proofs.Finishing.{failed_notes, tells_holds, tells_failed}
use Rattle.ev_report.specs.declared.status.Status.{Status}

-- ---- a run on a fabric

module _ (mode : Mode) (start : Fabric) (script : List ℕ) (p final : Simulator) (out out' notes notes' : End)
    (r : Result (Unit {0}) device.Device) (status : Status)
    (from : p.fabric ≡ start) (fed : p.is_out_of_memory ≡ false) (first : p.is_told ≡ true) where
  said : (text : List ℕ) → Tells out out' p.is_told final.is_told text → Tells out out' true final.is_told text
  said text told = subst (λ b. Tells out out' b final.is_told text) first told

  status_played : (bad : Option BadLine) (out_of_memory : Bool) (text : List ℕ)
      → IsOpen out → IsOpen notes → Tells out out' p.is_told final.is_told text
      → Puts notes notes' (note_of_line bad) r
      → final.is_out_of_memory ≡ (p.is_out_of_memory || out_of_memory)
      → status ≡ status_of (not final.is_told || not (is_ok r)) final.is_out_of_memory (is_some bad)
      → status ≡ status_of (has_failed out out' || has_failed notes notes') out_of_memory (is_some bad)
  status_played bad out_of_memory text out_open notes_open told put s is =
      is ∙ status_as (not final.is_told) (not (is_ok r)) (has_failed out out') (has_failed notes notes')
      final.is_out_of_memory out_of_memory (is_some bad)
      (sym (tells_failed out out' final.is_told text out_open (said text told)))
      (sym (put_failed notes notes' r (note_of_line bad) notes_open put)) (s ∙ ap (λ b. b || out_of_memory) fed)

  pub plays_on : (bad : Option BadLine) → IsOpen out → IsOpen notes → PlaysTo mode script p final out out' bad
      → Puts notes notes' (note_of_line bad) r
      → status ≡ status_of (not final.is_told || not (is_ok r)) final.is_out_of_memory (is_some bad)
      → PlaysOn mode start script out out' notes notes' status
  plays_on None out_open notes_open h put is =
      let played = h.1 in
      let text = text_of played.ran in
      record {
        lines = played.lines;
        rest = [];
        is_bad = false;
        follows = played.follows;
        ends = refl;
        ran = played.ran;
        final = final.fabric;
        runs = subst (λ (f : Fabric). RunsLines mode script played.lines f played.ran final.fabric) from played.runs;
        written = tells_holds out out' final.is_told text out_open (said text played.told);
        noted = put_holds notes notes' r [] notes_open put;
        status_is = status_played None (ran_out_of_memory (made_by played.ran)) text out_open notes_open
            played.told put played.out_of_memory is;
      }
  plays_on (Some bad) out_open notes_open h put is =
      let played = h.5 in
      let text = text_of played.ran in
      let number = bad.number in
      let at : number ≡ length played.lines + 1 = h.2 ∙ ap (λ n. n + 1) (sym played.count) in
      record {
        lines = played.lines;
        rest = h.1;
        is_bad = true;
        follows = played.follows;
        ends = h.4;
        ran = played.ran;
        final = final.fabric;
        runs = subst (λ (f : Fabric). RunsLines mode script played.lines f played.ran final.fabric) from played.runs;
        written = tells_holds out out' final.is_told text out_open (said text played.told);
        noted = subst (λ l. Holds notes notes' (bad_line (length played.lines + 1) l)) h.3
            (subst (λ n. Holds notes notes' (bad_line n bad.line.now)) at
            (put_holds notes notes' r (bad_line number bad.line.now) notes_open put));
        status_is = status_played (Some bad) (ran_out_of_memory (made_by played.ran)) text out_open notes_open
            played.told put played.out_of_memory is;
      }

-- ---- nothing is run

pub plays_read_error : (mode : Mode) (configs : List EdgeConfig) (read_error : ReadError) (out notes : End)
    (status : Status)
    → status ≡ read_error_status read_error → PlaysRead mode configs (Err read_error) out out notes notes status
plays_read_error mode configs Device out notes status is = (is_silent out notes, is)
plays_read_error mode configs NoMemory out notes status is = refused_memory out notes status is

-- ---- writers that get several texts in one call

module _ (mode : Mode) (configs : List EdgeConfig) (before held after : Devices) (status last : Status)
    (p : Passes before.out.failures before.notes.failures held after status last) where
  passed_plays : (start : Fabric) (script : List ℕ)
      → PlaysOn mode start script before.out held.out before.notes held.notes status
      → PlaysOn mode start script before.out after.out before.notes after.notes last
  passed_plays start script r =
      let text = text_of r.ran in
      let note = note_of r.is_bad (length r.lines + 1) (cut_line r.rest).0 in
      record {
        lines = r.lines;
        rest = r.rest;
        is_bad = r.is_bad;
        follows = r.follows;
        ends = r.ends;
        ran = r.ran;
        final = r.final;
        runs = r.runs;
        written = passed_out before held after status last p text r.written;
        noted = passed_notes before held after status last p note r.noted;
        status_is = passed_status before held after status last p false (ran_out_of_memory (made_by r.ran)) r.is_bad
            (failed_out before held after status last p text r.written)
            (failed_notes before held after status last p note r.noted) r.status_is;
      }

  passed_read : (script : Result (List ℕ) ReadError)
      → PlaysRead mode configs script before.out held.out before.notes held.notes status
      → PlaysRead mode configs script before.out after.out before.notes after.notes last
  passed_read (Ok script) (inl h) = inl (h.0, h.1, passed_plays h.0 script h.2)
  passed_read (Ok script) (inr h) = inr (passed_refused before held after status last p h)
  passed_read (Err Device) h = (
    passed_silent before held after status last p h.0,
    passed_four before held after status last p h.1,
  )
  passed_read (Err NoMemory) h = passed_refused before held after status last p h

  pub passed_simulates : Simulates mode configs before held status → Simulates mode configs before after last
  passed_simulates s = record {
    script = s.script;
    read = subst (λ (r : Source). ReadsWhole before.input r s.script) (sym p.input) s.read;
    plays = passed_read s.script s.plays;
  }
