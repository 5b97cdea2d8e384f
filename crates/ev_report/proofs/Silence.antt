-- Nothing was written, at a run's end.
use Rattle.std.proofs.Common.{◌≡◌, inl, Bool, true, false, cond, ◌&&◌, ◌||◌, [], refl, sym, ap, ◌∙◌, arith, le-ltb}
use Rattle.ether_wire.specs.Ends.{End}
use Rattle.ether_wire.proofs.Appending.{with_text_none}
use Rattle.ev_report.specs.Ends.{Devices, has_failed, Holds, Passes}
use Rattle.ev_report.specs.Notes.{status_of}
use Rattle.ev_report.specs.Silence.{IsSilent, IsRefusedMemory}
use Rattle.ev_report.proofs.Finishing.{passed_out, passed_notes, passed_status, failed_out, failed_notes}
use Rattle.ev_report.specs.declared.status.Status.{Status}
use Rattle.ev_report.specs.declared.status.Status.TheVariants as statuses

pub status_as : (a b c d s t k : Bool) → a ≡ c → b ≡ d → s ≡ t → status_of (a || b) s k ≡ status_of (c || d) t k
status_as a b c d s t k ac bd st = ap (λ x. status_of (x || b) s k) ac ∙ ap (λ x. status_of (c || x) s k) bd
    ∙ ap (λ x. status_of (c || d) x k) st

pub holds_none : (e : End) → Holds e e []
holds_none e = record { written = λ _. sym (with_text_none e); failures = inl refl }

pub is_silent : (out notes : End) → IsSilent out out notes notes
is_silent out notes = record { out_kept = holds_none out; notes_kept = holds_none notes }

pub refused_memory : (out notes : End) (status : Status) → status ≡ statuses.Memory
    → IsRefusedMemory out out notes notes status
refused_memory out notes status is = (
  is_silent out notes,
  is ∙ status_as false false (has_failed out out) (has_failed notes notes) true true false
      (sym (le-ltb out.failures out.failures (omega arith))) (sym (le-ltb notes.failures notes.failures (omega arith)))
      refl,
)

-- ---- writers that are given more at once

module _ (before held after : Devices) (status last : Status)
    (p : Passes before.out.failures before.notes.failures held after status last) where
  pub passed_silent : IsSilent before.out held.out before.notes held.notes
      → IsSilent before.out after.out before.notes after.notes
  passed_silent s = record {
    out_kept = passed_out before held after status last p [] s.out_kept;
    notes_kept = passed_notes before held after status last p [] s.notes_kept;
  }

  pub passed_refused : IsRefusedMemory before.out held.out before.notes held.notes status
      → IsRefusedMemory before.out after.out before.notes after.notes last
  passed_refused h = (
    passed_silent h.0,
    passed_status before held after status last p false true false
        (failed_out before held after status last p [] h.0.out_kept)
        (failed_notes before held after status last p [] h.0.notes_kept) h.1,
  )

  pub passed_four : status ≡ statuses.Device → last ≡ statuses.Device
  passed_four is = p.status_is ∙ four (p.is_written && p.is_noted) is
    where
      four : (b : Bool) → status ≡ statuses.Device → ◌≡◌ {A = Status} (cond b status statuses.Device) statuses.Device
      four true e = e
      four false e = refl
