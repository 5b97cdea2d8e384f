-- The messages about failed reads and writes.
use Rattle.std.specs.Prelude.{◌≡◌, ℕ, ◌||◌, ◌&&◌, Bool, not, nat_lt, if◌then◌else◌, List, [], ◌++◌, codes, MatchBool}
use Rattle.ev_report.specs.declared.failures.Failures.{Failures}
use Rattle.ev_report.specs.Ends.{Devices, Holds}

abbrev pub failures_of : Devices → Failures
failures_of d = record { input = d.input.failures; out = d.out.failures; notes = d.notes.failures }

-- a read has failed between
abbrev pub is_unread : Failures → Failures → Bool
is_unread before after = nat_lt before.input after.input

-- a write of the output has
abbrev pub is_unwritten : Failures → Failures → Bool
is_unwritten before after = nat_lt before.out after.out

-- one of the two has failed, and no call of the notes, which take the message
abbrev pub is_untold : Failures → Failures → Bool
is_untold before after = (is_unread before after || is_unwritten before after) && not (nat_lt before.notes after.notes)

abbrev pub text_if : Bool → List ℕ → List ℕ
text_if is_so text = if is_so then text else []

-- a line for each that failed
abbrev pub failed_text : Bool → Bool → List ℕ
failed_text unread unwritten =
    text_if unread (codes "standard input: it can't be read\n")
    ++ text_if unwritten (codes "standard output: it can't be written\n")

-- Since the devices had these failures, reads or writes have failed: they are reported if they can be. Otherwise no
-- call was made.
pub record TellsFailed (before : Failures) (mid after : Devices) : Type 0 where
  pub input : after.input ≡ mid.input
  pub out : after.out ≡ mid.out
  pub notes : MatchBool (is_untold before (failures_of mid))
      (Holds mid.notes after.notes (failed_text (is_unread before (failures_of mid))
      (is_unwritten before (failures_of mid))))
      (after.notes ≡ mid.notes)
