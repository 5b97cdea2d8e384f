-- The notes on a stream of records: each record that was not taken, and the end of the stream.
use Rattle.std.specs.Prelude.{ℕ, ◌+◌, Bool, true, false, not, ◌||◌, ◌==◌, if◌then◌else◌, List, [], ◌∷◌, ◌++◌, length}
use Rattle.std.specs.Prelude.{codes, decimal, Result, Ok, Err}
use Rattle.route_wire.specs.Fields.{Fields}
use Rattle.route_join.specs.declared.table.TakeError.TheVariants.{NoMemory}
use Rattle.route_join.specs.Taken.{number_of}
use Rattle.ev_report.specs.declared.ending.Ending.{Ending}
use Rattle.ev_report.specs.declared.ending.Ending.TheVariants.{Ended, Failed, Faulty, Unended}
use Rattle.ev_report.specs.declared.status.Status.{Status}
use Rattle.ev_report.specs.declared.status.Status.TheVariants as statuses

-- ---- lines

-- two numbers, each behind its words
abbrev pub line : List ℕ → ℕ → List ℕ → ℕ → List ℕ
line first number second other = first ++ decimal number ++ second ++ decimal other ++ codes "\n"

-- `record N refused C`
abbrev pub refused_line : ℕ → ℕ → List ℕ
refused_line number refusal = line (codes "record ") number (codes " refused ") refusal

-- `fault C at record N`
abbrev pub fault_line : ℕ → ℕ → List ℕ
fault_line fault number = line (codes "fault ") fault (codes " at record ") number

-- `truncated K at record N`
abbrev pub truncated_line : ℕ → ℕ → List ℕ
truncated_line octets number = line (codes "truncated ") octets (codes " at record ") number

-- ---- notes

-- a line for each record that wasn't taken; the first has this number
abbrev pub refusals_from : ℕ → List (Result Fields ℕ) → List ℕ
refusals_from number [] = []
refusals_from number (Ok update ∷ outcomes) = refusals_from (number + 1) outcomes
refusals_from number (Err refusal ∷ outcomes) = refused_line number refusal ++ refusals_from (number + 1) outcomes

-- a line for the fault that was shown, or for the record that the input's end cut
abbrev pub end_note : Ending → ℕ → List ℕ → List ℕ
end_note Ended number rest = if length rest == 0 then [] else truncated_line (length rest) number
end_note Failed number rest = []
end_note (Faulty fault) number rest = fault_line fault number
end_note Unended number rest = []

-- all notes on a stream of records, from number 1 on, and on the rest after them
abbrev pub notes_of : List (Result Fields ℕ) → Ending → List ℕ → List ℕ
notes_of outcomes ending rest = refusals_from 1 outcomes ++ end_note ending (length outcomes + 1) rest

-- ---- statuses

-- a read failed, or none came to the end
abbrev pub has_stopped : Ending → Bool
has_stopped Ended = false
has_stopped Failed = true
has_stopped (Faulty fault) = false
has_stopped Unended = true

-- the stream ends with a fault or with a cut record
abbrev pub is_broken : Ending → List ℕ → Bool
is_broken Ended rest = not (length rest == 0)
is_broken Failed rest = false
is_broken (Faulty fault) rest = true
is_broken Unended rest = false

-- there was no memory for some update
abbrev pub ran_out_of_memory : List (Result Fields ℕ) → Bool
ran_out_of_memory [] = false
ran_out_of_memory (Ok update ∷ outcomes) = ran_out_of_memory outcomes
ran_out_of_memory (Err refusal ∷ outcomes) = refusal == number_of NoMemory || ran_out_of_memory outcomes

-- the greatest that applies: 4 where a device failed, 3 where memory was refused, 1 for a broken stream, else 0
abbrev pub status_of : Bool → Bool → Bool → Status
status_of has_failed is_out_of_memory is_broken =
    if has_failed then statuses.Device else if is_out_of_memory then statuses.Memory else
    if is_broken then statuses.Broken else statuses.Done
