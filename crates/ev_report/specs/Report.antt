-- The basis of a report: a stream's records, one after the other, and the table that takes them.
use Rattle.std.specs.Prelude.{◌≡◌, ℕ, ◌||◌, ◌⊎◌, List, [], ◌∷◌, MatchBool, None, Result, Ok, Err}
use Rattle.std.specs.FinMap.{empty}
use Rattle.route_wire.specs.Fields.{Fields}
use Rattle.route_wire.specs.Stream.{whole_up_to}
use Rattle.route_wire.specs.Record.{AnswersUpTo}
use Rattle.route_join.specs.declared.table.TakeError.TheVariants.{UnknownOriginator, NoMemory}
use Rattle.route_join.specs.Taken.{number_of}
use Rattle.route_join.specs.Table.{Table, value_at, is_listed, with_update, IsTableOf}
use Rattle.route_join.specs.Report.{report_of}
use Rattle.ev_report.specs.declared.ending.Ending.{Ending}
use Rattle.ev_report.specs.Notes.{notes_of, has_stopped, is_broken, ran_out_of_memory, status_of}
use Rattle.ev_report.specs.Ends.{Devices, has_failed, fault_in, fault_told, Gave, Holds}
use Rattle.ev_report.specs.declared.status.Status.{Status}

-- A record's update is taken by the table, or there is no memory, which only a new register needs, or its originator
-- isn't
-- listed. A refused record stays refused.
abbrev pub Becomes : Table → Result Fields ℕ → Result Fields ℕ → Type 0
Becomes t (Err refusal) outcome = outcome ≡ Err refusal
Becomes t (Ok u) outcome =
    MatchBool (is_listed t u.register.originator) ((outcome ≡ Ok u)
    ⊎ ((outcome ≡ Err (number_of NoMemory)) × (value_at t u.register ≡ None)))
    (outcome ≡ Err (number_of UnknownOriginator))

-- the table behind a record
abbrev pub table_after : Table → Result Fields ℕ → Table
table_after t (Ok u) = with_update t u
table_after t (Err refusal) = t

-- what became of the answers, one after the other
abbrev pub BecomeAll : Table → List (Result Fields ℕ) → List (Result Fields ℕ) → Type 0
BecomeAll t [] [] = Unit {0}
BecomeAll t [] (outcome ∷ outcomes) = ⊥
BecomeAll t (answer ∷ answers) [] = ⊥
BecomeAll t (answer ∷ answers) (outcome ∷ outcomes) = Becomes t answer outcome
    × BecomeAll (table_after t outcome) answers outcomes

-- the updates that were taken
abbrev pub taken_of : List (Result Fields ℕ) → List Fields
taken_of [] = []
taken_of (Ok u ∷ outcomes) = u ∷ taken_of outcomes
taken_of (Err refusal ∷ outcomes) = taken_of outcomes

-- a table that listens to these originators and has taken nothing
abbrev pub fresh : List ℕ → Table
fresh originators = record { originators = originators; registers = empty }

-- The answers of the input's records up to a version, up to its rest; what became of each; and the table of the updates
-- that were taken.
pub record IsTaken (newest : ℕ) (originators input : List ℕ) (outcomes : List (Result Fields ℕ)) (rest : List ℕ)
    (t : Table) : Type 0 where
  pub answers : List (Result Fields ℕ)
  pub answered : AnswersUpTo newest input answers rest
  pub became : BecomeAll (fresh originators) answers outcomes
  pub table_of : IsTableOf (taken_of outcomes) t

-- the program's output, by the end of reading, the results of the records, and the table that took them
abbrev pub Output : Type 0
Output = Ending → List (Result Fields ℕ) → Table → List ℕ

-- The input was read and its records, up to a version, were taken; the output follows from them, the notes name every
-- other record and the end, and the status is the greatest that applies.
pub record Renders (newest : ℕ) (output : Output) (originators : List ℕ) (before after : Devices) (status : Status) :
    Type 0 where
  pub input : List ℕ
  pub ending : Ending
  pub outcomes : List (Result Fields ℕ)
  pub rest : List ℕ
  pub table : Table
  pub gave : Gave newest before.input after.input input ending
  pub shows : fault_told ending ≡ fault_in (whole_up_to newest rest)
  pub taken : IsTaken newest originators input outcomes rest table
  pub written : Holds before.out after.out (output ending outcomes table)
  pub noted : Holds before.notes after.notes (notes_of outcomes ending rest)
  pub status_is : status ≡ status_of (has_stopped ending ||
      (has_failed before.out after.out || has_failed before.notes after.notes))
      (ran_out_of_memory outcomes) (is_broken ending rest)

-- A report is that of the table, of records of all versions, up to 3.
abbrev pub Reports : List ℕ → Devices → Devices → Status → Type 0
Reports originators before after status = Renders 3 (λ ending outcomes t. report_of t) originators before after status
