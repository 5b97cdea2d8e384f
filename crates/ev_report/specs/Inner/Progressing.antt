-- How far the records of a stream were taken.
use Rattle.std.specs.Prelude.{◌≡◌, ℕ, ◌+◌, true, false, ◌||◌, List, [], ◌++◌, length, take, Result, Ok, Err}
use Rattle.ether_wire.specs.Ends.{End, Source}
use Rattle.route_wire.specs.declared.stream.Whole.{Whole}
use Rattle.route_wire.specs.declared.stream.Whole.TheVariants.{Rest, Fault}
use Rattle.route_wire.specs.Fields.{Fields}
use Rattle.route_wire.specs.Record.{is_length}
use Rattle.route_wire.specs.Feed.{shown, HasRead}
use Rattle.ev_report.specs.declared.ending.Ending.{Ending}
use Rattle.ev_report.specs.declared.stream.Intake.{Intake}
use Rattle.ev_report.specs.Notes.{refused_line, refusals_from, ran_out_of_memory}
use Rattle.ev_report.specs.Ends.{fault_in, fault_told, Gave, Tells}
use Rattle.ev_report.specs.Report.{BecomeAll, fresh}
use Rattle.ev_report.specs.Inner.Report.{table_after_all}

-- the records on their way into a table, and the notes on them
pub record State : Type 0 where
  pub intake : Intake
  pub notes : End

abbrev pub state : Intake → End → State
state intake notes = record { intake = intake; notes = notes }

-- nothing was taken yet of records up to a version
abbrev pub new_intake : ℕ → List ℕ → Intake
new_intake newest originators = record {
  feed = record { newest = newest; rest = [] };
  table = fresh originators;
  count = 0;
  is_out_of_memory = false;
  is_told = true;
}

-- ---- records

-- a record more that wasn't taken, and its note
pub record Refuses (refusal : ℕ) (old new : State) : Type 0 where
  pub kept : new.intake ≡ record old.intake { count = old.intake.count + 1; is_told = new.intake.is_told }
  pub told : Tells old.notes new.notes old.intake.is_told new.intake.is_told
      (refused_line (old.intake.count + 1) refusal)

-- records more of which this became
pub record Counts (outcomes : List (Result Fields ℕ)) (old new : State) : Type 0 where
  pub count : new.intake.count ≡ old.intake.count + length outcomes
  pub out_of_memory : new.intake.is_out_of_memory ≡ (old.intake.is_out_of_memory || ran_out_of_memory outcomes)
  pub told : Tells old.notes new.notes old.intake.is_told new.intake.is_told
      (refusals_from (old.intake.count + 1) outcomes)

-- records of these answers more, one after the other
pub record TakesAnswers (answers : List (Result Fields ℕ)) (old new : State) : Type 0 where
  pub outcomes : List (Result Fields ℕ)
  pub became : BecomeAll old.intake.table answers outcomes
  pub table_is : new.intake.table ≡ table_after_all old.intake.table outcomes
  pub counts : Counts outcomes old new

-- ---- octets

-- octets more, of which the feed gives answers
pub record TakesOctets (octets : List ℕ) (old new : State) : Type 0 where
  pub answers : List (Result Fields ℕ)
  pub read : (stream : List ℕ) (earlier : List (Result Fields ℕ)) → HasRead old.intake.feed stream earlier
      → HasRead new.intake.feed (stream ++ octets) (earlier ++ answers)
  pub version : new.intake.feed.newest ≡ old.intake.feed.newest
  pub taken : TakesAnswers answers old new

-- the octets that a step takes of a piece: this number, or all of it at a fault
abbrev pub taken_by : Result ℕ ℕ → List ℕ → List ℕ
taken_by (Ok n) piece = take n piece
taken_by (Err fault) piece = piece

-- the octets held then show this fault, or else a proper beginning of a record
abbrev pub shown_by : {A : Type 0} → Result A ℕ → Whole
shown_by (Ok taken) = Rest
shown_by (Err fault) = Fault fault

-- all octets that a reader gave, up to where the reading ended so
pub record TakesInput (newest : ℕ) (ending : Ending) (reader reader' : Source) (old new : State) : Type 0 where
  pub input : List ℕ
  pub gave : Gave newest reader reader' input ending
  pub octets : TakesOctets input old new
  pub shows : fault_told ending ≡ fault_in (shown new.intake.feed)
  pub none_held : is_length (shown new.intake.feed) ≡ false
