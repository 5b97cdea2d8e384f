-- The records of a connection: the answers of its stream, those that are passed on, and the counts of refusals.
use Rattle.std.specs.Prelude.{◌≡◌, ℕ, ◌+◌, ◌<◌, ◌^◌, ◌-◌, min, ◌==◌, if◌then◌else◌, List, [], ◌∷◌, ◌++◌}
use Rattle.std.specs.Prelude.{length, slice_index, Option, Some, None, Result, Ok, Err}
use Rattle.route_wire.specs.declared.stream.Whole.{Whole}
use Rattle.route_wire.specs.declared.stream.Whole.TheVariants.{Rest, Fault, Length}
use Rattle.route_wire.specs.Fields.{Fields}
use Rattle.route_wire.specs.Stream.{whole_of}
use Rattle.route_wire.specs.Record.{Answers}
use Rattle.route_wire.specs.Feed.{Held, HasRead}
use Rattle.ether_wire.specs.Ends.{Source}
use Rattle.ev_links.specs.Coming.{behind}
use Rattle.ev_report.specs.declared.ending.Ending.{Ending}
use Rattle.ev_report.specs.Ends.{Gave, fault_told}
use Rattle.ev_exchange.specs.declared.receiver.TheConstants.{KINDS}
use Rattle.ev_exchange.specs.declared.stream_end.StreamEnd.{StreamEnd}
use Rattle.ev_exchange.specs.declared.stream_end.StreamEnd.TheVariants.{Whole as Ended, Cut, Faulty}

-- the feed, which holds an unfinished record, and the number of refused records, by the refusal's number
pub record Received : Type 0 where
  pub feed : Held
  pub counts : List ℕ

-- the trace of an entrance: the updates and refusals that it was given; `None` if it keeps no trace
abbrev pub Given : Type 0
Given = Option (List (Result Fields ℕ))

-- ---- refusals

-- the number of answers that are refusals of this kind
abbrev pub times : ℕ → List (Result Fields ℕ) → ℕ
times kind [] = 0
times kind (Ok u ∷ answers) = times kind answers
times kind (Err refusal ∷ answers) = (if refusal == kind then 1 else 0) + times kind answers

-- a count stops at the greatest number of 64 bits
abbrev pub capped : ℕ → ℕ
capped n = min n (2 ^ 64 - 1)

-- each kind of refusal is counted
abbrev pub AreCounts : List ℕ → List (Result Fields ℕ) → Type 0
AreCounts counts answers = (kind : ℕ) → kind < KINDS → slice_index counts kind ≡ capped (times kind answers)

-- ---- the answers that are passed on

-- of one answer after earlier ones: its update, or its refusal if that is the first of its kind
abbrev pub news_of : List (Result Fields ℕ) → Result Fields ℕ → List (Result Fields ℕ)
news_of earlier (Ok u) = Ok u ∷ []
news_of earlier (Err kind) = if times kind earlier == 0 then Err kind ∷ [] else []

-- of answers after earlier ones, in their order
abbrev pub handed_behind : List (Result Fields ℕ) → List (Result Fields ℕ) → List (Result Fields ℕ)
handed_behind earlier [] = []
handed_behind earlier (answer ∷ answers) = news_of earlier answer
    ++ handed_behind (earlier ++ answer ∷ []) answers

-- of all answers of a stream
abbrev pub handed : List (Result Fields ℕ) → List (Result Fields ℕ)
handed answers = handed_behind [] answers

-- ---- the stream so far

-- The receiver's feed read these answers from the stream so far. Each refusal among them is counted. An entrance whose
-- trace was `start` was given the answers that are passed on.
pub record HasReceived (r : Received) (start given : Given) (stream : List ℕ) : Type 0 where
  pub answers : List (Result Fields ℕ)
  pub read : HasRead r.feed stream answers
  pub counts : AreCounts r.counts answers
  pub handed_on : given ≡ behind start (handed answers)

-- the end of a stream with this rest after its whole records
abbrev pub end_by : Whole → List ℕ → StreamEnd
end_by Rest rest = if length rest == 0 then Ended else Cut (length rest)
end_by (Fault fault) rest = Faulty fault
end_by (Length n) rest = Ended

-- These are the answers of the stream, by its definition, up to the rest. An entrance whose trace was `start` was given
-- those that are passed on, each refusal among them is counted, and `end` is the end of the stream.
pub record Delivers (stream : List ℕ) (start given : Given) (counts : List ℕ)
    (end : StreamEnd) : Type 0 where
  pub answers : List (Result Fields ℕ)
  pub rest : List ℕ
  pub answered : Answers stream answers rest
  pub handed_on : given ≡ behind start (handed answers)
  pub counted : AreCounts counts answers
  pub end_is : end ≡ end_by (whole_of rest) rest

-- ---- a reader's stream

-- the fault that the end of a stream shows
abbrev pub fault_by : StreamEnd → Option ℕ
fault_by Ended = None
fault_by (Cut octets) = None
fault_by (Faulty fault) = Some fault

-- A reader gave octets up to its end, to a failure, or to the first fault of the stream that they form, which has
-- records of version 3 at most; or 2^40 reads didn't reach any of these. An entrance was given the answers of that
-- stream that are passed on, refusals are counted, and `end` is the end of the stream.
pub record Receives (old new : Source) (start given : Given) (counts : List ℕ) (end : StreamEnd) (ending : Ending) :
    Type 0 where
  pub input : List ℕ
  pub gave : Gave 3 old new input ending
  pub delivers : Delivers input start given counts end
  pub shows : fault_told ending ≡ fault_by end
