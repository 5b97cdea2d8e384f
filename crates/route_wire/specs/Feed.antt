-- A feed: the octets that it holds of a stream that comes in pieces.
use Rattle.std.specs.Prelude.{◌≡◌, ℕ, ◌<◌, ◌≤◌, Bool, true, false, ◌==◌, if◌then◌else◌, List, [], ◌∷◌, ◌++◌, length}
use Rattle.std.specs.Prelude.{take, Result, Ok, Err}
use Rattle.std.specs.Bool.{OnTrue, OnFalse}
use Rattle.route_wire.specs.declared.stream.Whole.{Whole}
use Rattle.route_wire.specs.declared.stream.Whole.TheVariants.{Rest, Fault, Length}
use Rattle.route_wire.specs.declared.stream.Next.{Next}
use Rattle.route_wire.specs.declared.stream.Next.TheVariants.{More, Record, Refused, Fault as Faulty}
use Rattle.route_wire.specs.declared.stream.Answer.{Answer}
use Rattle.route_wire.specs.declared.stream.Answer.TheVariants.{More as Unfed, Record as Read, Refused as Denied}
use Rattle.route_wire.specs.declared.stream.Answer.TheVariants.{Fault as Broken}
use Rattle.route_wire.specs.declared.stream.Truncated.{Truncated}
use Rattle.route_wire.specs.Fields.{Fields}
use Rattle.route_wire.specs.Stream.{whole_up_to}
use Rattle.route_wire.specs.Record.{reading, ReadsUpTo}

-- the newest version that it reads, and the octets of its record so far
pub record Held : Type 0 where
  pub newest : ℕ
  pub rest : List ℕ

abbrev pub is_rest : Whole → Bool
is_rest Rest = true
is_rest (Fault fault) = false
is_rest (Length n) = false

abbrev pub is_fault : Whole → Bool
is_fault Rest = false
is_fault (Fault fault) = true
is_fault (Length n) = false

-- the result for the held octets
abbrev pub shown : Held → Whole
shown h = whole_up_to h.newest h.rest

-- no octet is held after a record or a fault is whole
abbrev pub IsHeld : ℕ → List ℕ → Type 0
IsHeld newest rest = (k : ℕ) → k < length rest → is_rest (whole_up_to newest (take k rest)) ≡ true

-- Of a piece the next n octets are taken: until a record or a fault is whole, or the piece ends.
pub record Takes (old new : Held) (piece : List ℕ) (n : ℕ) : Type 0 where
  pub version : new.newest ≡ old.newest
  pub fits : n ≤ length piece
  pub taken : new.rest ≡ old.rest ++ take n piece
  pub unfinished : (k : ℕ) → k < n → is_rest (whole_up_to old.newest (old.rest ++ take k piece)) ≡ true
  pub ended : is_rest (shown new) ≡ true → n ≡ length piece

-- after a fault all octets are taken, and none is held
pub record Skips (old new : Held) (piece : List ℕ) (n : ℕ) : Type 0 where
  pub unchanged : new ≡ old
  pub all : n ≡ length piece

abbrev pub Feeds : Held → Held → List ℕ → ℕ → Type 0
Feeds old new piece n = OnTrue (is_fault (shown old)) (Skips old new piece n)
    × OnFalse (is_fault (shown old)) (Takes old new piece n)

-- the answer of `next`: nothing yet, the answer to a whole record, or the fault
abbrev pub answer_of : Result Fields ℕ → Next
answer_of (Ok u) = Record u
answer_of (Err refusal) = Refused refusal

-- the answer of a call that writes the update of a record elsewhere
abbrev pub next_with : Answer → Fields → Next
next_with Unfed u = More
next_with Read u = Record u
next_with (Denied refusal) u = Refused refusal
next_with (Broken fault) u = Faulty fault

abbrev pub next_by : Whole → List ℕ → Next
next_by Rest rest = More
next_by (Fault fault) rest = Faulty fault
next_by (Length n) rest = answer_of (reading rest)

abbrev pub next_of : Held → Next
next_of h = next_by (shown h) h.rest

-- `next` returns a whole record once
abbrev pub rest_by : Whole → List ℕ → List ℕ
rest_by Rest rest = rest
rest_by (Fault fault) rest = rest
rest_by (Length n) rest = []

abbrev pub after_next : Held → Held
after_next h = record { newest = h.newest; rest = rest_by (shown h) h.rest }

-- Octets of a piece are taken, and then the next answer is returned.
pub record TakesNext (old new : Held) (piece : List ℕ) (n : ℕ) (told : Next) : Type 0 where
  pub mid : Held
  pub feeds : Feeds old mid piece n
  pub next : told ≡ next_of mid
  pub after : new ≡ after_next mid

-- the end of the stream
abbrev pub end_of : Held → Result (Unit {0}) Truncated
end_of h = if length h.rest == 0 then Ok tt else Err (record { octets = length h.rest })

-- ---- the stream so far
-- the answers that an answer of `next` adds
abbrev pub added : Next → List (Result Fields ℕ)
added More = []
added (Record u) = Ok u ∷ []
added (Refused refusal) = Err refusal ∷ []
added (Faulty fault) = []

-- These answers were given for the stream taken so far, and the rest is held. Octets after a fault are not held.
pub record HasRead (h : Held) (stream : List ℕ) (answers : List (Result Fields ℕ)) : Type 0 where
  pub skipped : List ℕ
  pub reads : ReadsUpTo h.newest stream answers (h.rest ++ skipped)
  pub faulty : is_fault (shown h) ≡ false → skipped ≡ []
