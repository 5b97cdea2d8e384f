-- What became of the program's devices: a reader and two writers.
use Rattle.std.specs.Prelude.{◌≡◌, ◌≢◌, ℕ, ◌+◌, ◌^◌, ◌≤◌, ◌<◌, Bool, true, false, ◌⊎◌, ◌&&◌, if◌then◌else◌, nat_lt}
use Rattle.std.specs.Prelude.{List, [], ◌∷◌, ◌++◌, length, Option, Some, None}
use Rattle.std.specs.List.{concat}
use Rattle.std.specs.Io.KnownBytes.{prepend_known, IsAtEnd}
use Rattle.ether_wire.specs.Ends.{End, Source, Allows, IsOpen, with_text}
use Rattle.route_wire.specs.declared.stream.Whole.{Whole}
use Rattle.route_wire.specs.declared.stream.Whole.TheVariants.{Rest, Fault, Length}
use Rattle.route_wire.specs.Fields.{Fields}
use Rattle.route_wire.specs.Stream.{whole_up_to}
use Rattle.route_wire.specs.Record.{AnswersUpTo}
use Rattle.std.specs.Prelude.{Result}
use Rattle.ev_report.specs.declared.ending.Ending.{Ending}
use Rattle.ev_report.specs.declared.ending.Ending.TheVariants.{Ended, Failed, Faulty, Unended}
use Rattle.ev_report.specs.declared.status.Status.{Status}
use Rattle.ev_report.specs.declared.status.Status.TheVariants as statuses

-- all three
pub record Devices : Type 0 where
  pub input : Source
  pub out : End
  pub notes : End

abbrev pub devices : Source → End → End → Devices
devices input out notes = record { input = input; out = out; notes = notes }

-- the reader may be read 2^40 times, and each of them may fail once more
pub record AreOpen (d : Devices) : Type 0 where
  pub input : Allows (2 ^ 40) d.input
  pub out : IsOpen d.out
  pub notes : IsOpen d.notes

-- ---- reading

-- the fault that octets show
abbrev pub fault_in : Whole → Option ℕ
fault_in Rest = None
fault_in (Fault fault) = Some fault
fault_in (Length n) = None

-- the fault that an ending tells
abbrev pub fault_told : Ending → Option ℕ
fault_told Ended = None
fault_told Failed = None
fault_told (Faulty fault) = Some fault
fault_told Unended = None

-- the stream of these octets, of records up to a version, shows no fault
pub record IsFaultless (newest : ℕ) (octets : List ℕ) : Type 0 where
  pub answers : List (Result Fields ℕ)
  pub rest : List ℕ
  pub answered : AnswersUpTo newest octets answers rest
  pub faultless : fault_in (whole_up_to newest rest) ≡ None

-- each piece has an octet
abbrev pub AreSome : List (List ℕ) → Type 0
AreSome [] = Unit {0}
AreSome (piece ∷ pieces) = (0 < length piece) × AreSome pieces

-- Reads gave these pieces, one each; none failed, and none gave nothing.
pub record Gives (old new : Source) (pieces : List (List ℕ)) : Type 0 where
  pub given : old.octets ≡ prepend_known (concat pieces) new.octets
  pub some : AreSome pieces
  pub reads : new.reads ≡ old.reads + length pieces
  pub unfailed : new.failures ≡ old.failures

-- Behind those pieces a read came to the end or failed, or the piece of one shows a fault, or there were 2^40.
abbrev pub EndsBy : Ending → Source → Source → List (List ℕ) → List ℕ → Type 0
EndsBy Ended old new pieces input = IsAtEnd old.octets × (new ≡ record old { reads = old.reads + 1 })
    × (input ≡ concat pieces)
EndsBy Failed old new pieces input = (new ≡ record old { failures = old.failures + 1; reads = old.reads + 1 })
    × (input ≡ concat pieces)
EndsBy (Faulty fault) old new pieces input = (last : List ℕ) × Gives old new (last ∷ [])
    × (input ≡ concat pieces ++ last)
EndsBy Unended old new pieces input = (new ≡ old) × (length pieces ≡ 2 ^ 40) × (input ≡ concat pieces)

-- The reader gave these octets in at most 2^40 reads, in pieces without a fault up to a version, and then ended so.
pub record Gave (newest : ℕ) (old new : Source) (input : List ℕ) (ending : Ending) : Type 0 where
  pub pieces : List (List ℕ)
  pub behind : Source
  pub gives : Gives old behind pieces
  pub faultless : IsFaultless newest (concat pieces)
  pub ends : EndsBy ending behind new pieces input
  pub few : new.reads ≤ old.reads + 2 ^ 40

-- ---- writing

abbrev pub has_failed : End → End → Bool
has_failed old new = nat_lt old.failures new.failures

-- The writer holds these octets after its earlier content, or one call of it failed.
pub record Holds (old new : End) (octets : List ℕ) : Type 0 where
  pub written : new.failures ≡ old.failures → new ≡ with_text old octets
  pub failures : (new.failures ≡ old.failures) ⊎ (new.failures ≡ old.failures + 1)

-- The writer took this text, or a call failed and `after` is false. If `before` is false, a call has failed already,
-- and none was made.
pub record Tells (old new : End) (before after : Bool) (text : List ℕ) : Type 0 where
  pub kept : before ≡ false → (after ≡ false) × (new ≡ old)
  pub written : after ≡ true → new ≡ with_text old text
  pub failed : before ≡ true → after ≡ false → IsOpen old → new.failures ≡ old.failures + 1

-- A writer was given all that was held for it, or a call of it has failed since it had this many failures. After a
-- failed
-- call none was made.
pub record Finishes (failures : ℕ) (held end : End) (is_told : Bool) : Type 0 where
  pub passed : is_told ≡ true → (end ≡ held) × (held.failures ≡ failures)
  pub failed : is_told ≡ false → ((held.failures ≢ failures) × (end.failures ≡ held.failures))
      ⊎ ((held.failures ≡ failures) × (end.failures ≡ failures + 1))

-- Devices were given all that was held for them, or a call of a writer has failed since they had these many failures:
-- then
-- the status is 4.
pub record Passes (out_failures notes_failures : ℕ) (held after : Devices) (status last : Status) : Type 0 where
  pub is_written : Bool
  pub is_noted : Bool
  pub input : after.input ≡ held.input
  pub out : Finishes out_failures held.out after.out is_written
  pub notes : Finishes notes_failures held.notes after.notes is_noted
  pub status_is : last ≡ (if is_written && is_noted then status else statuses.Device)
