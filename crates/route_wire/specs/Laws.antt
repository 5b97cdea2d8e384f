-- The laws on newer and older updates, and on consecutive records.
use Rattle.std.specs.Prelude.{◌≡◌, ◌≢◌, ◌⊎◌, ℕ, ◌≤◌, ◌<◌, true, false, List, [], ◌++◌, Result}
use Rattle.std.specs.Cmp.{IsTotalOrder}
use Rattle.std.specs.FinMap.{IsAntisymmetric}
use Rattle.route_wire.specs.declared.update.Key.{Key}
use Rattle.route_wire.specs.declared.update.Value.{Value}
use Rattle.route_wire.specs.Fields.{Fields}
use Rattle.route_wire.specs.Order.{key_cmp, register_cmp, value_cmp, is_newer}
use Rattle.route_wire.specs.Stream.{whole_up_to, IsWhole}
use Rattle.route_wire.specs.Record.{is_length, AnswersUpTo}
use Rattle.route_wire.specs.Feed.{Held, is_rest, shown, HasRead}

-- two updates of a register of which neither is newer are the same
abbrev pub NeverEquallyNew : Type 0
NeverEquallyNew = (u v : Fields) → u.register ≡ v.register → is_newer u.value v.value ≡ false
    → is_newer v.value u.value ≡ false → u ≡ v

-- values are totally ordered, and equal in that order only if they are the same
abbrev pub NewestFirst : Type 0
NewestFirst = IsTotalOrder value_cmp × IsAntisymmetric value_cmp

-- a value of a later incarnation, or of the same incarnation with a higher counter, is newer
abbrev pub NextNewer : Type 0
NextNewer = (old new : Value) → old.incarnation ≤ new.incarnation
    → (old.incarnation ≡ new.incarnation → old.counter < new.counter) → is_newer new old ≡ true

-- one of the same incarnation with a lower counter isn't
abbrev pub NotNewerLower : Type 0
NotNewerLower = (low high : Value) → low.incarnation ≡ high.incarnation → low.counter < high.counter
    → is_newer low high ≡ false

-- one of an earlier incarnation isn't
abbrev pub NotNewerEarlier : Type 0
NotNewerEarlier = (early late : Value) → early.incarnation < late.incarnation → is_newer early late ≡ false

-- so a newer value is of no earlier incarnation
abbrev pub NewerNotEarlier : Type 0
NewerNotEarlier = (new old : Value) → is_newer new old ≡ true → old.incarnation ≤ new.incarnation

-- no value is newer than itself
abbrev pub NotNewerItself : Type 0
NotNewerItself = (v : Value) → is_newer v v ≡ false

-- two keys are the same, or they aren't
abbrev pub KeyOrOther : Type 0
KeyOrOther = (k j : Key) → (k ≡ j) ⊎ (k ≢ j)

-- the registers of one originator are in the order of their keys
abbrev pub KeysInOrder : Type 0
KeysInOrder = (originator : ℕ) (k j : Key) → register_cmp (record { originator = originator; key = k })
    (record { originator = originator; key = j }) ≡ key_cmp k j

-- a whole record that begins with a whole record is that record
abbrev pub NoRecordBeginsAnother : Type 0
NoRecordBeginsAnother = (bytes more : List ℕ) → IsWhole bytes → IsWhole (bytes ++ more) → more ≡ []

-- two readings of a stream to its end are the same
abbrev pub OneReading : Type 0
OneReading = (newest : ℕ) (stream : List ℕ) (answers others : List (Result Fields ℕ)) (rest last : List ℕ)
    → AnswersUpTo newest stream answers rest → AnswersUpTo newest stream others last
    → (answers ≡ others) × (rest ≡ last)

-- If a feed that was given a stream in any pieces holds no whole record, it gave the stream's answers, and shows how
-- the stream ends.
abbrev pub EveryCutting : Type 0
EveryCutting = (h : Held) (stream : List ℕ) (answers : List (Result Fields ℕ)) → HasRead h stream answers
    → is_length (shown h) ≡ false
    → (rest : List ℕ) × AnswersUpTo h.newest stream answers rest × (whole_up_to h.newest rest ≡ shown h)
    × (is_rest (shown h) ≡ true → rest ≡ h.rest)

-- two feeds that were given one stream in any pieces gave the same answers, and have the same result
abbrev pub CuttingsAgree : Type 0
CuttingsAgree = (h g : Held) (stream : List ℕ) (answers others : List (Result Fields ℕ)) → h.newest ≡ g.newest
    → HasRead h stream answers → HasRead g stream others
    → is_length (shown h) ≡ false → is_length (shown g) ≡ false
    → (answers ≡ others) × (shown h ≡ shown g) × (is_rest (shown h) ≡ true → h.rest ≡ g.rest)
