-- Streams of records: the result for the front of a stream.
use Rattle.std.specs.Prelude.{◌≡◌, ℕ, ◌+◌, ◌<◌, ◌≤◌, Bool, not, ◌&&◌, ◌||◌, ◌==◌, nat_lt, if◌then◌else◌, List, [], ◌∷◌}
use Rattle.std.specs.Prelude.{length, take, drop, slice_index, Option, Some, None}
use Rattle.byteorder.specs.Endian.{big_number}
use Rattle.ether_wire.specs.Frame.{first_of}
use Rattle.route_wire.specs.Numbers.{BAD_MAGIC, BAD_VERSION, BAD_KIND, BAD_LENGTH}
use Rattle.route_wire.specs.Numbers.{MAGIC_FIRST, MAGIC_SECOND, VERSION_PLACE, KIND_PLACE}
use Rattle.route_wire.specs.Numbers.{LENGTH_PLACE, LENGTH_END, HEAD, FIRST_VERSION, NEWEST}
use Rattle.route_wire.specs.Numbers.{ADVERTISES, WITHDRAWS, LEAST_FIRST, LEAST_LATER, MOST}
use Rattle.route_wire.specs.declared.stream.Whole.{Whole}
use Rattle.route_wire.specs.declared.stream.Whole.TheVariants.{Rest, Fault, Length}

-- the number of octets after the length field, and its minimum
abbrev pub follow_of : List ℕ → ℕ
follow_of s = big_number 2 (drop LENGTH_PLACE s)

abbrev pub least_of : List ℕ → ℕ
least_of s = if slice_index s VERSION_PLACE == FIRST_VERSION then LEAST_FIRST else LEAST_LATER

-- the faults of a stream of records up to a version, each at the first octet that shows it
abbrev pub fault_tests : ℕ → List ℕ → List (Bool × ℕ)
fault_tests newest s =
    (nat_lt 0 (length s) && not (slice_index s 0 == MAGIC_FIRST), BAD_MAGIC)
    ∷ (nat_lt 1 (length s) && not (slice_index s 1 == MAGIC_SECOND), BAD_MAGIC)
    ∷ (
      nat_lt VERSION_PLACE (length s) && (slice_index s VERSION_PLACE == 0 || nat_lt newest
          (slice_index s VERSION_PLACE)),
      BAD_VERSION,
    )
    ∷ (
      nat_lt KIND_PLACE (length s) && (not (slice_index s KIND_PLACE == ADVERTISES)
          && not (slice_index s KIND_PLACE == WITHDRAWS)),
      BAD_KIND,
    )
    ∷ (nat_lt LENGTH_END (length s) && (nat_lt (follow_of s) (least_of s) || nat_lt MOST (follow_of s)), BAD_LENGTH)
    ∷ []

abbrev pub fault_of : ℕ → List ℕ → Option ℕ
fault_of newest s = first_of (fault_tests newest s)

-- if there is no fault, a record is whole if all octets that its length counts are there
abbrev pub whole_or_rest : List ℕ → Option ℕ → Whole
whole_or_rest s (Some fault) = Fault fault
whole_or_rest s None = if nat_lt (length s) HEAD then Rest else if nat_lt (length s)
    (HEAD + follow_of s) then Rest else Length (HEAD + follow_of s)

abbrev pub whole_up_to : ℕ → List ℕ → Whole
whole_up_to newest s = whole_or_rest s (fault_of newest s)

-- the result for the front of a stream of records of all versions
abbrev pub whole_of : List ℕ → Whole
whole_of s = whole_up_to NEWEST s

-- the octets are one whole record
abbrev pub IsWhole : List ℕ → Type 0
IsWhole bytes = whole_of bytes ≡ Length (length bytes)

-- a whole record that was found is at the front of the stream
abbrev pub FindsWhole : List ℕ → Whole → Type 0
FindsWhole s Rest = Unit {0}
FindsWhole s (Fault fault) = Unit {0}
FindsWhole s (Length n) = (0 < n) × (n ≤ length s) × IsWhole (take n s)
