-- An Ethernet frame (IEEE 802.3, section 3.1.1) without preamble and check sequence: destination 6,
-- source 6, type or length 2, and the rest.
use Rattle.std.specs.Prelude.{◌≡◌, ℕ, ◌+◌, ◌-◌, ◌≤◌, Bool, true, ◌&&◌, nat_lt, nat_le, if◌then◌else◌, List, [], ◌∷◌}
use Rattle.std.specs.Prelude.{length, take, drop, Option, Some, None, Result, Ok, Err}
use Rattle.byteorder.specs.Endian.{big_number}
use Rattle.ether_wire.specs.Numbers.{SOURCE_PLACE, TYPE_PLACE, PAYLOAD_PLACE, MOST_OCTETS}
use Rattle.ether_wire.specs.Numbers.{MOST_LENGTH, TOO_SHORT, TOO_LONG, LENGTH_BEYOND}
use Rattle.ether_wire.specs.declared.frame.FrameRefusal.{FrameRefusal}
use Rattle.ether_wire.specs.declared.frame.FrameRefusal.TheVariants.{Short, Long, BadLength}
use Rattle.ether_wire.specs.declared.frame.Kind.{Kind}
use Rattle.ether_wire.specs.declared.frame.Kind.TheVariants.{Length, EtherType}

-- the first answer whose test is met
abbrev pub first_of : {X : Type 0} → List (Bool × X) → Option X
first_of [] = None
first_of (test ∷ tests) = if test.0 then Some test.1 else first_of tests

abbrev pub destination_of : List ℕ → ℕ
destination_of octets = big_number 6 octets

abbrev pub source_of : List ℕ → ℕ
source_of octets = big_number 6 (drop SOURCE_PLACE octets)

-- the two octets after the addresses
abbrev pub type_or_length : List ℕ → ℕ
type_or_length octets = big_number 2 (drop TYPE_PLACE octets)

-- a value of at most 1500 is a length (IEEE 802.3, section 3.2.6), any other a type
abbrev pub has_length : List ℕ → Bool
has_length octets = nat_le (type_or_length octets) MOST_LENGTH

abbrev pub kind_of : List ℕ → Kind
kind_of octets = if has_length octets then Length (type_or_length octets) else EtherType (type_or_length octets)

-- after a length, that number of octets, which padding may follow; after a type, all octets
abbrev pub payload_of : List ℕ → List ℕ
payload_of octets = if has_length octets then take (type_or_length octets) (drop PAYLOAD_PLACE octets) else drop
    PAYLOAD_PLACE octets

-- there are more octets than the longest frame has
abbrev pub is_too_long : List ℕ → Bool
is_too_long octets = nat_lt MOST_OCTETS (length octets)

-- a frame has 14 to 9,018 octets, and a length that isn't beyond them
abbrev pub refusal_tests : List ℕ → List (Bool × FrameRefusal)
refusal_tests octets =
    (nat_lt (length octets) PAYLOAD_PLACE, Short) ∷
    (is_too_long octets, Long) ∷
    (has_length octets && nat_lt (length octets - PAYLOAD_PLACE) (type_or_length octets), BadLength) ∷ []

abbrev pub read_as : {X E : Type 0} → X → Option E → Result X E
read_as x None = Ok x
read_as x (Some e) = Err e

-- the frame of these octets, or the refusal
unfoldable pub frame_of : List ℕ → Result (List ℕ) FrameRefusal
frame_of octets = read_as octets (first_of (refusal_tests octets))

-- the octets of a frame
pub record IsFrame (octets : List ℕ) : Type 0 where
  pub least : PAYLOAD_PLACE ≤ length octets
  pub most : length octets ≤ MOST_OCTETS
  pub fits : has_length octets ≡ true → PAYLOAD_PLACE + type_or_length octets ≤ length octets

abbrev pub refusal_number : FrameRefusal → ℕ
refusal_number Short = TOO_SHORT
refusal_number Long = TOO_LONG
refusal_number BadLength = LENGTH_BEYOND
