-- The numbers of a frame, each with the section that it is from.
use Rattle.std.specs.Prelude.{ℕ}

-- the places of the source, of the type or length, and of the rest (IEEE 802.3, section 3.1.1)
abbrev pub SOURCE_PLACE : ℕ
SOURCE_PLACE = 6

abbrev pub TYPE_PLACE : ℕ
TYPE_PLACE = 12

abbrev pub PAYLOAD_PLACE : ℕ
PAYLOAD_PLACE = 14

-- the octets of the longest frame: those of a jumbo frame, 9,000 of payload and 18 more with a check sequence
abbrev pub MOST_OCTETS : ℕ
MOST_OCTETS = 9018

-- the greatest length; a greater value is a type (IEEE 802.3, section 3.2.6)
abbrev pub MOST_LENGTH : ℕ
MOST_LENGTH = 1500

-- the refusals by number
abbrev pub TOO_SHORT : ℕ
TOO_SHORT = 1

abbrev pub TOO_LONG : ℕ
TOO_LONG = 2

abbrev pub LENGTH_BEYOND : ℕ
LENGTH_BEYOND = 3
