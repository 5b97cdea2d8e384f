-- The numbers of a VXLAN header, each with the section that it is from.
use Rattle.std.specs.Prelude.{ℕ}

-- the octets of the header, the place of the VNI, and the I flag (RFC 7348, section 5)
abbrev pub HEADER_LEN : ℕ
HEADER_LEN = 8

abbrev pub VNI_PLACE : ℕ
VNI_PLACE = 4

abbrev pub INSTANCE_FLAG : ℕ
INSTANCE_FLAG = 8

-- the refusals by number
abbrev pub TOO_SHORT : ℕ
TOO_SHORT = 1

abbrev pub NO_INSTANCE : ℕ
NO_INSTANCE = 2
