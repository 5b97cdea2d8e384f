-- The VXLAN header (RFC 7348, section 5): flags 1, reserved 3, VNI 3, reserved 1.
use Rattle.std.specs.Prelude.{ℕ, ◌/◌, ◌%◌, Bool, not, ◌==◌, nat_lt, List, [], ◌∷◌, ◌++◌, length, drop, slice_index}
use Rattle.std.specs.Prelude.{Result}
use Rattle.byteorder.specs.Endian.{big_number, big_bytes}
use Rattle.ether_wire.specs.Frame.{first_of, read_as}
use Rattle.vxlan_wire.specs.Numbers.{HEADER_LEN, VNI_PLACE, INSTANCE_FLAG, TOO_SHORT, NO_INSTANCE}
use Rattle.vxlan_wire.specs.declared.vxlan.VxlanRefusal.{VxlanRefusal}
use Rattle.vxlan_wire.specs.declared.vxlan.VxlanRefusal.TheVariants.{Short, NoInstance}

-- flags with only the I flag set, and the identifier
abbrev pub header_of : ℕ → List ℕ
header_of vni = INSTANCE_FLAG ∷ 0 ∷ 0 ∷ 0 ∷ (big_bytes 3 vni ++ (0 ∷ []))

-- the I flag of the first octet
abbrev pub has_instance : List ℕ → Bool
has_instance octets = slice_index octets 0 / INSTANCE_FLAG % 2 == 1

abbrev pub vni_of : List ℕ → ℕ
vni_of octets = big_number 3 (drop VNI_PLACE octets)

abbrev pub refusal_tests : List ℕ → List (Bool × VxlanRefusal)
refusal_tests octets = (nat_lt (length octets) HEADER_LEN, Short) ∷ (not (has_instance octets), NoInstance) ∷ []

-- the identifier and the octets after the header, or why the octets begin with no header
unfoldable pub instance_of : List ℕ → Result (ℕ × List ℕ) VxlanRefusal
instance_of octets = read_as (vni_of octets, drop HEADER_LEN octets) (first_of (refusal_tests octets))

abbrev pub refusal_number : VxlanRefusal → ℕ
refusal_number Short = TOO_SHORT
refusal_number NoInstance = NO_INSTANCE
