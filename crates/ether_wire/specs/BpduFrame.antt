-- The frame that carries a BPDU (IEEE 802.1D-2004, sections 7.12 and 9; LLC of IEEE 802.2).
use Rattle.std.specs.Prelude.{ℕ, ◌+◌, ◌-◌, List, [], ◌∷◌, ◌++◌, length, replicate}
use Rattle.byteorder.specs.Endian.{big_bytes}
use Rattle.ether_wire.specs.Addr.{bridge_group}

-- the LLC header in front of a BPDU
abbrev pub bpdu_llc : List ℕ
bpdu_llc = 0x42 ∷ 0x42 ∷ 0x03 ∷ []

-- destination 01-80-C2-00-00-00, source, length, and LLC
abbrev pub bpdu_header : ℕ → ℕ → List ℕ
bpdu_header source size = big_bytes 6 bridge_group ++ (big_bytes 6 source
    ++ (big_bytes 2 (3 + size) ++ bpdu_llc))

-- the header, the BPDU, and zeros up to 60 octets
unfoldable pub bpdu_frame_of : ℕ → List ℕ → List ℕ
bpdu_frame_of source bpdu = bpdu_header source (length bpdu) ++ (bpdu ++ replicate (43 - length bpdu) 0)
