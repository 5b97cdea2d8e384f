-- The datagram that carries a frame between edges (RFC 7348, section 5): the VXLAN header and the frame.
use Rattle.std.specs.Prelude.{ℕ, List, ◌++◌}
use Rattle.vxlan_wire.specs.Vxlan.{header_of}

abbrev pub datagram_of : ℕ → List ℕ → List ℕ
datagram_of vni frame = header_of vni ++ frame
