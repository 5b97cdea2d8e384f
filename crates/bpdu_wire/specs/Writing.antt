-- The octets that are written for a BPDU (IEEE 802.1D-2004, 9.3).
use Rattle.std.specs.Prelude.{ℕ, List, [], ◌∷◌, ◌++◌, Result, Ok, Err, if◌then◌else◌}
use Rattle.byteorder.specs.Endian.{big_bytes}
use Rattle.bpdu_wire.specs.Numbers.{CONFIG_TYPE, OLD_VERSION, RAPID_VERSION, RST_TYPE, TCN_TYPE}
use Rattle.bpdu_wire.specs.declared.bpdu.Message.{Message}
use Rattle.bpdu_wire.specs.declared.bpdu.Bpdu.{Bpdu}
use Rattle.bpdu_wire.specs.declared.bpdu.Bpdu.TheVariants.{Config, Rst, Tcn}
use Rattle.bpdu_wire.specs.declared.refusal.BpduRefusal.{BpduRefusal}
use Rattle.bpdu_wire.specs.declared.refusal.BpduRefusal.TheVariants.{Aged}
use Rattle.bpdu_wire.specs.Bpdu.{is_aged}

-- root, cost, bridge, port
abbrev pub vector_octets : Message → List ℕ
vector_octets m = big_bytes 8 m.root ++ (big_bytes 4 m.cost ++ (big_bytes 8 m.bridge ++ big_bytes 2 m.port))

-- message age, max age, hello, forward delay
abbrev pub times_octets : Message → List ℕ
times_octets m = big_bytes 2 m.message_age ++ (big_bytes 2 m.max_age
    ++ (big_bytes 2 m.hello ++ big_bytes 2 m.forward_delay))

-- protocol 0 in two octets, version, type, flags, the other fields, and then the rest
abbrev pub message_octets : ℕ → ℕ → Message → List ℕ → List ℕ
message_octets version type m after = 0 ∷ 0 ∷ version ∷ type ∷ m.flags ∷ (vector_octets m ++ (times_octets m ++ after))

-- A Rapid Spanning Tree BPDU ends with Version 1 Length, 0.
abbrev pub octets_of : Bpdu → List ℕ
octets_of (Config m) = message_octets OLD_VERSION CONFIG_TYPE m []
octets_of (Rst m) = message_octets RAPID_VERSION RST_TYPE m (0 ∷ [])
octets_of Tcn = 0 ∷ 0 ∷ OLD_VERSION ∷ TCN_TYPE ∷ []

-- the result of reading a BPDU's own octets
abbrev pub read_again : Bpdu → Result Bpdu BpduRefusal
read_again bpdu = if is_aged bpdu then Err Aged else Ok bpdu
