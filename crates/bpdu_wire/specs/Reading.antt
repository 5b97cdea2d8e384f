-- BPDUs as octets, each field the number at its place (IEEE 802.1D-2004, 9.2 and 9.3).
use Rattle.std.specs.Prelude.{ℕ, Bool, true, not, ◌&&◌, ◌==◌, nat_lt, if◌then◌else◌, List, [], ◌∷◌, length, drop}
use Rattle.std.specs.Prelude.{slice_index, Option, Some, None, Result, Ok, Err}
use Rattle.byteorder.specs.Endian.{big_number}
use Rattle.bpdu_wire.specs.Numbers.{VERSION_PLACE, TYPE_PLACE, FLAGS_PLACE, ROOT_PLACE}
use Rattle.bpdu_wire.specs.Numbers.{COST_PLACE, BRIDGE_PLACE, PORT_PLACE}
use Rattle.bpdu_wire.specs.Numbers.{MESSAGE_AGE_PLACE, MAX_AGE_PLACE, HELLO_PLACE}
use Rattle.bpdu_wire.specs.Numbers.{FORWARD_DELAY_PLACE}
use Rattle.bpdu_wire.specs.Numbers.{CONFIG_TYPE, RST_TYPE, TCN_TYPE, RAPID_VERSION, CONFIG_SIZE}
use Rattle.bpdu_wire.specs.Numbers.{RST_SIZE, TCN_SIZE}
use Rattle.bpdu_wire.specs.declared.bpdu.Message.{Message}
use Rattle.bpdu_wire.specs.declared.bpdu.Bpdu.{Bpdu}
use Rattle.bpdu_wire.specs.declared.bpdu.Bpdu.TheVariants.{Config, Rst, Tcn}
use Rattle.bpdu_wire.specs.declared.refusal.BpduRefusal.{BpduRefusal}
use Rattle.bpdu_wire.specs.declared.refusal.BpduRefusal.TheVariants.{Short, BadProtocol, BadType, BadVersion, Aged}
use Rattle.bpdu_wire.specs.Bpdu.{is_aged}

-- ---- the fields

abbrev pub protocol_of : List ℕ → ℕ
protocol_of octets = big_number 2 octets

abbrev pub version_of : List ℕ → ℕ
version_of octets = slice_index octets VERSION_PLACE

abbrev pub type_of : List ℕ → ℕ
type_of octets = slice_index octets TYPE_PLACE

abbrev pub message_of : List ℕ → Message
message_of octets = record {
  flags = slice_index octets FLAGS_PLACE;
  root = big_number 8 (drop ROOT_PLACE octets);
  cost = big_number 4 (drop COST_PLACE octets);
  bridge = big_number 8 (drop BRIDGE_PLACE octets);
  port = big_number 2 (drop PORT_PLACE octets);
  message_age = big_number 2 (drop MESSAGE_AGE_PLACE octets);
  max_age = big_number 2 (drop MAX_AGE_PLACE octets);
  hello = big_number 2 (drop HELLO_PLACE octets);
  forward_delay = big_number 2 (drop FORWARD_DELAY_PLACE octets);
}

-- ---- the kinds

-- a Configuration, a Rapid Spanning Tree, or a Topology Change Notification BPDU
abbrev pub is_known : ℕ → Bool
is_known type = if type == CONFIG_TYPE then true else if type == RST_TYPE then true else type == TCN_TYPE

abbrev pub size_of : ℕ → ℕ
size_of type = if type == CONFIG_TYPE then CONFIG_SIZE else if type == RST_TYPE then RST_SIZE else TCN_SIZE

abbrev pub bpdu_of : List ℕ → Bpdu
bpdu_of octets =
    if type_of octets == CONFIG_TYPE then Config (message_of octets)
    else if type_of octets == RST_TYPE then Rst (message_of octets)
    else Tcn

-- ---- the refusals

-- The first version with Rapid Spanning Tree BPDUs is 2. BPDUs of later versions begin with the same fields (9.3.4).
abbrev pub has_old_version : List ℕ → Bool
has_old_version octets = type_of octets == RST_TYPE && nat_lt (version_of octets) RAPID_VERSION

abbrev pub refusal_tests : List ℕ → List (Bool × BpduRefusal)
refusal_tests octets =
    (nat_lt (length octets) TCN_SIZE, Short)
    ∷ (not (protocol_of octets == 0), BadProtocol)
    ∷ (not (is_known (type_of octets)), BadType)
    ∷ (has_old_version octets, BadVersion)
    ∷ (nat_lt (length octets) (size_of (type_of octets)), Short)
    ∷ (is_aged (bpdu_of octets), Aged) ∷ []

-- the refusal of the first test that is met
abbrev pub first_of : List (Bool × BpduRefusal) → Option BpduRefusal
first_of [] = None
first_of (test ∷ tests) = if test.0 then Some test.1 else first_of tests

abbrev pub unless_refused : Option BpduRefusal → Bpdu → Result Bpdu BpduRefusal
unless_refused None bpdu = Ok bpdu
unless_refused (Some refusal) bpdu = Err refusal

-- the result of reading the octets: the BPDU that they begin with, or the refusal
unfoldable pub reading : List ℕ → Result Bpdu BpduRefusal
reading octets = unless_refused (first_of (refusal_tests octets)) (bpdu_of octets)
