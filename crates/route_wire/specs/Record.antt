-- Update records: the update that one spells, and the answers of a stream of them.
use Rattle.std.specs.Prelude.{◌≡◌, ℕ, ◌%◌, Bool, true, false, not, ◌&&◌, ◌==◌, if◌then◌else◌, List, [], ◌∷◌, take, drop}
use Rattle.std.specs.Prelude.{slice_index, Option, Some, None, Result, Ok, Err}
use Rattle.byteorder.specs.Endian.{big_number}
use Rattle.route_wire.specs.declared.record.Header.{Header}
use Rattle.route_wire.specs.Numbers.{ORIGINATOR_PLACE, FIRST_COUNTER_PLACE, FIRST_VNI_PLACE}
use Rattle.route_wire.specs.Numbers.{FIRST_ROUTE_PLACE, INCARNATION_PLACE, COUNTER_PLACE}
use Rattle.route_wire.specs.Numbers.{VNI_PLACE, ROUTE_PLACE}
use Rattle.route_wire.specs.Numbers.{MAC_PLACE, FLAGS_PLACE, SEQUENCE_PLACE}
use Rattle.route_wire.specs.Numbers.{VERSION_PLACE, KIND_PLACE, FIRST_VERSION, NEWEST, WITHDRAWS}
use Rattle.route_wire.specs.declared.stream.Whole.{Whole}
use Rattle.route_wire.specs.declared.stream.Whole.TheVariants.{Rest, Fault, Length}
use Rattle.route_wire.specs.declared.update.Key.{Key}
use Rattle.route_wire.specs.declared.update.Key.TheVariants.{Flood, Mac}
use Rattle.route_wire.specs.declared.update.Content.{Content}
use Rattle.route_wire.specs.declared.update.Content.TheVariants.{Withdrawn, Advert as Advertised}
use Rattle.route_wire.specs.declared.update.Advert.{Advert}
use Rattle.route_wire.specs.Fields.{Fields, flood_advert}
use Rattle.route_wire.specs.Stream.{whole_up_to, IsWhole}
use Rattle.route_wire.specs.Route.{is_mac_route, tail_of, ip_in, label2_in}
use Rattle.route_wire.specs.Refusal.{refusal_of}

-- ---- the fields before the route, each the number at its place, and the route
-- version 1 has no incarnation
abbrev pub first_header_in : List ℕ → Header
first_header_in bytes = record {
  version = slice_index bytes VERSION_PLACE;
  is_withdrawal = slice_index bytes KIND_PLACE == WITHDRAWS;
  originator = big_number 4 (drop ORIGINATOR_PLACE bytes);
  incarnation = 0;
  counter = big_number 8 (drop FIRST_COUNTER_PLACE bytes);
  vni = big_number 3 (drop FIRST_VNI_PLACE bytes);
}

abbrev pub later_header_in : List ℕ → Header
later_header_in bytes = record {
  version = slice_index bytes VERSION_PLACE;
  is_withdrawal = slice_index bytes KIND_PLACE == WITHDRAWS;
  originator = big_number 4 (drop ORIGINATOR_PLACE bytes);
  incarnation = big_number 4 (drop INCARNATION_PLACE bytes);
  counter = big_number 8 (drop COUNTER_PLACE bytes);
  vni = big_number 3 (drop VNI_PLACE bytes);
}

abbrev pub header_in : List ℕ → Header
header_in bytes = if slice_index bytes VERSION_PLACE == FIRST_VERSION then first_header_in bytes else later_header_in
    bytes

abbrev pub route_place : List ℕ → ℕ
route_place bytes = if slice_index bytes VERSION_PLACE == FIRST_VERSION then FIRST_ROUTE_PLACE else ROUTE_PLACE

abbrev pub route_of : List ℕ → List ℕ
route_of bytes = drop (route_place bytes) bytes

-- ---- the update
-- a withdrawal of an earlier version than 3 names no IP address
abbrev pub names_no_ip : Header → Bool
names_no_ip h = h.is_withdrawal && not (h.version == NEWEST)

abbrev pub key_in : Header → List ℕ → Key
key_in h r = if is_mac_route r then Mac h.vni (big_number 6 (drop MAC_PLACE r))
    (if names_no_ip h then None else ip_in r) else Flood h.vni

-- the static flag is the lowest bit
abbrev pub is_flagged : ℕ → Bool
is_flagged flags = flags % 2 == 1

-- if no community follows, each of its octets counts as 0
abbrev pub advert_in : List ℕ → Advert
advert_in r = record {
  is_static = is_flagged (slice_index (tail_of r) FLAGS_PLACE);
  sequence = big_number 4 (drop SEQUENCE_PLACE (tail_of r));
  label2 = label2_in r;
}

abbrev pub content_in : Header → List ℕ → Content
content_in h r = if h.is_withdrawal then Withdrawn else Advertised
    (if is_mac_route r then advert_in r else flood_advert)

abbrev pub update_in : Header → List ℕ → Fields
update_in h r = record {
  register = record { originator = h.originator; key = key_in h r };
  value = record { incarnation = h.incarnation; counter = h.counter; content = content_in h r };
}

abbrev pub unless_refused : Option ℕ → Fields → Result Fields ℕ
unless_refused None u = Ok u
unless_refused (Some refusal) u = Err refusal

-- the result for a whole record: its update, or its refusal
unfoldable pub reading : List ℕ → Result Fields ℕ
reading bytes = unless_refused (refusal_of (header_in bytes) (route_of bytes))
    (update_in (header_in bytes) (route_of bytes))

-- the octets are one whole record that spells the update
abbrev pub Spells : List ℕ → Fields → Type 0
Spells bytes u = IsWhole bytes × (reading bytes ≡ Ok u)

-- ---- streams
-- a stream of records up to a version begins with whole records of these answers, and continues with the rest
abbrev pub ReadsUpTo : ℕ → List ℕ → List (Result Fields ℕ) → List ℕ → Type 0
ReadsUpTo newest s [] rest = s ≡ rest
ReadsUpTo newest s (answer ∷ answers) rest = (n : ℕ) × (whole_up_to newest s ≡ Length n) × (reading (take n s) ≡ answer)
    × ReadsUpTo newest (drop n s) answers rest

-- a whole record is at the front
abbrev pub is_length : Whole → Bool
is_length (Length n) = true
is_length Rest = false
is_length (Fault fault) = false

-- these are the stream's answers, up to a fault that the rest shows, or to a proper beginning of a record
pub record AnswersUpTo (newest : ℕ) (s : List ℕ) (answers : List (Result Fields ℕ)) (rest : List ℕ) : Type 0 where
  pub reads : ReadsUpTo newest s answers rest
  pub ended : is_length (whole_up_to newest rest) ≡ false

-- likewise for records of all versions
abbrev pub Reads : List ℕ → List (Result Fields ℕ) → List ℕ → Type 0
Reads s answers rest = ReadsUpTo NEWEST s answers rest

abbrev pub Answers : List ℕ → List (Result Fields ℕ) → List ℕ → Type 0
Answers s answers rest = AnswersUpTo NEWEST s answers rest
