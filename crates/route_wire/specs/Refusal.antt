-- The refusals of a whole record: the first test that is met decides.
use Rattle.std.specs.Prelude.{ℕ, ◌+◌, Bool, not, ◌&&◌, ◌||◌, ◌==◌, nat_lt, if◌then◌else◌}
use Rattle.std.specs.Prelude.{List, [], ◌∷◌, length, take, drop, slice_index, Option}
use Rattle.std.specs.List.{list_any}
use Rattle.byteorder.specs.Endian.{big_number}
use Rattle.ether_wire.specs.Addr.{is_group}
use Rattle.route_wire.specs.Numbers.{UNKNOWN_TYPE, BAD_ROUTE, RD_MISMATCH, MULTIHOMED}
use Rattle.route_wire.specs.Numbers.{TAG_UNSUPPORTED, LABEL_MISMATCH, BAD_MAC, COUNTER_ZERO}
use Rattle.route_wire.specs.Numbers.{MAC_ROUTE, FLOOD_ROUTE, RD_TYPE_PLACE, RD_ADDR_PLACE}
use Rattle.route_wire.specs.Numbers.{SEGMENT_PLACE, SEGMENT_LEN, MAC_TAG_PLACE, FLOOD_TAG_PLACE}
use Rattle.route_wire.specs.Numbers.{MAC_BITS_PLACE, MAC_PLACE, IP_PLACE, ROUTER_PLACE, BITS_OF_MAC}
use Rattle.route_wire.specs.Numbers.{COMMUNITY_LEN, COMMUNITY_TYPE}
use Rattle.route_wire.specs.declared.record.Header.{Header}
use Rattle.ether_wire.specs.Frame.{first_of}
use Rattle.route_wire.specs.Route.{route_type, route_len, is_mac_route, ip_len, is_listed_len, tail_of, ip_bits}
use Rattle.route_wire.specs.Route.{wanted_bits}

-- there is a route type, and it is neither a MAC's nor a flood list's
abbrev pub is_unknown_type : List ℕ → Bool
is_unknown_type r = nat_lt 0 (length r) && (not (route_type r == MAC_ROUTE) && not (route_type r == FLOOD_ROUTE))

-- a MAC Mobility community (RFC 7432, section 7.7) of 8 octets
abbrev pub is_community : List ℕ → Bool
is_community after = length after == COMMUNITY_LEN && (slice_index after 0 == COMMUNITY_TYPE
    && slice_index after 1 == 0)

-- nothing follows the route, or one community follows an advertised MAC
abbrev pub is_followed_well : Header → List ℕ → Bool
is_followed_well h r = length (tail_of r) == 0 || (is_mac_route r && (not h.is_withdrawal && is_community (tail_of r)))

-- no type or length octet, a length that isn't listed, a route past the record, a wrong IP length, or something after
-- it
abbrev pub is_bad_route : Header → List ℕ → Bool
is_bad_route h r =
    nat_lt (length r) 2 || (not (is_listed_len r) || (nat_lt (length r) (2 + route_len r) ||
    (not (ip_bits r == wanted_bits r) || not (is_followed_well h r))))

-- a route distinguisher that isn't of type 1 with the originator's address, or a flood list of another router
abbrev pub has_other_distinguisher : Header → List ℕ → Bool
has_other_distinguisher h r =
    not (slice_index r 2 == 0) || (not (slice_index r RD_TYPE_PLACE == 1) ||
    (not (big_number 4 (drop RD_ADDR_PLACE r) == h.originator)
    || (not (is_mac_route r) && not (big_number 4 (drop ROUTER_PLACE r) == h.originator))))

abbrev pub is_mac_advert : Header → List ℕ → Bool
is_mac_advert h r = not h.is_withdrawal && is_mac_route r

-- an advertised MAC with an Ethernet segment identifier that isn't 0
abbrev pub is_multihomed : Header → List ℕ → Bool
is_multihomed h r = is_mac_advert h r && list_any (λ x. not (x == 0)) (take SEGMENT_LEN (drop SEGMENT_PLACE r))

-- an Ethernet Tag that isn't 0
abbrev pub is_tagged : List ℕ → Bool
is_tagged r = not (big_number 4 (drop (if is_mac_route r then MAC_TAG_PLACE else FLOOD_TAG_PLACE) r) == 0)

-- an advertised MAC whose first label isn't the record's VNI
abbrev pub has_other_label : Header → List ℕ → Bool
has_other_label h r = is_mac_advert h r && not (big_number 3 (drop (IP_PLACE + ip_len r) r) == h.vni)

-- a MAC length that isn't 48, or a group address
abbrev pub has_bad_mac : List ℕ → Bool
has_bad_mac r = is_mac_route r && (not (slice_index r MAC_BITS_PLACE == BITS_OF_MAC) || is_group
    (big_number 6 (drop MAC_PLACE r)))

-- the refusals in their order
abbrev pub refusal_tests : Header → List ℕ → List (Bool × ℕ)
refusal_tests h r =
    (is_unknown_type r, UNKNOWN_TYPE)
    ∷ (is_bad_route h r, BAD_ROUTE)
    ∷ (has_other_distinguisher h r, RD_MISMATCH)
    ∷ (is_multihomed h r, MULTIHOMED)
    ∷ (is_tagged r, TAG_UNSUPPORTED)
    ∷ (has_other_label h r, LABEL_MISMATCH)
    ∷ (has_bad_mac r, BAD_MAC)
    ∷ (h.counter == 0, COUNTER_ZERO) ∷ []

abbrev pub refusal_of : Header → List ℕ → Option ℕ
refusal_of h r = first_of (refusal_tests h r)
