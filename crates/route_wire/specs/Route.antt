-- The parts of a route (RFC 7432, sections 7.2, 7.3 and 7.7; RFC 8365 for the first label), from its type octet on.
use Rattle.std.specs.Prelude.{ℕ, ◌+◌, ◌*◌, Bool, ◌||◌, ◌==◌, nat_lt, if◌then◌else◌, List, drop}
use Rattle.std.specs.Prelude.{slice_index, Option, Some, None}
use Rattle.byteorder.specs.Endian.{big_number}
use Rattle.route_wire.specs.Numbers.{MAC_ROUTE, IP_BITS_PLACE, IP_PLACE, LABEL2_PLACE}
use Rattle.route_wire.specs.Numbers.{ROUTER_BITS_PLACE, FLOOD_LEN, MAC_LEN, MAC_LEN_LABEL2}
use Rattle.route_wire.specs.Numbers.{MAC_LEN_V4, MAC_LEN_V6, BITS_OF_ROUTER}
use Rattle.route_wire.specs.declared.update.Ip.{Ip}
use Rattle.route_wire.specs.declared.update.Ip.TheVariants.{V4, V6}

abbrev pub route_type : List ℕ → ℕ
route_type r = slice_index r 0

abbrev pub route_len : List ℕ → ℕ
route_len r = slice_index r 1

-- type 2 advertises a MAC, type 3 a flood list
abbrev pub is_mac_route : List ℕ → Bool
is_mac_route r = route_type r == MAC_ROUTE

-- the length of a route of type 2 determines the number of octets of its IP address and whether it has a second label
abbrev pub ip_len : List ℕ → ℕ
ip_len r = if nat_lt (route_len r) MAC_LEN_V4 then 0 else if nat_lt (route_len r) MAC_LEN_V6 then 4 else 16

abbrev pub has_label2 : List ℕ → Bool
has_label2 r = route_len r == MAC_LEN_LABEL2 + ip_len r

-- without an IP address or with one of version 4 or 6, and 3 octets more with a second label
abbrev pub is_listed_len : List ℕ → Bool
is_listed_len r =
    if is_mac_route r then route_len r == MAC_LEN + ip_len r || has_label2 r
    else route_len r == FLOOD_LEN

-- the octets after the route
abbrev pub tail_of : List ℕ → List ℕ
tail_of r = drop (2 + route_len r) r

-- the IP length octet, in bits, and the value that it must have
abbrev pub ip_bits : List ℕ → ℕ
ip_bits r = slice_index r (if is_mac_route r then IP_BITS_PLACE else ROUTER_BITS_PLACE)

abbrev pub wanted_bits : List ℕ → ℕ
wanted_bits r = if is_mac_route r then 8 * ip_len r else BITS_OF_ROUTER

-- the IP address of a route of type 2, and its second label
abbrev pub ip_in : List ℕ → Option Ip
ip_in r = if ip_len r == 0 then None else if ip_len r == 4 then Some (V4 (big_number 4 (drop IP_PLACE r))) else Some
    (V6 (big_number 16 (drop IP_PLACE r)))

abbrev pub label2_in : List ℕ → Option ℕ
label2_in r = if has_label2 r then Some (big_number 3 (drop (LABEL2_PLACE + ip_len r) r)) else None
