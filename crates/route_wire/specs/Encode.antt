-- The octets that are written for an update: a record of version 3.
use Rattle.std.specs.Prelude.{ℕ, ◌+◌, ◌*◌, Bool, not, ◌||◌, ◌==◌, if◌then◌else◌, List, [], ◌∷◌, ◌++◌, length}
use Rattle.std.specs.Prelude.{Option, Some, None}
use Rattle.byteorder.specs.Endian.{big_bytes}
use Rattle.route_wire.specs.Numbers.{MAC_ROUTE, FLOOD_ROUTE, FLOOD_LEN, MAC_LEN, BITS_OF_MAC}
use Rattle.route_wire.specs.Numbers.{BITS_OF_ROUTER, COMMUNITY_TYPE}
use Rattle.route_wire.specs.Numbers.{MAGIC_FIRST, MAGIC_SECOND, NEWEST, ADVERTISES, WITHDRAWS}
use Rattle.route_wire.specs.Numbers.{LEAST_LATER}
use Rattle.route_wire.specs.declared.update.Ip.{Ip}
use Rattle.route_wire.specs.declared.update.Ip.TheVariants.{V4, V6}
use Rattle.route_wire.specs.declared.update.Key.{Key}
use Rattle.route_wire.specs.declared.update.Key.TheVariants.{Flood, Mac}
use Rattle.route_wire.specs.declared.update.Content.{Content}
use Rattle.route_wire.specs.declared.update.Content.TheVariants.{Withdrawn, Advert as Advertised}
use Rattle.route_wire.specs.Fields.{Fields}
use Rattle.route_wire.specs.Order.{vni_of, label2_of}

-- a route distinguisher of type 1, with the originator's address and the number 1
abbrev pub distinguisher : ℕ → List ℕ
distinguisher o = 0 ∷ 1 ∷ (big_bytes 4 o ++ (0 ∷ 1 ∷ []))

abbrev pub ip_octets : Option Ip → List ℕ
ip_octets None = []
ip_octets (Some (V4 n)) = big_bytes 4 n
ip_octets (Some (V6 n)) = big_bytes 16 n

abbrev pub label2_octets : Option ℕ → List ℕ
label2_octets None = []
label2_octets (Some n) = big_bytes 3 n

-- an Ethernet segment identifier of zeros, and the Ethernet Tag 0
abbrev pub no_segment : List ℕ → List ℕ
no_segment rest = 0 ∷ 0 ∷ 0 ∷ 0 ∷ 0 ∷ 0 ∷ 0 ∷ 0 ∷ 0 ∷ 0 ∷ 0 ∷ 0 ∷ 0 ∷ 0 ∷ rest

-- type 2: the MAC has 48 bits, the IP address 0, 32 or 128, and the first label is the VNI
abbrev pub mac_route : ℕ → ℕ → ℕ → Option Ip → Option ℕ → List ℕ
mac_route o vni mac ip label2 =
    MAC_ROUTE ∷ (MAC_LEN + length (ip_octets ip) + length (label2_octets label2))
    ∷ (distinguisher o ++ no_segment (BITS_OF_MAC ∷ (big_bytes 6 mac ++
    ((8 * length (ip_octets ip)) ∷ (ip_octets ip ++ (big_bytes 3 vni ++ label2_octets label2))))))

-- type 3: the Ethernet Tag 0, and the originator as the router
abbrev pub flood_route : ℕ → List ℕ
flood_route o = FLOOD_ROUTE ∷ FLOOD_LEN ∷ (distinguisher o ++ (0 ∷ 0 ∷ 0 ∷ 0 ∷ BITS_OF_ROUTER ∷ big_bytes 4 o))

-- a MAC Mobility community, if the MAC is static or the sequence number isn't 0
abbrev pub community : Bool → ℕ → List ℕ
community is_static sequence =
    if is_static || not (sequence == 0) then COMMUNITY_TYPE ∷ 0 ∷ (if is_static then 1 else 0) ∷ 0
    ∷ big_bytes 4 sequence else []

-- the octets after the route of a MAC: a withdrawal has no community
abbrev pub mobility : Content → List ℕ
mobility Withdrawn = []
mobility (Advertised a) = community a.is_static a.sequence

-- the route and the octets after it
abbrev pub route_octets : ℕ → Key → Content → List ℕ
route_octets o (Flood vni) content = flood_route o
route_octets o (Mac vni mac ip) content = mac_route o vni mac ip (label2_of content) ++ mobility content

-- advertise or withdraw
abbrev pub kind_of : Content → ℕ
kind_of Withdrawn = WITHDRAWS
kind_of (Advertised a) = ADVERTISES

abbrev pub record_octets : ℕ → ℕ → ℕ → ℕ → ℕ → List ℕ → List ℕ
record_octets kind o incarnation counter vni route =
    MAGIC_FIRST ∷ MAGIC_SECOND ∷ NEWEST ∷ kind ∷ (big_bytes 2 (LEAST_LATER + length route)
    ++ (big_bytes 4 o ++ (big_bytes 4 incarnation ++ (big_bytes 8 counter ++ (big_bytes 3 vni ++ route)))))

unfoldable pub spelling_of : Fields → List ℕ
spelling_of u =
    record_octets (kind_of u.value.content) u.register.originator u.value.incarnation u.value.counter
    (vni_of u.register.key)
    (route_octets u.register.originator u.register.key u.value.content)
