-- The order of a report, and which of two values of a register is newer.
use Rattle.std.specs.Prelude.{ℕ, ◌+◌, Bool, if◌then◌else◌, Option, Some, None}
use Rattle.std.specs.declared.cmp.Ordering.{Ordering}
use Rattle.std.specs.Option.{option_cmp}
use Rattle.std.specs.Ordering.{nat_cmp, ordering_then, is_lt}
use Rattle.route_wire.specs.declared.update.Ip.{Ip}
use Rattle.route_wire.specs.declared.update.Ip.TheVariants.{V4, V6}
use Rattle.route_wire.specs.declared.update.Key.{Key}
use Rattle.route_wire.specs.declared.update.Key.TheVariants.{Flood, Mac}
use Rattle.route_wire.specs.declared.update.Register.{Register}
use Rattle.route_wire.specs.declared.update.Content.{Content}
use Rattle.route_wire.specs.declared.update.Content.TheVariants.{Withdrawn, Advert as Advertised}
use Rattle.route_wire.specs.declared.update.Value.{Value}

-- ---- IP addresses: none, then those of version 4, then those of version 6, each by its number
abbrev pub ip_version : Option Ip → ℕ
ip_version None = 0
ip_version (Some (V4 n)) = 4
ip_version (Some (V6 n)) = 6

abbrev pub ip_number : Option Ip → ℕ
ip_number None = 0
ip_number (Some (V4 n)) = n
ip_number (Some (V6 n)) = n

abbrev pub ip_cmp : Option Ip → Option Ip → Ordering
ip_cmp a b = ordering_then (nat_cmp (ip_version a) (ip_version b)) (nat_cmp (ip_number a) (ip_number b))

-- of addresses that are there
abbrev pub ip_order : Ip → Ip → Ordering
ip_order a b = ip_cmp (Some a) (Some b)

abbrev pub addr6_cmp : ℕ → ℕ → Ordering
addr6_cmp a b = nat_cmp a b

-- ---- report order: VNI, then the flood list before the MACs, then MAC, then originator, then IP
abbrev pub vni_of : Key → ℕ
vni_of (Flood vni) = vni
vni_of (Mac vni mac ip) = vni

abbrev pub place_of : Key → ℕ
place_of (Flood vni) = 0
place_of (Mac vni mac ip) = mac + 1

abbrev pub ip_of : Key → Option Ip
ip_of (Flood vni) = None
ip_of (Mac vni mac ip) = ip

-- the order of keys, and so of the registers of one originator: report order without the originator
abbrev pub key_cmp : Key → Key → Ordering
key_cmp a b = ordering_then (nat_cmp (vni_of a) (vni_of b))
    (ordering_then (nat_cmp (place_of a) (place_of b)) (ip_cmp (ip_of a) (ip_of b)))

abbrev pub register_cmp : Register → Register → Ordering
register_cmp a b =
    ordering_then (nat_cmp (vni_of a.key) (vni_of b.key)) (ordering_then (nat_cmp (place_of a.key) (place_of b.key))
    (ordering_then (nat_cmp a.originator b.originator) (ip_cmp (ip_of a.key) (ip_of b.key))))

-- ---- newer: incarnation, then counter, then content
-- withdrawn is lowest, then dynamic, then static
abbrev pub rank_of : Content → ℕ
rank_of Withdrawn = 0
rank_of (Advertised a) = if a.is_static then 2 else 1

abbrev pub sequence_of : Content → ℕ
sequence_of Withdrawn = 0
sequence_of (Advertised a) = a.sequence

abbrev pub label2_of : Content → Option ℕ
label2_of Withdrawn = None
label2_of (Advertised a) = a.label2

-- at equal ranks the sequence number decides, and then the second label, none first
abbrev pub content_cmp : Content → Content → Ordering
content_cmp a b =
    ordering_then (nat_cmp (rank_of a) (rank_of b)) (ordering_then (nat_cmp (sequence_of a) (sequence_of b))
    (option_cmp nat_cmp (label2_of a) (label2_of b)))

abbrev pub value_cmp : Value → Value → Ordering
value_cmp a b = ordering_then (nat_cmp a.incarnation b.incarnation)
    (ordering_then (nat_cmp a.counter b.counter) (content_cmp a.content b.content))

-- a is newer than b
abbrev pub is_newer : Value → Value → Bool
is_newer a b = is_lt (value_cmp b a)
