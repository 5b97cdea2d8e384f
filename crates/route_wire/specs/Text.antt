-- The text of IP addresses and keys.
use Rattle.std.specs.Prelude.{ℕ, ◌/◌, ◌%◌, ◌^◌, List, [], ◌++◌, codes, decimal, Option, Some, None}
use Rattle.ether_wire.specs.Addr.{hex_group, mac_text, addr_text}
use Rattle.route_wire.specs.declared.update.Ip.{Ip}
use Rattle.route_wire.specs.declared.update.Ip.TheVariants.{V4, V6}
use Rattle.route_wire.specs.declared.update.Key.{Key}
use Rattle.route_wire.specs.declared.update.Key.TheVariants.{Flood, Mac}

-- four groups of four lower case hexadecimal digits with colons
unfoldable pub groups_text : ℕ → List ℕ
groups_text n =
    hex_group (n / 2 ^ 48 % 2 ^ 16) ++ codes ":" ++ hex_group (n / 2 ^ 32 % 2 ^ 16) ++ codes ":"
    ++ hex_group (n / 2 ^ 16 % 2 ^ 16) ++ codes ":" ++ hex_group (n % 2 ^ 16)

-- eight groups, never shortened
abbrev pub addr6_text : ℕ → List ℕ
addr6_text address = groups_text (address / 2 ^ 64) ++ codes ":" ++ groups_text (address % 2 ^ 64)

abbrev pub ip_text : Ip → List ℕ
ip_text (V4 address) = addr_text address
ip_text (V6 address) = addr6_text address

-- the IP address of a key that has one
abbrev pub ip_words : Option Ip → List ℕ
ip_words None = []
ip_words (Some ip) = codes " ip " ++ ip_text ip

-- `flood VNI`, or `mac VNI MAC` and the IP address
abbrev pub key_text : Key → List ℕ
key_text (Flood vni) = codes "flood " ++ decimal vni
key_text (Mac vni mac ip) = codes "mac " ++ decimal vni ++ codes " " ++ mac_text mac ++ ip_words ip
