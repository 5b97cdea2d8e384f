-- The octets of a report: a line for each register, and one for the owner of each station.
use Rattle.std.specs.Prelude.{ℕ, Bool, false, ◌==◌, if◌then◌else◌, List, [], ◌∷◌, ◌++◌, codes, decimal, Option, Some}
use Rattle.std.specs.Prelude.{None}
use Rattle.std.specs.FinMap.{entries}
use Rattle.ether_wire.specs.Addr.{mac_text, addr_text}
use Rattle.route_wire.specs.declared.update.Ip.{Ip}
use Rattle.route_wire.specs.declared.update.Key.{Key}
use Rattle.route_wire.specs.declared.update.Key.TheVariants.{Flood, Mac}
use Rattle.route_wire.specs.declared.update.Register.{Register}
use Rattle.route_wire.specs.declared.update.Content.{Content}
use Rattle.route_wire.specs.declared.update.Content.TheVariants.{Withdrawn, Advert as Advertised}
use Rattle.route_wire.specs.declared.update.Value.{Value}
use Rattle.route_wire.specs.Order.{label2_of}
use Rattle.route_wire.specs.Text.{ip_words}
use Rattle.route_join.specs.Table.{Table}
use Rattle.route_join.specs.Owner.{is_about, owner}

-- ---- words

-- a word, with a space before it
abbrev pub spaced : List ℕ → List ℕ
spaced word = codes " " ++ word

-- the counter, after the incarnation and a dot if the incarnation isn't 0
abbrev pub counter_text : Value → List ℕ
counter_text v = if v.incarnation == 0 then decimal v.counter else decimal v.incarnation ++ codes "."
    ++ decimal v.counter

abbrev pub flood_state : Content → List ℕ
flood_state Withdrawn = codes "withdrawn"
flood_state (Advertised a) = codes "up"

abbrev pub mac_state : Content → List ℕ
mac_state Withdrawn = codes "withdrawn"
mac_state (Advertised a) = (if a.is_static then codes "static " else codes "dynamic ") ++ decimal a.sequence

-- the second label of an advert that has one
abbrev pub label2_words : Option ℕ → List ℕ
label2_words None = []
label2_words (Some label) = codes " label2 " ++ decimal label

abbrev pub station_text : ℕ → ℕ → List ℕ
station_text vni mac = decimal vni ++ spaced (mac_text mac)

abbrev pub origin_text : ℕ → Value → List ℕ
origin_text originator v = addr_text originator ++ spaced (counter_text v)

-- the state of a MAC address, with the IP address of its key and the second label
abbrev pub mac_words : Option Ip → Content → List ℕ
mac_words ip content = spaced (mac_state content) ++ ip_words ip ++ label2_words (label2_of content)

-- ---- lines

-- `flood VNI ORIGINATOR COUNTER up`, or `withdrawn` instead of `up`
abbrev pub flood_line : ℕ → ℕ → Value → List ℕ
flood_line vni originator v = codes "flood " ++ decimal vni ++ spaced (origin_text originator v)
    ++ spaced (flood_state v.content) ++ codes "\n"

-- `mac VNI MAC ORIGINATOR COUNTER STATE`, then ` ip IP` and ` label2 LABEL` if the register has them
abbrev pub mac_line : ℕ → ℕ → Option Ip → ℕ → Value → List ℕ
mac_line vni mac ip originator v =
    codes "mac " ++ station_text vni mac ++ spaced (origin_text originator v) ++ mac_words ip v.content ++ codes "\n"

abbrev pub key_line : Key → ℕ → Value → List ℕ
key_line (Flood vni) originator v = flood_line vni originator v
key_line (Mac vni mac ip) originator v = mac_line vni mac ip originator v

-- the line of a register
abbrev pub register_line : Register → Value → List ℕ
register_line r v = key_line r.key r.originator v

abbrev pub owner_name : Option ℕ → List ℕ
owner_name None = codes "none"
owner_name (Some originator) = addr_text originator

-- `owner VNI MAC ORIGINATOR`, or `none` instead of the originator
abbrev pub owner_line : ℕ → ℕ → Option ℕ → List ℕ
owner_line vni mac owner = codes "owner " ++ station_text vni mac ++ spaced (owner_name owner) ++ codes "\n"

-- ---- the report

-- the first of these registers is of the station
abbrev pub goes_on : ℕ → ℕ → List (Register × Value) → Bool
goes_on vni mac [] = false
goes_on vni mac (e ∷ rest) = is_about vni mac e.0.key

-- after the last register of a station, its owner
abbrev pub after_register : (ℕ → ℕ → Option ℕ) → Key → List (Register × Value) → List ℕ
after_register owner_of (Flood vni) rest = []
after_register owner_of (Mac vni mac ip) rest = if goes_on vni mac rest then [] else owner_line vni mac
    (owner_of vni mac)

-- the lines of these registers, in their order, with these owners of stations
abbrev pub lines_of : (ℕ → ℕ → Option ℕ) → List (Register × Value) → List ℕ
lines_of owner_of [] = []
lines_of owner_of (e ∷ rest) = register_line e.0 e.1 ++ after_register owner_of e.0.key rest ++ lines_of owner_of rest

-- the report of a table
abbrev pub report_of : Table → List ℕ
report_of t = lines_of (owner t) (entries t.registers)
