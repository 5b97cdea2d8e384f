-- The keys of a configuration, a row each: the key and the kind of its value, in the order of the faults.
use Rattle.std.specs.Prelude.{ℕ, ◌-◌, ◌^◌, true, false, List, [], ◌∷◌, codes}
use Rattle.ev_config.specs.declared.schema.Range.{Range}
use Rattle.ev_config.specs.declared.schema.KeyKind.{KeyKind}
use Rattle.ev_config.specs.declared.schema.KeyKind.TheVariants as kind

-- a key's octets
abbrev pub Key : Type 0
Key = List ℕ

abbrev pub Row : Type 0
Row = Key × KeyKind

-- from low to high; the default, if the key is missing
abbrev pub range : ℕ → ℕ → ℕ → Range
range low high default = record { 0 = low; 1 = high; 2 = 0; 3 = default }

-- from 0 to high in steps
abbrev pub steps : ℕ → ℕ → ℕ → Range
steps step high default = record { 0 = 0; 1 = high; 2 = step; 3 = default }

-- ---- ranges

abbrev pub idle : Range
idle = range 1 86400 300

-- with 0 none is ever away
abbrev pub peer_hold : Range
peer_hold = range 0 86400 90

abbrev pub priority : Range
priority = steps 4096 61440 32768

abbrev pub hello : Range
hello = range 1 2 2

abbrev pub max_age : Range
max_age = range 6 40 20

abbrev pub forward_delay : Range
forward_delay = range 4 30 15

abbrev pub hold : Range
hold = range 1 10 6

abbrev pub ageing : Range
ageing = range 10 1000000 300

abbrev pub capacity : Range
capacity = range 1 65536 1024

-- if the key is missing, there are as many buckets as stations
abbrev pub buckets : Range
buckets = range 1 65536 1024

abbrev pub salt : Range
salt = range 0 (2 ^ 63 - 1) 0

abbrev pub incarnation : Range
incarnation = range 0 (2 ^ 32 - 1) 0

-- of a network
abbrev pub vni : Range
vni = range 0 16777215 0

abbrev pub cost : Range
cost = range 1 200000000 20000

abbrev pub port_priority : Range
port_priority = steps 16 240 128

-- at a port
abbrev pub stations : Range
stations = range 1 65536 512

-- in 60 seconds
abbrev pub new_stations : Range
new_stations = range 1 (2 ^ 32 - 1) 256

-- of group and unknown frames in a second; 0 is no limit
abbrev pub storm : Range
storm = range 0 (2 ^ 32 - 1) 0

-- ---- tables

abbrev pub file_rows : List Row
file_rows = (codes "edge", kind.Tables) ∷ []

-- if the edges answer queries while they run
abbrev pub served_rows : List Row
served_rows =
    (codes "edge", kind.Tables)
    ∷ (codes "control", kind.Path)
    ∷ (codes "idle", kind.Number idle)
    ∷ (codes "peer_hold", kind.Number peer_hold)
    ∷ (codes "peer", kind.Peers) ∷ []

abbrev pub edge_rows : List Row
edge_rows =
    (codes "address", kind.Address)
    ∷ (codes "bridge", kind.Bridge)
    ∷ (codes "vnis", kind.Vnis)
    ∷ (codes "priority", kind.Number priority)
    ∷ (codes "hello", kind.Number hello)
    ∷ (codes "max_age", kind.Number max_age)
    ∷ (codes "forward_delay", kind.Number forward_delay)
    ∷ (codes "hold", kind.Number hold)
    ∷ (codes "ageing", kind.Number ageing)
    ∷ (codes "capacity", kind.Number capacity)
    ∷ (codes "buckets", kind.Number buckets)
    ∷ (codes "salt", kind.Number salt)
    ∷ (codes "incarnation", kind.Number incarnation)
    ∷ (codes "port", kind.Tables) ∷ []

abbrev pub port_rows : List Row
port_rows =
    (codes "vni", kind.Vni)
    ∷ (codes "cost", kind.Number cost)
    ∷ (codes "priority", kind.Number port_priority)
    ∷ (codes "admin_edge", kind.Flag false)
    ∷ (codes "auto_edge", kind.Flag true)
    ∷ (codes "point_to_point", kind.Flag true)
    ∷ (codes "stations", kind.Number stations)
    ∷ (codes "new_stations", kind.Number new_stations)
    ∷ (codes "storm", kind.Number storm)
    ∷ (codes "local", kind.Endpoint)
    ∷ (codes "remote", kind.Endpoint)
    ∷ (codes "device", kind.Device) ∷ []

abbrev pub peer_rows : List Row
peer_rows = (codes "address", kind.Address) ∷ []
