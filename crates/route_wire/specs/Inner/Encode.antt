-- The octets that are written for an update: a record of version 3.
use Rattle.std.specs.Prelude.{ℕ, ◌^◌, ◌<◌}
use Rattle.std.specs.Prelude.{Option, Some, None}
use Rattle.route_wire.specs.declared.update.Ip.{Ip}
use Rattle.route_wire.specs.declared.update.Ip.TheVariants.{V4, V6}
use Rattle.route_wire.specs.declared.update.Key.{Key}
use Rattle.route_wire.specs.declared.update.Key.TheVariants.{Flood, Mac}
use Rattle.route_wire.specs.declared.update.Content.{Content}
use Rattle.route_wire.specs.Order.{label2_of, sequence_of}

abbrev pub IpFits : Option Ip → Type 0
IpFits None = Unit {0}
IpFits (Some (V4 n)) = n < 2 ^ 32
IpFits (Some (V6 n)) = n < 2 ^ 128

abbrev pub Label2Fits : Option ℕ → Type 0
Label2Fits None = Unit {0}
Label2Fits (Some n) = n < 2 ^ 24

-- of the key of a flood list only the VNI is written
abbrev pub RouteFits : Key → Content → Type 0
RouteFits (Flood vni) content = Unit {0}
RouteFits (Mac vni mac ip) content = (mac < 2 ^ 48) × IpFits ip × Label2Fits (label2_of content)
    × (sequence_of content < 2 ^ 32)
