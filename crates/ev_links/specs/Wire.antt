-- Links that receive from UDP sockets and tap devices.
use Rattle.std.specs.Prelude.{Bool, Option, Some, None, is_some}
use Rattle.ev_links.specs.declared.tap.Tap.{Tap}
use Rattle.ev_links.specs.declared.wire.WireSource.{WireSource}
use Rattle.ev_links.specs.declared.wire.WireSource.TheVariants.{Socket, Device, Clock}
use Rattle.ev_links.specs.declared.wire.Wire.{Wire}

abbrev pub device_from : WireSource → Option Tap
device_from (Socket socket) = None
device_from (Device tap) = Some tap
device_from Clock = None

-- the device that a link receives from, if it receives from one
abbrev pub input_device : {C : Type 0} → Wire C → Option Tap
input_device wire = device_from wire.source

-- the link keeps the last BPDU that it received, and may receive it again
abbrev pub keeps_bpdus : {C : Type 0} → Wire C → Bool
keeps_bpdus wire = is_some wire.last_bpdu
