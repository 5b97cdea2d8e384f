-- Tap devices.
use Rattle.std.specs.Prelude.{ℤ}
use Rattle.ev_links.specs.declared.device_name.DeviceName.{DeviceName}
use Rattle.ev_links.specs.declared.tap.Tap.{Tap}

-- the number of the open descriptor, and the name of its device
abbrev pub descriptor_of : Tap → ℤ
descriptor_of tap = tap.descriptor

abbrev pub name_of : Tap → DeviceName
name_of tap = tap.name
