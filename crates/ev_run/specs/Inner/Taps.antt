-- The tap devices of which a process has descriptors, as Linux reports them in `/proc/self/fdinfo`.
use Rattle.std.specs.Prelude.{Bool, if◌then◌else◌, List, Option, Some, None, codes}
use Rattle.std.specs.List.{find, fold, slice_get}
use Rattle.std.specs.Str.{bytes_eq}
use Rattle.ev_links.specs.DeviceName.{device_of_text}
use Rattle.ev_links.specs.declared.device_name.DeviceName.{DeviceName}
use Rattle.ev_links.specs.Tap.{name_of}
use Rattle.ev_links.specs.declared.tap.Tap.{Tap}
use Rattle.ev_report.specs.Originators.{Text}
use Rattle.ev_run.specs.SystemDrops.{rows_of, names}
use Rattle.ev_run.specs.Inner.Settling.{fields_of}

-- the device that a word names, if there is one
abbrev pub device_in : Option Text → Option DeviceName
device_in None = None
device_in (Some word) = device_of_text word

-- the device that a row names: its second word, if its first one is `iff:`
abbrev pub row_device : Text → Option DeviceName
row_device row =
    if names (codes "iff:") (slice_get (fields_of row) 0) then device_in (slice_get (fields_of row) 1) else None

-- the first of two devices
abbrev pub first_device : Option DeviceName → Option DeviceName → Option DeviceName
first_device None next = next
first_device (Some name) next = Some name

-- the device that the text of a descriptor names; none if it is of something else
abbrev pub device_of : Text → Option DeviceName
device_of text = fold (λ found row. first_device found (row_device row)) None (rows_of text)

abbrev pub is_named : DeviceName → Tap → Bool
is_named name tap = bytes_eq (name_of tap).octets name.octets

-- the first device with this name
abbrev pub tap_named : List Tap → DeviceName → Option Tap
tap_named taps name = find (is_named name) taps
