-- The names of network devices.
use Rattle.std.specs.Prelude.{◌≡◌, ℕ, ◌-◌, Bool, ◌&&◌, ◌||◌, ◌==◌, nat_le, if◌then◌else◌, List, ◌++◌, length, take}
use Rattle.std.specs.Prelude.{position, replicate, Option, Some, None}
use Rattle.std.specs.Char.{is_ascii_alphanumeric}
use Rattle.std.specs.List.{list_all}
use Rattle.std.specs.Option.{unwrap_or}
use Rattle.ev_links.specs.declared.device_name.DeviceName.{DeviceName}

-- a letter, a digit, a full stop, a hyphen or an underscore
abbrev pub is_name_octet : ℕ → Bool
is_name_octet b = is_ascii_alphanumeric b || (b == 0x2e || (b == 0x2d || b == 0x5f))

-- 1 to 15 of these
abbrev pub is_device_name : List ℕ → Bool
is_device_name text = (nat_le 1 (length text) && nat_le (length text) 15) && list_all is_name_octet text

-- the 16 octets of a name: its text, and then zeros
abbrev pub padded : List ℕ → List ℕ
padded text = text ++ replicate (16 - length text) 0

abbrev pub device_of_text : List ℕ → Option DeviceName
device_of_text text = if is_device_name text then Some (record { octets = padded text }) else None

-- the octets before the first zero
abbrev pub text_of : DeviceName → List ℕ
text_of name = take (unwrap_or (position (λ b. b == 0) name.octets) 16) name.octets

-- a name keeps the text that it was read from
abbrev pub NameKeepsItsText : Type 0
NameKeepsItsText = (text : List ℕ) (name : DeviceName) → device_of_text text ≡ Some name → text_of name ≡ text
