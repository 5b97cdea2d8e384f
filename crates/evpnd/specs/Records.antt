-- The subcommands on a stream of records, and the message if the stream is text.
use Rattle.std.specs.Prelude.{◌≡◌, ℕ, Bool, false, not, ◌&&◌, ◌||◌, ◌==◌, nat_lt, codes, Option, Some, None}
use Rattle.std.specs.Prelude.{MatchBool, if◌then◌else◌}
use Rattle.ether_wire.specs.Ends.{End}
use Rattle.ev_report.specs.Ends.{Devices, has_failed, Holds}
use Rattle.evpnd.specs.Files.{Text}
use Rattle.ev_report.specs.declared.status.Status.{Status}
use Rattle.ev_report.specs.declared.status.Status.TheVariants as statuses
use Rattle.ev_report.specs.Status.{is_broken}

-- The message about text, after the line about the stream's fault.
abbrev pub not_records : Text
not_records = codes "this is not a record stream; `examples/make_records` turns text into records\n"

-- an ASCII character that can be printed (32 to 126), a tab, a line feed or a carriage return
abbrev pub is_printed : ℕ → Bool
is_printed octet =
    octet == 9 || (octet == 10 || (octet == 13 || (not (nat_lt octet 32) && not (nat_lt 126 octet))))

-- the first octet that was read can be printed, and isn't the `E` (69) with which each record begins
abbrev pub is_text : Option ℕ → Bool
is_text (Some octet) = not (octet == 69) && is_printed octet
is_text None = false

-- If the stream has a fault (status `Broken`), the first octet that was read is text, and the notes have had no failure
-- since they had this number, the message is written to them. The status stays, unless that failed: then it is
-- `Device`.
abbrev pub Hints : Option ℕ → ℕ → End → End → Status → Status → Type 0
Hints first failures before after status last =
    MatchBool (is_broken status && (is_text first && not (nat_lt failures before.failures)))
    (Holds before after not_records × (last ≡ (if has_failed before after then statuses.Device else status)))
    ((after ≡ before) × (last ≡ status))

-- The same of all devices, after reading whose first octet was this one.
pub record HintsOn (first : Option ℕ) (failures : ℕ) (before after : Devices) (status last : Status) : Type 0 where
  pub input : after.input ≡ before.input
  pub out : after.out ≡ before.out
  pub hints : Hints first failures before.notes after.notes status last

-- Records were read, with this effect; then, after a fault, the notes report that the first octet that was read is
-- text, if it is.
pub record Hinted (does : Devices → Devices → Status → Type 0) (before after : Devices) (last : Status) : Type 0 where
  pub mid : Devices
  pub status : Status
  pub first : Option ℕ
  pub done : does before mid status
  pub told : HintsOn first before.notes.failures mid after status last
