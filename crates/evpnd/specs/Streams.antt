-- The standard streams, and the effect on a run if one is closed.
use Rattle.std.specs.Prelude.{◌≡◌, ℕ, Bool, if◌then◌else◌, codes, Option, Some, None}
use Rattle.ev_report.specs.Ends.{Holds}
use Rattle.evpnd.specs.declared.streams.Stream.{Stream}
use Rattle.evpnd.specs.declared.streams.Stream.TheVariants.{Input, Output, Error}
use Rattle.evpnd.specs.Files.{Text}
use Rattle.evpnd.specs.Checks.{Desk}
use Rattle.ev_report.specs.declared.status.Status.{Status}
use Rattle.ev_report.specs.declared.status.Status.TheVariants as statuses

-- the first of the standard streams that is closed, by whether each is
abbrev pub first_closed : Bool → Bool → Bool → Option Stream
first_closed input output error =
    if input then Some Input else if output then Some Output else if error then Some Error else None

-- `STREAM: it is closed`
abbrev pub closed_text : Stream → Text
closed_text Input = codes "standard input: it is closed\n"
closed_text Output = codes "standard output: it is closed\n"
closed_text Error = codes "standard error: it is closed\n"

-- Nothing starts: the notes report that this stream was closed at the start. Nothing was read, nothing else written.
pub record IsClosed (stream : Stream) (before after : Desk) (status : Status) : Type 0 where
  pub shelf_kept : after.shelf ≡ before.shelf
  pub input : after.devices.input ≡ before.devices.input
  pub out : after.devices.out ≡ before.devices.out
  pub noted : Holds before.devices.notes after.devices.notes (closed_text stream)
  pub status_is : status ≡ statuses.Device

-- the effect if no stream was closed
abbrev pub Unclosed : (Desk → Desk → Status → Type 0) → Option Stream → Desk → Desk → Status → Type 0
Unclosed does None before after status = does before after status
Unclosed does (Some stream) before after status = IsClosed stream before after status
