-- The results of reads and writes of a device.
use Rattle.std.specs.Prelude.{◌≤◌, ℕ, ℤ, pos, negsuc, ◌==◌, ◌||◌, Bool, true, false, if◌then◌else◌, Result, Ok, Err}
use Rattle.std.specs.Ordering.{int_eq}
use Rattle.ether_wire.specs.declared.ends.Device.{Device}
use Rattle.ev_links.specs.declared.tap.Transfer.{Transfer}
use Rattle.ev_links.specs.declared.tap.Transfer.TheVariants.{Frame, NotReady, Failed}

-- EAGAIN (11), which is EWOULDBLOCK: the call would wait; EINTR (4): a signal came first
abbrev pub may_repeat : ℤ → Bool
may_repeat error = int_eq error (pos 11) || int_eq error (pos 4)

-- The system returned the number of octets of a frame, or a negative number and this error. No frame is empty.
abbrev pub transfer_of : ℤ → ℤ → Transfer
transfer_of (pos size) error = if size == 0 then Failed else Frame size
transfer_of (negsuc n) error = if may_repeat error then NotReady else Failed

-- a frame has at most this many octets
abbrev pub FitsIn : ℕ → Transfer → Type 0
FitsIn most (Frame size) = size ≤ most
FitsIn most NotReady = Unit {0}
FitsIn most Failed = Unit {0}

abbrev pub is_frame : Transfer → Bool
is_frame (Frame size) = true
is_frame NotReady = false
is_frame Failed = false

-- the size of the frame that a read brought, 0 if none waits, and 0.0.0.0 as its sender
abbrev pub frame_by : Transfer → Result (ℕ × ℕ) Device
frame_by (Frame size) = Ok (size, 0)
frame_by NotReady = Ok (0, 0)
frame_by Failed = Err (record {})
