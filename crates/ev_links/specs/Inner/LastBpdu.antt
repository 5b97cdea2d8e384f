-- The last BPDU of a port, which the port receives again while it is flooded (IEEE 802.1D-2004, section 9.3).
use Rattle.std.specs.Prelude.{◌≡◌, ℕ, ◌==◌, ◌&&◌, ◌++◌, ◌∷◌, Bool, false, not, List, Result, Ok, Err}
use Rattle.std.specs.Prelude.{length, take, drop, slice_index, bit_and, nat_le, nat_lt}
use Rattle.ether_wire.specs.Addr.{bridge_group}
use Rattle.ether_wire.specs.Frame.{frame_of, destination_of}
use Rattle.ether_wire.specs.declared.frame.FrameRefusal.{FrameRefusal}
use Rattle.ev_links.specs.declared.last_bpdu.LastBpdu.{LastBpdu}

abbrev pub is_to_bridges : Result (List ℕ) FrameRefusal → Bool
is_to_bridges (Err refusal) = false
is_to_bridges (Ok frame) = destination_of frame == bridge_group

-- a frame of at most 256 octets to the bridge group, whose message has flags and isn't of type 0x80, a notification
abbrev pub is_kept : List ℕ → Bool
is_kept octets = (nat_lt 21 (length octets) && nat_le (length octets) 256)
    && (not (slice_index octets 20 == 0x80) && is_to_bridges (frame_of octets))

-- the frame whose only flag is the role: a message of the past announces no change, and neither proposes nor agrees
abbrev pub without_claims : List ℕ → List ℕ
without_claims octets = take 21 octets ++ (bit_and (slice_index octets 21) 0x0c ∷ drop 22 octets)

-- the same frame of the same sender, received in the same second
pub record IsSameBpdu (old new : LastBpdu) : Type 0 where
  pub frame : new.frame ≡ old.frame
  pub sender : new.from ≡ old.from
  pub second : new.second ≡ old.second
