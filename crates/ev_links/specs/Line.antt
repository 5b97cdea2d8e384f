-- The BPDUs and frames that wait to be sent over a link, and the number of those that were dropped for lack of room.
use Rattle.std.specs.Prelude.{◌≡◌, ℕ, ◌+◌, ◌-◌, ◌/◌, ◌^◌, ◌≤◌, ◌==◌, min, ◌&&◌, ◌||◌, Bool, false, true, nat_lt, nat_le}
use Rattle.std.specs.Prelude.{if◌then◌else◌}
use Rattle.std.specs.Prelude.{List, [], ◌∷◌, ◌++◌, length, take, drop, slice_get, Option, Some, None}
use Rattle.ev_links.specs.Links.{Packet, packet}
use Rattle.ev_links.specs.declared.line.Head.{Head}
use Rattle.ev_links.specs.declared.parts.SourceQueue.{SourceQueue}

-- a frame, and its source: the number of the link that it came from
pub record Sourced : Type 0 where
  pub source : ℕ
  pub packet : Packet

abbrev pub sourced : ℕ → Packet → Sourced
sourced source packet = record { source = source; packet = packet }

-- How many sources share the line; the waiting BPDUs and frames, the first one first; the number of dropped ones; and
-- whether the line has ended. The sources are numbered from 0.
pub record Waiting : Type 0 where
  pub parts : ℕ
  pub bpdus : List (List ℕ)
  pub frames : List Sourced
  pub dropped : ℕ
  pub has_ended : Bool

abbrev pub waiting_of : ℕ → List (List ℕ) → List Sourced → ℕ → Bool → Waiting
waiting_of parts bpdus frames dropped has_ended = record {
  parts = parts;
  bpdus = bpdus;
  frames = frames;
  dropped = dropped;
  has_ended = has_ended;
}

-- nothing waits, nothing was dropped, and the line has not ended
abbrev pub nothing_waits : ℕ → Waiting
nothing_waits parts = waiting_of parts [] [] 0 false

-- nothing waits
abbrev pub is_empty : Waiting → Bool
is_empty w = length w.bpdus == 0 && length w.frames == 0

-- the number of octets of these frames
abbrev pub octets_of : List Sourced → ℕ
octets_of [] = 0
octets_of (f ∷ frames) = length f.packet.octets + octets_of frames

-- the frames of this source
abbrev pub from_source : ℕ → List Sourced → List Sourced
from_source source [] = []
from_source source (f ∷ frames) =
    if f.source == source then f ∷ from_source source frames else from_source source frames

-- the line's first half, which all sources share, has room for a frame of `size` octets after these frames
abbrev pub fits_half : List Sourced → ℕ → Bool
fits_half frames size = nat_lt (length frames) 1024 && nat_le (octets_of frames + size) 262144

-- a source's part, an equal part of the other half, has room for a frame of `size` octets after its frames
abbrev pub fits_part : ℕ → List Sourced → ℕ → Bool
fits_part parts own size = nat_lt (length own) (1024 / parts) && nat_le (octets_of own + size) (262144 / parts)

-- both halves together have room
abbrev pub fits_line : List Sourced → ℕ → Bool
fits_line frames size = nat_lt (length frames) 2048 && nat_le (octets_of frames + size) 524288

-- there is room for a frame of `size` octets from this source: in the first half, or in the part of the source
abbrev pub has_room : ℕ → List Sourced → ℕ → ℕ → Bool
has_room parts frames source size =
    nat_le size 9026 && (fits_line frames size
    && (fits_half frames size || (nat_lt source parts && fits_part parts (from_source source frames) size)))

-- one more was dropped; the count stops at 2^64 - 1
abbrev pub one_dropped : Waiting → Waiting
one_dropped w = waiting_of w.parts w.bpdus w.frames (min (w.dropped + 1) (2 ^ 64 - 1)) w.has_ended

-- a frame is appended if there is room for it, and dropped if there is none
abbrev pub after_frame : Sourced → Waiting → Waiting
after_frame f w =
    if has_room w.parts w.frames f.source (length f.packet.octets)
    then waiting_of w.parts w.bpdus (w.frames ++ f ∷ []) w.dropped w.has_ended else one_dropped w

-- a BPDU is appended to the other BPDUs
abbrev pub with_bpdu : List ℕ → Waiting → Waiting
with_bpdu bpdu w = waiting_of w.parts (w.bpdus ++ bpdu ∷ []) w.frames w.dropped w.has_ended

-- without the oldest BPDU
abbrev pub without_oldest : Waiting → Waiting
without_oldest w = waiting_of w.parts (drop 1 w.bpdus) w.frames w.dropped w.has_ended

-- a new BPDU is appended; if 16 or more wait, the oldest is dropped for it
abbrev pub after_bpdu : List ℕ → Waiting → Waiting
after_bpdu bpdu w = if nat_lt (length w.bpdus) 16 then with_bpdu bpdu w else with_bpdu bpdu
    (one_dropped (without_oldest w))

-- the first BPDU goes first; the first frame does if no BPDU waits
abbrev pub first_in : List (List ℕ) → List Sourced → Option Packet
first_in (bpdu ∷ bpdus) frames = Some (packet 0 bpdu)
first_in [] (frame ∷ frames) = Some frame.packet
first_in [] [] = None

abbrev pub first_of : Waiting → Option Packet
first_of w = first_in w.bpdus w.frames

-- the frames that remain after the first BPDU or frame is taken
abbrev pub frames_left : List (List ℕ) → List Sourced → List Sourced
frames_left (bpdu ∷ bpdus) frames = frames
frames_left [] frames = drop 1 frames

-- the frame that goes first, if no BPDU does
abbrev pub frames_in_front : List (List ℕ) → List Sourced → List Sourced
frames_in_front (bpdu ∷ bpdus) frames = []
frames_in_front [] [] = []
frames_in_front [] (frame ∷ frames) = frame ∷ []

abbrev pub after_take : Waiting → Waiting
after_take w = waiting_of w.parts (drop 1 w.bpdus) (frames_left w.bpdus w.frames) w.dropped w.has_ended

-- the packet that a call returned: its destination address, with its octets at the front of the buffer
abbrev pub handed : Option (ℕ × ℕ) → List ℕ → Option Packet
handed None buffer = None
handed (Some got) buffer = Some (packet got.0 (take got.1 buffer))

-- the line has ended: nothing more comes
abbrev pub after_end : Waiting → Waiting
after_end w = waiting_of w.parts w.bpdus w.frames w.dropped true

-- all that waits was dropped
abbrev pub after_drop : Waiting → Waiting
after_drop w =
    waiting_of w.parts [] [] (min (w.dropped + (length w.bpdus + length w.frames)) (2 ^ 64 - 1)) w.has_ended

-- ---- how a line stores its frames

-- these octets, cut into frames of the heads' sizes
abbrev pub cut : List Head → List ℕ → List Sourced
cut [] octets = []
cut (h ∷ heads) octets = sourced h.source (packet h.to (take h.size octets)) ∷ cut heads (drop h.size octets)

abbrev pub sizes : List Head → ℕ
sizes [] = 0
sizes (h ∷ heads) = h.size + sizes heads

-- no frame is longer than the longest datagram
abbrev pub NoneTooLong : List Head → Type 0
NoneTooLong [] = Unit
NoneTooLong (h ∷ heads) = (h.size ≤ 9026) × NoneTooLong heads

-- the heads of this source
abbrev pub heads_of : ℕ → List Head → List Head
heads_of source [] = []
heads_of source (h ∷ heads) = if h.source == source then h ∷ heads_of source heads else heads_of source heads

-- the part of each source counts the source's frames and their octets
abbrev pub AreCounted : List SourceQueue → List Head → Type 0
AreCounted parts heads = (s : ℕ) (p : SourceQueue) → slice_get parts s ≡ Some p
    → (p.frames ≡ length (heads_of s heads)) × (p.octets ≡ sizes (heads_of s heads))

-- The heads' sizes add up to the octets, no frame is too long, there is place for 2,048 heads and 16 BPDUs, and the
-- frames of each source are counted.
pub record IsLine (heads : List Head) (octets : List ℕ) (heads_place bpdus_place : ℕ) (parts : List SourceQueue)
    : Type 0 where
  pub all : sizes heads ≡ length octets
  pub fit : NoneTooLong heads
  pub for_heads : heads_place ≡ 2048
  pub for_bpdus : bpdus_place ≡ 16
  pub counted : AreCounted parts heads
