-- The laws of a link with its line.
use Rattle.std.specs.Prelude.{◌≡◌, ℕ, ◌+◌, ◌-◌, ◌^◌, ◌<◌, ◌≤◌, min, Bool, true, false, nat_lt, if◌then◌else◌}
use Rattle.std.specs.Prelude.{List, [], ◌∷◌, ◌++◌, length}
use Rattle.ev_links.specs.Line.{Sourced, nothing_waits, from_source, fits_part, has_room, frames_in_front}
use Rattle.ev_links.specs.DirectLine.{Direct, is_free, after_pass, with_bpdu_put, after_turn}
use Rattle.ev_links.specs.DirectLine.{after_its_end, after_its_drop}

-- a call of a link with its line: a frame is passed on, and sent at once or not; a BPDU is put on the line; the link's
-- worker takes the first datagram; the line ends; all that waits is dropped
pub data Step : Type 0 where
  passes : Bool → Sourced → Step
  puts : List ℕ → Step
  takes : Step
  ends : Step
  drops_rest : Step

abbrev pub after_step : Step → Direct → Direct
after_step (passes is_sent f) d = after_pass is_sent f d
after_step (puts bpdu) d = with_bpdu_put bpdu d
after_step takes d = after_turn d
after_step ends d = after_its_end d
after_step drops_rest d = after_its_drop d

-- only a free link sends a frame at once
abbrev pub IsStep : Step → Direct → Type 0
IsStep (passes true f) d = is_free d ≡ true
IsStep (passes false f) d = Unit {0}
IsStep (puts bpdu) d = Unit {0}
IsStep takes d = Unit {0}
IsStep ends d = Unit {0}
IsStep drops_rest d = Unit {0}

-- the frames that leave: one that is sent at once; one that the link's worker takes, which then sends it; or all that
-- wait, if they are dropped
abbrev pub leaving : Step → Direct → List Sourced
leaving (passes true f) d = f ∷ []
leaving (passes false f) d = []
leaving (puts bpdu) d = []
leaving takes d = frames_in_front d.line.bpdus d.line.frames
leaving ends d = []
leaving drops_rest d = d.line.frames

-- the frame that is passed on, unless it is dropped
abbrev pub kept : Step → Direct → List Sourced
kept (passes true f) d = f ∷ []
kept (passes false f) d = if has_room d.line.parts d.line.frames f.source (length f.packet.octets) then f ∷ [] else []
kept (puts bpdu) d = []
kept takes d = []
kept ends d = []
kept drops_rest d = []

-- the number of frames and BPDUs that are dropped: a frame for which there is no room; the oldest of 16 BPDUs; or all
-- that wait
abbrev pub drops : Step → Direct → ℕ
drops (passes true f) d = 0
drops (passes false f) d = if has_room d.line.parts d.line.frames f.source (length f.packet.octets) then 0 else 1
drops (puts bpdu) d = if nat_lt (length d.line.bpdus) 16 then 0 else 1
drops takes d = 0
drops ends d = 0
drops drops_rest d = length d.line.bpdus + length d.line.frames

-- ---- several calls, the first one first

abbrev pub after_steps : List Step → Direct → Direct
after_steps [] d = d
after_steps (s ∷ steps) d = after_steps steps (after_step s d)

abbrev pub AreSteps : List Step → Direct → Type 0
AreSteps [] d = Unit {0}
AreSteps (s ∷ steps) d = IsStep s d × AreSteps steps (after_step s d)

abbrev pub all_leaving : List Step → Direct → List Sourced
all_leaving [] d = []
all_leaving (s ∷ steps) d = leaving s d ++ all_leaving steps (after_step s d)

abbrev pub all_kept : List Step → Direct → List Sourced
all_kept [] d = []
all_kept (s ∷ steps) d = kept s d ++ all_kept steps (after_step s d)

abbrev pub all_drops : List Step → Direct → ℕ
all_drops [] d = 0
all_drops (s ∷ steps) d = drops s d + all_drops steps (after_step s d)

-- the frames that waited at first, and then those that were passed on and not dropped, are those that left, and then
-- those that wait at last, in this order
abbrev pub FramesKeepTheirOrder : Type 0
FramesKeepTheirOrder = (steps : List Step) (d : Direct) → AreSteps steps d
    → d.line.frames ++ all_kept steps d ≡ all_leaving steps d ++ (after_steps steps d).line.frames

-- the count at first, and the dropped ones, are the count at last, which stops at 2^64 - 1
abbrev pub EachDropIsCounted : Type 0
EachDropIsCounted = (steps : List Step) (d : Direct) → AreSteps steps d → d.line.dropped ≤ 2 ^ 64 - 1
    → (after_steps steps d).line.dropped ≡ min (d.line.dropped + all_drops steps d) (2 ^ 64 - 1)

-- ---- parts

-- A line on which nothing waited drops a frame only if the frame is too long, or if the part of its source is full: as
-- many frames of the source wait as the part holds, or the frame has more octets than the part has left. So no source
-- takes another's part, whatever the sources pass on.
abbrev pub OnlyAFullPartDrops : Type 0
OnlyAFullPartDrops = (steps : List Step) (d : Direct) (parts : ℕ) (f : Sourced) → d.line ≡ nothing_waits parts
    → AreSteps steps d → f.source < parts → length f.packet.octets ≤ 9026
    → kept (passes false f) (after_steps steps d) ≡ []
    → fits_part parts (from_source f.source (after_steps steps d).line.frames) (length f.packet.octets) ≡ false
