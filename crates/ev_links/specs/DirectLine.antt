-- A link with its line: a frame is sent at once while nothing waits, and waits on the line otherwise.
use Rattle.std.specs.Prelude.{◌≡◌, ℕ, ◌&&◌, Bool, false, true, not, List, [], ◌∷◌, Option, is_some, if◌then◌else◌}
use Rattle.ev_links.specs.Coming.{behind}
use Rattle.ev_links.specs.Links.{Try, a_try}
use Rattle.ev_links.specs.Line.{Sourced, Waiting, is_empty, after_frame, after_bpdu, first_of, after_take, after_end}
use Rattle.ev_links.specs.Line.{after_drop}
use Rattle.ev_links.specs.declared.direct_line.DirectLine.{DirectLine}

-- the line; whether the link's worker sends the datagram that it took last; and the datagrams that the link was to send
-- at once
pub record Direct : Type 0 where
  pub line : Waiting
  pub is_sending : Bool
  pub tried : Option (List Try)

abbrev pub direct : Waiting → Bool → Option (List Try) → Direct
direct line is_sending tried = record { line = line; is_sending = is_sending; tried = tried }

-- `tried` is the history of the link
abbrev pub direct_of : {K : Type 0} → (K → Option (List Try)) → DirectLine K → Direct
direct_of tried d = direct d.line d.is_sending (tried d.link)

-- the link is free: nothing waits, and its worker sends nothing
abbrev pub is_free : Direct → Bool
is_free d = not d.is_sending && is_empty d.line

-- the link was to send the frame at once
abbrev pub after_try : Sourced → Bool → Direct → Direct
after_try f is_sent d = direct d.line d.is_sending (behind d.tried (a_try f.packet is_sent ∷ []))

-- the frame is put on the line
abbrev pub with_frame_put : Sourced → Direct → Direct
with_frame_put f d = direct (after_frame f d.line) d.is_sending d.tried

-- A frame was passed on, and sent at once or not. A free link was tried. A frame that wasn't sent was put on the line.
abbrev pub after_pass : Bool → Sourced → Direct → Direct
after_pass true f d = after_try f true d
after_pass false f d = with_frame_put f (if is_free d then after_try f false d else d)

-- only a free link sends a frame at once
abbrev pub Passes : Bool → Sourced → Direct → Direct → Type 0
Passes is_sent f d d' = (is_sent ≡ true → is_free d ≡ true) × (d' ≡ after_pass is_sent f d)

-- a BPDU is put on the line
abbrev pub with_bpdu_put : List ℕ → Direct → Direct
with_bpdu_put bpdu d = direct (after_bpdu bpdu d.line) d.is_sending d.tried

-- the link's worker takes the first datagram, if there is one; from then on it sends that
abbrev pub after_turn : Direct → Direct
after_turn d = direct (after_take d.line) (is_some (first_of d.line)) d.tried

-- the line has ended
abbrev pub after_its_end : Direct → Direct
after_its_end d = direct (after_end d.line) d.is_sending d.tried

-- all that waits was dropped
abbrev pub after_its_drop : Direct → Direct
after_its_drop d = direct (after_drop d.line) d.is_sending d.tried
