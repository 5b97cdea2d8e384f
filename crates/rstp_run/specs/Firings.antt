-- Laws of the number of firings at an event of a settled bridge that is reachable from its start by events.
use Rattle.std.specs.Prelude.{ℕ, Bool, true, ◌≡◌, ◌+◌, ◌*◌, ◌≤◌, if◌then◌else◌, List, [], ◌∷◌, length, suc}
use Rattle.rstp_state.specs.declared.start.PortSettings.{PortSettings}
use Rattle.rstp_state.specs.declared.start.Settings.{Settings}
use Rattle.rstp_run.specs.declared.event.Event.{Event}
use Rattle.rstp_run.specs.Events.{Happens, firings_at, start}
use Rattle.rstp_run.specs.Lasting.{is_select}
use Rattle.rstp_run.specs.Rules.{Tree}
use Rattle.rstp_run.specs.Runs.{Firing, IsSettled}
use Rattle.rstp_run.specs.Settled.{IsReached}

-- the number of times that Select fired
abbrev pub selections : List Firing → ℕ
selections [] = 0
selections (f ∷ earlier) = if is_select f.rule then suc (selections earlier) else selections earlier

-- at an event of a settled bridge Select fires at most twice, whatever the limit of firings is
abbrev pub SelectsTwice : Type 0
SelectsTwice =
    (event : Event) (limit : ℕ) (s t : Tree) (settled : Bool) (mask : ℕ) → IsReached s → IsSettled s
    → (h : Happens event limit s t settled mask) → selections h.firings ≤ 2

-- A number of firings that no event of a settled bridge with n ports exceeds: less than the limit of `Bridge::event`.
abbrev pub most_firings : ℕ → ℕ
most_firings n = 63 * n + 55

-- an event of a settled bridge has at most that many firings, whatever the limit is, if its Hello time isn't 0
abbrev pub EventsAreShort : Type 0
EventsAreShort =
    (event : Event) (limit : ℕ) (s t : Tree) (settled : Bool) (mask : ℕ) → IsReached s → IsSettled s
    → 1 ≤ s.settings.hello → (h : Happens event limit s t settled mask)
    → length h.firings ≤ most_firings (length s.ports)

-- these events, the newest first, lead from s to t, each with at least this limit of firings
abbrev pub ComesWithin : ℕ → List Event → Tree → Tree → Type 0
ComesWithin least [] s t = t ≡ s
ComesWithin least (event ∷ earlier) s t =
    (mid : Tree) × (limit : ℕ) × (settled : Bool) × (mask : ℕ) × ComesWithin least earlier s mid
    × (least ≤ limit) × Happens event limit mid t settled mask

-- Every bridge that is reached from its start by events is settled, if each event may have one more firing than that.
abbrev pub StaysSettled : Type 0
StaysSettled =
    (settings : Settings) (ports : List PortSettings) (events : List Event) (s : Tree) → 1 ≤ settings.hello
    → ComesWithin (most_firings (length ports) + 1) events (start settings ports) s → IsSettled s

-- an event of a settled bridge ends settled, if it may have as many firings as `Bridge::event` allows
abbrev pub EventEndsSettled : Type 0
EventEndsSettled =
    (event : Event) (limit : ℕ) (s t : Tree) (settled : Bool) (mask : ℕ) → IsReached s → IsSettled s
    → 1 ≤ s.settings.hello → firings_at s ≤ limit → Happens event limit s t settled mask → settled ≡ true

-- these events, the newest first, lead from s to t, each with the limit of firings of `Bridge::event`
abbrev pub ComesByEvents : List Event → Tree → Tree → Type 0
ComesByEvents [] s t = t ≡ s
ComesByEvents (event ∷ earlier) s t =
    (mid : Tree) × (settled : Bool) × (mask : ℕ) × ComesByEvents earlier s mid
    × Happens event (firings_at mid) mid t settled mask

-- Every event ends settled, at each bridge that came from its start by events with the limit of `Bridge::event`.
abbrev pub EveryEventSettles : Type 0
EveryEventSettles =
    (settings : Settings) (ports : List PortSettings) (events : List Event) (s t : Tree) (event : Event)
    (settled : Bool) (mask : ℕ) → 1 ≤ settings.hello → ComesByEvents events (start settings ports) s
    → Happens event (firings_at s) s t settled mask → settled ≡ true
