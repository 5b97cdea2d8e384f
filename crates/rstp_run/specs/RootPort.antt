-- Laws of every bridge that is reachable from its start by events.
use Rattle.std.specs.Prelude.{ℕ, Bool, true, ◌≡◌, List, [], ◌∷◌, Some, slice_get}
use Rattle.rstp_state.specs.declared.port.PortState.{PortState}
use Rattle.rstp_state.specs.declared.start.PortSettings.{PortSettings}
use Rattle.rstp_state.specs.declared.start.Settings.{Settings}
use Rattle.rstp_state.specs.Port.{is_root}
use Rattle.rstp_run.specs.declared.event.Event.{Event}
use Rattle.rstp_run.specs.Events.{Happens, start}
use Rattle.rstp_run.specs.Rules.{Tree}
use Rattle.rstp_run.specs.Runs.{IsSettled}

-- these events, the newest first, lead from s to t, each with some limit of firings
abbrev pub Comes : List Event → Tree → Tree → Type 0
Comes [] s t = t ≡ s
Comes (event ∷ earlier) s t =
    (mid : Tree) × (limit : ℕ) × (settled : Bool) × (mask : ℕ) × Comes earlier s mid
    × Happens event limit mid t settled mask

-- a bridge with these settings may reach this state
abbrev pub CanBe : Settings → List PortSettings → Tree → Type 0
CanBe settings ports s = (events : List Event) × Comes events (start settings ports) s

-- the port at place p
abbrev pub IsAtPlace : Tree → ℕ → PortState → Type 0
IsAtPlace s p port = slice_get s.ports p ≡ Some port

-- a settled bridge has at most one root port
abbrev pub OneRootPort : Type 0
OneRootPort =
    (settings : Settings) (ports : List PortSettings) (s : Tree) → CanBe settings ports s → IsSettled s
    → (p q : ℕ) (a b : PortState) → IsAtPlace s p a → IsAtPlace s q b
    → is_root a.role ≡ true → is_root b.role ≡ true → p ≡ q
