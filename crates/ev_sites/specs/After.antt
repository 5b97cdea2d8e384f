-- A network after a rest: which of its ports may pass frames without a circle.
use Rattle.std.specs.Prelude.{ℕ, ◌≡◌, ◌≢◌, ◌+◌, ◌⊎◌, List, [], ◌∷◌}
use Rattle.rstp_run.specs.declared.event.Event.{Event}
use Rattle.rstp_run.specs.Lasting.{Lasts, LosesPort}
use Rattle.rstp_run.specs.Laws.{IsInTree}
use Rattle.rstp_run.specs.Rules.{Tree}
use Rattle.rstp_run.specs.Runs.{IsSettled}
use Rattle.ev_sites.specs.Network.{Spot, Network, IsBridgeAt, IsNetwork, IsAtRest, PassesAt, Crosses, Travels}
use Rattle.ev_sites.specs.Network.{IsBlockedRing}

-- the port at the spot is a root port or a designated port
abbrev pub IsInTreeAt : Network → Spot → Type 0
IsInTreeAt net x = (s : Tree) × IsBridgeAt net x.bridge s × IsInTree s (x.place + 1)

-- each port is on the segment on which it was
abbrev pub HaveSameSegments : Network → Network → Type 0
HaveSameSegments rest now = (x : Spot) → now.segment x ≡ rest.segment x

-- The segments are the same. Each port that passes frames now was a root port or a designated port at rest.
pub record IsWithin (rest now : Network) : Type 0 where
  pub segment : HaveSameSegments rest now
  pub in_tree : (x : Spot) → PassesAt now x → IsInTreeAt rest x

-- After a rest there is no circle as long as no port passes frames that was blocked or disabled then.
abbrev pub NoCircleWithin : Type 0
NoCircleWithin =
    (rest now : Network) → IsNetwork rest → IsAtRest rest → IsWithin rest now → (x : Spot) (ports : List Spot)
    → Travels now ports x x → ports ≡ []

-- The segments are the same. Each bridge came from its state at rest by events without a selection of root and roles.
pub record IsLater (rest now : Network) : Type 0 where
  pub segment : HaveSameSegments rest now
  pub bridge : (b : ℕ) (t : Tree) → IsBridgeAt now b t
      → (s : Tree) × (events : List Event) × IsBridgeAt rest b s × Lasts events s t

-- after a rest there is no circle until some bridge selects its root and roles again
abbrev pub NoCircleUntilSelection : Type 0
NoCircleUntilSelection =
    (rest now : Network) → IsNetwork rest → IsAtRest rest → IsLater rest now → (x : Spot) (ports : List Spot)
    → Travels now ports x x → ports ≡ []

-- The segments are the same. Each bridge is as at rest, or one of its ports went down that wasn't its root port.
pub record IsAfterLosses (rest now : Network) : Type 0 where
  pub segment : HaveSameSegments rest now
  pub bridge : (b : ℕ) (t : Tree) → IsBridgeAt now b t
      → (s : Tree) × IsBridgeAt rest b s × ((t ≡ s) ⊎ LosesPort s t)

-- after a rest there is no circle if some bridges lose a port each that isn't the root port
abbrev pub NoCircleAfterLosses : Type 0
NoCircleAfterLosses =
    (rest now : Network) → IsNetwork rest → IsAtRest rest → IsAfterLosses rest now → (x : Spot) (ports : List Spot)
    → Travels now ports x x → ports ≡ []

-- from s to t by events at which the bridge doesn't select again, or by the loss of a port that isn't its root port
abbrev pub Keeps : Tree → Tree → Type 0
Keeps s t = ((events : List Event) × Lasts events s t) ⊎ LosesPort s t

-- so from s to t through these bridges, the newest first, each of them settled
abbrev pub KeepsOn : List Tree → Tree → Tree → Type 0
KeepsOn [] s t = t ≡ s
KeepsOn (mid ∷ earlier) s t = KeepsOn earlier s mid × IsSettled mid × Keeps mid t

-- The segments are the same. Each bridge came from its state at rest by such events and losses, in any order.
pub record IsKept (rest now : Network) : Type 0 where
  pub segment : HaveSameSegments rest now
  pub bridge : (b : ℕ) (t : Tree) → IsBridgeAt now b t
      → (s : Tree) × (through : List Tree) × IsBridgeAt rest b s × KeepsOn through s t

-- after a rest there is no circle as long as bridges select again only because they lost ports other than root ports
abbrev pub NoCircleWhileKept : Type 0
NoCircleWhileKept =
    (rest now : Network) → IsNetwork rest → IsAtRest rest → IsKept rest now → (x : Spot) (ports : List Spot)
    → Travels now ports x x → ports ≡ []

-- ---- witnesses

-- no bridge is in the state that it had at rest
abbrev pub HaveChanged : Network → Network → Type 0
HaveChanged rest now = (b : ℕ) (s t : Tree) → IsBridgeAt rest b s → IsBridgeAt now b t → s ≢ t

-- A network at rest. Later no bridge is in its state from the rest, after events at which it didn't select its root and
-- roles again. Frames cross two of the three bridges of a ring then, and would run in a circle but for a blocked port.
pub record IsLastingRing (rest now : Network) : Type 0 where
  pub network : IsNetwork rest
  pub at_rest : IsAtRest rest
  pub later : IsLater rest now
  pub within : IsWithin rest now
  pub changed : HaveChanged rest now
  pub ring : IsBlockedRing now

-- there is such a network
abbrev pub RingCanLast : Type 0
RingCanLast = (rest now : Network) × IsLastingRing rest now

-- a network at rest; later a port that passed frames passes none, and a frame crosses a bridge
pub record IsCutRing (rest now : Network) : Type 0 where
  pub network : IsNetwork rest
  pub at_rest : IsAtRest rest
  pub within : IsWithin rest now
  pub lost : Spot
  pub passed : PassesAt rest lost
  pub closed : PassesAt now lost → ⊥
  pub x : Spot
  pub y : Spot
  pub crosses : Crosses now x y

-- there is such a network, right after the loss
abbrev pub RingCanBeCut : Type 0
RingCanBeCut = (rest now : Network) × IsAfterLosses rest now × IsCutRing rest now

-- there is such a network, in which each bridge handled more events
abbrev pub RingCanBeKept : Type 0
RingCanBeKept = (rest now : Network) × IsKept rest now × HaveChanged rest now × IsCutRing rest now
