-- What a bridge keeps at events at which it doesn't select its root and roles again, and if it loses a port.
use Rattle.std.specs.Prelude.{ℕ, Bool, true, false, ◌≡◌, List, [], ◌∷◌}
use Rattle.std.specs.List.{list_any}
use Rattle.rstp_state.specs.declared.port.PortState.{PortState}
use Rattle.ether_wire.specs.Ports.{place_of_port}
use Rattle.rstp_state.specs.Port.{is_root}
use Rattle.rstp_state.specs.Selection.{best_path, is_better, is_own, is_through, role_by, selected_root}
use Rattle.rstp_run.specs.declared.event.Event.{Event}
use Rattle.rstp_run.specs.declared.event.Event.TheVariants as events
use Rattle.rstp_run.specs.declared.rule.Rule.{Rule}
use Rattle.rstp_run.specs.declared.rule.Rule.TheVariants.{Select}
use Rattle.rstp_run.specs.Events.{Happens}
use Rattle.rstp_run.specs.Laws.{IsInTree}
use Rattle.rstp_run.specs.RootPort.{IsAtPlace}
use Rattle.rstp_run.specs.Rules.{Tree}
use Rattle.rstp_run.specs.Runs.{Firing, IsSettled}
use Rattle.rstp_run.specs.Settled.{IsReached}

abbrev pub is_select : Rule → Bool
is_select Select = true
is_select _ = false

-- Select is among the firings
abbrev pub selects : List Firing → Bool
selects firings = list_any (λ f. is_select f.rule) firings

-- these events, the newest first, lead from s to t, each with some limit of firings, and Select never fires
abbrev pub Lasts : List Event → Tree → Tree → Type 0
Lasts [] s t = t ≡ s
Lasts (event ∷ earlier) s t =
    (mid : Tree) × (limit : ℕ) × (settled : Bool) × (mask : ℕ) × Lasts earlier s mid
    × (h : Happens event limit mid t settled mask) × (selects h.firings ≡ false)

-- the port at this place has this port's role
abbrev pub HasRoleOf : PortState → Tree → ℕ → Type 0
HasRoleOf b s p = (a : PortState) × IsAtPlace s p a × (b.role ≡ a.role)

-- after events at which Select never fires, each port of a settled bridge has the role that it had, settled, before
abbrev pub RolesLast : Type 0
RolesLast =
    (history : List Event) (s t : Tree) → IsReached s → IsSettled s → IsSettled t → Lasts history s t
    → (p : ℕ) (b : PortState) → IsAtPlace t p b → HasRoleOf b s p

-- such events lead to a state that is reachable from the bridge's start
abbrev pub LastingIsReached : Type 0
LastingIsReached = (history : List Event) (s t : Tree) → IsReached s → Lasts history s t → IsReached t

-- a port that isn't the root port goes down
abbrev pub LosesPort : Tree → Tree → Type 0
LosesPort s t =
    (p : ℕ) × (limit : ℕ) × (settled : Bool) × (mask : ℕ) × (port : PortState)
    × (IsAtPlace s (place_of_port p) port × (is_root port.role ≡ false))
    × Happens (events.PortDown p) limit s t settled mask

-- after a port of a settled bridge went down that isn't its root port, each root port or designated port of the bridge,
-- settled again, was one before
abbrev pub LosingKeepsTree : Type 0
LosingKeepsTree =
    (s t : Tree) → IsReached s → IsSettled s → IsSettled t → LosesPort s t → (q : ℕ) → IsInTree t q → IsInTree s q

-- in a settled bridge the root and the roles are those that selection gives for the present information of the ports
pub record IsSelection (s : Tree) : Type 0 where
  pub root : s.root ≡ selected_root s.settings s.ports
  pub roles : (p : ℕ) (port : PortState) → IsAtPlace s p port
      → port.role ≡ role_by port.info_is (is_through (best_path s.settings s.ports) p)
      (is_better s.settings s.root port) (is_own s.settings port)

abbrev pub SelectionIsCurrent : Type 0
SelectionIsCurrent = (s : Tree) → IsReached s → IsSettled s → IsSelection s
