-- Bridges that are reachable from their starts by events, each event with the rules that fire at it.
use Rattle.std.proofs.Common.{◌≡◌, Bool, false, List, [], ◌∷◌, length, refl, sym, ◌∙◌, ap}
use Rattle.std.specs.Prelude.{ℕ, map}
use Rattle.rstp_state.specs.declared.start.PortSettings.{PortSettings}
use Rattle.rstp_state.specs.declared.start.Settings.{Settings}
use Rattle.rstp_roles.specs.declared.rule.RoleRule.TheVariants as role_rule
use Rattle.rstp_roles.specs.declared.rule.StateRule.TheVariants as state_rule
use Rattle.rstp_run.specs.declared.event.Event.{Event}
use Rattle.rstp_run.specs.declared.rule.Rule.{Rule}
use Rattle.rstp_run.specs.declared.rule.Rule.TheVariants as rules
use Rattle.rstp_run.specs.declared.rule.InformationRule.TheVariants as information_rule
use Rattle.rstp_run.specs.declared.rule.ReceiveRule.TheVariants as receive_rule
use Rattle.rstp_run.specs.declared.rule.TopologyRule.TheVariants as topology_rule
use Rattle.rstp_run.specs.declared.rule.TransmitRule.TheVariants as transmit_rule
use Rattle.rstp_run.specs.Events.{direct, start, Happens, RunsHappen}
use Rattle.rstp_run.specs.Lasting.{Lasts, selects}
use Rattle.rstp_run.specs.RootPort.{CanBe, Comes}
use Rattle.rstp_run.specs.Rules.{Tree, after}
use Rattle.rstp_run.specs.Runs.{Firing, Run, flushed}
use Rattle.rstp_run.specs.Sweep.{Going, swept}
use Rattle.rstp_run.proofs.Whole.{swept-run}
use Rattle.ev_sites.proofs.Computing.{sweep, sweep-is}

-- ---- firings

-- the bridge after these firings, the newest first
abbrev pub runs : List Firing → Tree → Tree
runs [] s = s
runs (f ∷ earlier) s = after f.rule (runs earlier s) f.place

run-is : (firings : List Firing) (s t : Tree) → Run firings s t → t ≡ runs firings s
run-is [] s t run = run
run-is (f ∷ earlier) s t (mid, run, fires) =
    fires.1 ∙ rw (run-is earlier s mid run)

-- these are the firings of the sweep with this limit
abbrev pub AreSwept : ℕ → List Firing → Tree → Type 0
AreSwept limit firings s = (sweep limit s).firings ≡ firings

-- so the sweep leads to the bridge after them
pub swept-is : (limit : ℕ) {firings : List Firing} (s : Tree) → AreSwept limit firings s
    → swept limit s ≡ record { tree = runs firings s; firings = firings }
swept-is limit {firings} s are =
    let tree = run-is (swept limit s).firings s (swept limit s).tree (swept-run limit s).0 in
    ap (λ t. record { tree = t; firings = (swept limit s).firings }) tree
    ∙ ap (λ fs. record { tree = runs fs s; firings = fs }) (sym (ap (λ (g : Going). g.firings) (sweep-is limit s))
    ∙ are)

-- ---- histories

-- an event, and the firings at it
pub record Happening : Type 0 where
  pub event : Event
  pub firings : List Firing

-- the bridge after these events and firings, the newest first
abbrev pub come_to : List Happening → Tree → Tree
come_to [] s = s
come_to (h ∷ earlier) s = runs h.firings (direct h.event (come_to earlier s))

-- the firings are those of the sweep at each event
abbrev pub AllHappen : List Happening → Tree → Type 0
AllHappen [] s = Unit {0}
AllHappen (h ∷ earlier) s =
    AllHappen earlier s × AreSwept (length h.firings) h.firings (direct h.event (come_to earlier s))

-- so they are a possible effect of the event
pub happens_so : RunsHappen → (h : Happening) (s : Tree) → AreSwept (length h.firings) h.firings (direct h.event s)
    → (settled : Bool) × Happens h.event (length h.firings) s (runs h.firings (direct h.event s)) settled
    (flushed h.firings 0)
happens_so law h s are =
    law h.event (length h.firings) s (runs h.firings (direct h.event s)) h.firings
    (swept-is (length h.firings) (direct h.event s) are)

comes : RunsHappen → (history : List Happening) (s : Tree) → AllHappen history s
    → Comes (map (λ h. h.event) history) s (come_to history s)
comes law [] s all = refl
comes law (h ∷ earlier) s all =
    let mid = come_to earlier s in
    let (settled, happens) = happens_so law h mid all.1 in (
      mid,
      length h.firings,
      settled,
      flushed h.firings 0,
      comes law earlier s all.0,
      happens,
    )

-- Select is not among the firings at any of the events
abbrev pub NoneSelects : List Happening → Type 0
NoneSelects [] = Unit {0}
NoneSelects (h ∷ earlier) = NoneSelects earlier × (selects h.firings ≡ false)

pub lasts : RunsHappen → (history : List Happening) (s : Tree) → AllHappen history s → NoneSelects history
    → Lasts (map (λ h. h.event) history) s (come_to history s)
lasts law [] s all none = refl
lasts law (h ∷ earlier) s all none =
    let mid = come_to earlier s in
    let (settled, happens) = happens_so law h mid all.1 in (
      mid,
      length h.firings,
      settled,
      flushed h.firings 0,
      lasts law earlier s all.0 none.0,
      happens,
      (rw (ap (λ (g : Going). g.firings) (sym happens.order ∙ swept-is (length h.firings)
          (direct h.event mid) all.1))) ∙ none.1,
    )

-- so a bridge with these settings may reach this state
pub can_be : RunsHappen → (settings : Settings) (ports : List PortSettings) (history : List Happening)
    → AllHappen history (start settings ports)
    → CanBe settings ports (come_to history (start settings ports))
can_be law settings ports history all = (map (λ h. h.event) history, comes law history (start settings ports) all)

-- ---- the firings

abbrev fire : Rule → ℕ → Firing
fire rule p = record { rule = rule; place = p }

-- when an edge port comes up
abbrev pub coming_up : ℕ → List Firing
coming_up p =
    fire (rules.Transmit transmit_rule.SendRst) p ∷ fire (rules.Topology topology_rule.TcLearning) p
    ∷ fire (rules.State state_rule.ToForwarding) p ∷ fire (rules.State state_rule.ToLearning) p
    ∷ fire (rules.Role role_rule.DesignatedForward) p ∷ fire (rules.Role role_rule.DesignatedLearn) p
    ∷ fire (rules.Role role_rule.Synced) p ∷ fire (rules.Role role_rule.Designated) p
    ∷ fire (rules.Information information_rule.Update) p ∷ fire rules.Select 0
    ∷ fire (rules.Information information_rule.Enabled) p ∷ []

-- when a bridge receives the root at its first port
abbrev pub hearing : List Firing
hearing =
    fire (rules.Transmit transmit_rule.SendRst) 0 ∷ fire (rules.Role role_rule.RootAgreed) 0
    ∷ fire (rules.Role role_rule.Root) 0 ∷ fire rules.Select 0
    ∷ fire (rules.Topology topology_rule.Detected) 0 ∷ fire (rules.Information information_rule.Superior) 0
    ∷ fire (rules.Receive receive_rule.Receive) 0 ∷ []

-- when the bridge receives, at its second port, from a bridge that is as near to the root, and takes that bridge's port
-- for the segment's designated port
abbrev pub blocking : List Firing
blocking =
    fire (rules.Transmit transmit_rule.SendRst) 1 ∷ fire (rules.Topology topology_rule.Flush) 1
    ∷ fire (rules.Topology topology_rule.TcInactive) 1 ∷ fire (rules.Role role_rule.Alternate) 1
    ∷ fire (rules.Topology topology_rule.TcBack) 1 ∷ fire (rules.State state_rule.ToDiscarding) 1
    ∷ fire (rules.Role role_rule.AlternateAgreed) 1 ∷ fire (rules.Role role_rule.Block) 1
    ∷ fire (rules.Topology topology_rule.Flush) 0 ∷ fire (rules.Topology topology_rule.Propagating) 0
    ∷ fire rules.Select 0 ∷ fire (rules.Topology topology_rule.Detected) 1
    ∷ fire (rules.Information information_rule.Superior) 1 ∷ fire (rules.Receive receive_rule.Receive) 1 ∷ []

-- when two ports of a bridge send their Hello messages
abbrev pub greeting : List Firing
greeting =
    fire (rules.Transmit transmit_rule.SendRst) 1 ∷ fire (rules.Transmit transmit_rule.Periodic) 1
    ∷ fire (rules.Transmit transmit_rule.SendRst) 0 ∷ fire (rules.Transmit transmit_rule.Periodic) 0 ∷ []

-- when a bridge receives its root port's information again
abbrev pub repeating : List Firing
repeating =
    fire (rules.Information information_rule.Repeated) 0 ∷ fire (rules.Receive receive_rule.Receive) 0 ∷ []

-- when the second port goes down
abbrev pub losing : List Firing
losing =
    fire (rules.Role role_rule.DisabledPort) 1 ∷ fire (rules.Topology topology_rule.Flush) 1
    ∷ fire (rules.Topology topology_rule.TcInactive) 1 ∷ fire (rules.State state_rule.ToDiscarding) 1
    ∷ fire (rules.Role role_rule.Disable) 1 ∷ fire rules.Select 0
    ∷ fire (rules.Information information_rule.Disabled) 1 ∷ []
