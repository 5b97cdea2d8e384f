-- The effects of a firing on its own port, and on each other port.
use Rattle.rstp_roles.specs.Rules.{role_does}
use Rattle.rstp_run.proofs.Basics.{Effect, Fact, Facts, Number, Off, On, Relations, timed}
use Rattle.rstp_run.proofs.Each.{AtAll, AtEach, at_each, each_as, each_change, each_map, each_same, Over}
use Rattle.rstp_run.proofs.Names.{[], ap, arith, asks, Bool, change_at, false, guard, information_does, inl, inr}
use Rattle.rstp_run.proofs.Names.{is_select, List, length, map, migration_does, not, PortState, ports_after, RoleRule}
use Rattle.rstp_run.proofs.Names.{Rule, receive_does, refl, Some, same_Some, slice_get, slice_set, state_does, suc, sym}
use Rattle.rstp_run.proofs.Names.{Timing, TopologyRule, Tree, telling_others, timing_in, true, with_propagation}
use Rattle.rstp_run.proofs.Names.{with_re_root, with_sync, without_proposal, zero, ℕ, ◌&&◌, ◌*◌, ◌+◌, ◌∙◌, ◌∷◌, ◌≡◌}
use Rattle.rstp_run.proofs.Names.{◌≤◌, ◌⊎◌}
use Rattle.rstp_run.proofs.Totals.{slice_get-map, tested_at, told, total}
use Rattle.rstp_run.specs.Machines.{detection_does, topology_does, transmit_does}
use Rattle.rstp_run.proofs.Names.role_rule
use Rattle.rstp_run.proofs.Names.rules
use Rattle.rstp_run.proofs.Names.topology
use Rattle.rstp_run.proofs.Names.topology_rule

-- the effect of a firing on ports other than its own
pub data Spread : Type 0 where
  Nothing : Spread
  Syncs : Spread
  Reroots : Spread
  Tells : Spread

abbrev pub spread_by : Spread → Effect
spread_by Nothing port = port
spread_by Syncs port = with_sync port
spread_by Reroots port = with_re_root port
spread_by Tells port = with_propagation port

abbrev pub spread_of : Rule → Spread
spread_of (rules.Role role_rule.RootProposed) = Syncs
spread_of (rules.Role role_rule.AlternateProposed) = Syncs
spread_of (rules.Role role_rule.Reroot) = Reroots
spread_of (rules.Topology topology_rule.Detected) = Tells
spread_of (rules.Topology topology_rule.NotifiedTcn) = Tells
spread_of (rules.Topology topology_rule.NotifiedTc) = Tells
spread_of _ = Nothing

-- the port of a list of one port
abbrev the_one : PortState → List PortState → PortState
the_one x [] = x
the_one x (y ∷ ys) = y

-- the effect of a firing on its own port
abbrev pub own_role : RoleRule → Timing → Effect
own_role rule timing port = the_one port (role_does rule timing (port ∷ []) 0)

abbrev pub own_topology : TopologyRule → Timing → Effect
own_topology rule timing port = the_one port (topology_does rule timing (port ∷ []) 0)

abbrev pub own : Rule → Timing → Effect
own rules.Select timing port = port
own (rules.Receive rule) timing port = receive_does rule port
own (rules.Migration rule) timing port = migration_does rule port
own (rules.Detection rule) timing port = detection_does rule port
own (rules.Information rule) timing port = information_does rule port
own (rules.Role rule) timing port = own_role rule timing port
own (rules.State rule) timing port = state_does rule port
own (rules.Topology rule) timing port = own_topology rule timing port
own (rules.Transmit rule) timing port = transmit_does rule timing port

-- ---- all ports after a firing

module _ (R : Relations) (p : ℕ) (ports : List PortState) where
  -- the relation holds of this change at each other port, and at the port at place p
  abbrev Others : Effect → Type 0
  Others does = (q : ℕ) (x : PortState) → (q ≡ p → ⊥) → R q x (does x)

  abbrev Here : Effect → Type 0
  Here does = (x : PortState) → slice_get ports p ≡ Some x → R p x (does x)

  alone : (does : Effect) → Others (λ x. x) → Here does → AtEach R ports (change_at p does ports)
  alone does others here =
      each_change R p does ports ports
      (each_same (Over R p does) ports (λ q x at. (others q x, λ e. rw e (here x (rw e at at)))))

  everywhere : (every does : Effect) → Others every → Here (λ x. does (every x))
      → AtEach R ports (change_at p does (map every ports))
  everywhere every does others here =
      each_change R p does ports (map every ports)
      (each_map (Over R p does) every ports (λ q x at. (others q x, λ e. rw e (here x (rw e at at)))))

  rerooting : Others with_re_root → Here with_re_root → AtEach R ports (map with_re_root ports)
  rerooting others here = each_map R with_re_root ports (λ q x at. elim (same_place q) [
    | inl e ↦ rw e (here x (rw e at at))
    | inr apart ↦ others q x apart
  ])
    where
      same_place : (q : ℕ) → (q ≡ p) ⊎ (q ≡ p → ⊥)
      same_place q = grind arith

  telling : (does : Effect) (port : PortState) → slice_get ports p ≡ Some port → Others with_propagation → Here does
      → AtEach R ports (telling_others p does ports)
  telling does port at others here =
      let there = slice_get-map with_propagation ports p port at in
      let same : change_at p (λ y. does port) (map with_propagation ports)
      ≡ slice_set (map with_propagation ports) p (does port) = rw there in
      rw (told p does ports port at, ← same)
      (everywhere with_propagation (λ y. does port) others
      (λ x is. rw (← same_Some port x (sym at ∙ is)) (here port at)))

-- each port before and after a firing
pub own-each : (R : Relations) (rule : Rule) (s : Tree) (p : ℕ) → Off (is_select rule) → On (guard rule s p)
    → ((q : ℕ) (x : PortState) → (q ≡ p → ⊥) → R q x (spread_by (spread_of rule) x))
    → ((x : PortState) → slice_get s.ports p ≡ Some x → On (asks rule s p x) → R p x (own rule (timing_in s) x))
    → AtEach R s.ports (ports_after rule s p)
own-each R rule s p other on others here =
    go rule other others (λ x at. here x at (rw at at on)) (tested_at (asks rule s p) s.ports p on)
  where
    go : (r : Rule) → Off (is_select r) → Others R p s.ports (spread_by (spread_of r))
        → Here R p s.ports (own r (timing_in s)) → (port : PortState) × (slice_get s.ports p ≡ Some port)
        × On (asks rule s p port) → AtEach R s.ports (ports_after r s p)
    go rules.Select n o h port = cc
    go (rules.Role role_rule.RootProposed) n o h port = everywhere R p s.ports with_sync without_proposal o h
    go (rules.Role role_rule.AlternateProposed) n o h port = everywhere R p s.ports with_sync without_proposal o h
    go (rules.Role role_rule.Reroot) n o h port = rerooting R p s.ports o h
    go (rules.Topology topology_rule.Detected) n o h port = telling R p s.ports _ port.0 port.1 o h
    go (rules.Topology topology_rule.NotifiedTcn) n o h port = telling R p s.ports _ port.0 port.1 o h
    go (rules.Topology topology_rule.NotifiedTc) n o h port = telling R p s.ports _ port.0 port.1 o h
    go r n o h port = alone R p s.ports (own r (timing_in s)) o h

pub after-at : (P Q : Facts) (rule : Rule) (s : Tree) (p : ℕ) → Off (is_select rule) → On (guard rule s p)
    → ((q : ℕ) (x : PortState) → (q ≡ p → ⊥) → P q x → Q q (spread_by (spread_of rule) x))
    → ((x : PortState) → On (asks rule s p x) → P p x → Q p (own rule (timing_in s) x)) → AtAll P s.ports
    → AtAll Q (ports_after rule s p)
after-at P Q rule s p other on others here =
    at_each P Q s.ports (ports_after rule s p)
    (own-each (λ q x y. P q x → Q q y) rule s p other on others (λ x at. here x))

-- each other port's number grows by at most c, and the port at place p becomes y
abbrev Grows : Number → ℕ → ℕ → PortState → Relations
Grows f c p y q u v = ((q ≡ p → ⊥) → f v ≤ f u + c) × (q ≡ p → v ≡ y)

total-at : (f : Number) (c p : ℕ) (a b : List PortState) (x y : PortState) → slice_get a p ≡ Some x
    → AtEach (Grows f c p y) a b → total f b + f x + c ≤ total f a + f y + length a * c
total-at f c p [] b x y at h = cc
total-at f c zero (u ∷ us) (v ∷ vs) x y at h =
    let old = ap f (same_Some u x at) in
    let new = ap f (h.0.1 refl) in
    omega (arith, rest us vs (each_as (λ q u v. f v ≤ f u + c) us vs h.1 (λ q u v _ _ k. k.0 (λ e. omega arith))))
  where
    rest : (a b : List PortState) → AtEach (λ q u v. f v ≤ f u + c) a b → total f b ≤ total f a + length a * c
    rest [] [] h = omega arith
    rest (u ∷ us) (v ∷ vs) h = omega (arith, h.0, rest us vs h.1)
    rest _ _ h = absurd h
total-at f c (suc p) (u ∷ us) (v ∷ vs) x y at h =
    let first = h.0.0 (λ e. omega arith) in
    omega (
      arith,
      total-at f c p us vs x y at (each_as (Grows f c p y) us vs h.1
          (λ q u v _ _ k. (λ apart. k.0 (λ e. apart (omega arith)), λ e. k.1 (omega arith)))),
    )
total-at f c p _ [] x y at h = absurd h

pub total-after : (f : Number) (c : ℕ) (rule : Rule) (s : Tree) (p : ℕ) (port : PortState) → Off (is_select rule)
    → On (guard rule s p) → slice_get s.ports p ≡ Some port
    → ((x : PortState) → f (spread_by (spread_of rule) x) ≤ f x + c)
    → total f (ports_after rule s p) + f port + c
    ≤ total f s.ports + f (own rule (timing_in s) port) + length s.ports * c
total-after f c rule s p port other on at grows =
    total-at f c p s.ports (ports_after rule s p) port (own rule (timing_in s) port) at
    (own-each (Grows f c p (own rule (timing_in s) port)) rule s p other on
    (λ q x apart. (λ far. grows x, λ e. absurd (apart e)))
    (λ x is asked. (λ far. absurd (far refl), λ e. rw (same_Some x port (sym is ∙ at)))))

-- ---- a port whose rules are being tried

abbrev pub all_keep : (Rule → Bool) → List Rule → Bool
all_keep keeps [] = true
all_keep keeps (rule ∷ rest) = not (is_select rule) && keeps rule && all_keep keeps rest

-- each rule other than Select keeps this fact of its port
abbrev pub Stable : Fact → Type 0
Stable R =
    (rule : Rule) (s : Tree) (p : ℕ) (x : PortState) → Off (is_select rule) → On (asks rule s p x) → R x
    → R (own rule (timing_in s) x)

-- the port without what the rules of topology change change
abbrev pub unturned : Effect
unturned x = record x {
  topology = topology.Inactive;
  flush = false;
  topology_change_while = 0;
  new_info = false;
  propagate_topology_change = false;
  received_topology_change = false;
  received_notification = false;
  received_acknowledgement = false;
  acknowledge_topology_change = false;
}

pub topology_unturned : (rule : TopologyRule) (timing : Timing) (x : PortState)
    → unturned (own_topology rule timing x) ≡ unturned x
topology_unturned topology_rule.Detected timing x =
    timed (λ y. unturned y ≡ unturned x) timing (record x { topology = topology.Active }) (λ time new. refl)
topology_unturned topology_rule.NotifiedTcn timing x =
    timed (λ y. unturned y ≡ unturned x) timing x (λ time new. refl)
topology_unturned topology_rule.Propagating timing x =
    timed (λ y. unturned y ≡ unturned x) timing x (λ time new. refl)
topology_unturned _ timing x = refl
