-- Enough firings settle every event: the sweep fires no more often than the measure says.
use Rattle.rstp_run.proofs.Basics.{Claim, Effect, Off, On, parts}
use Rattle.rstp_run.proofs.Falls.{IsAfterDiscard, measure, measure-bound, measure-falls}
use Rattle.rstp_run.proofs.Names.{[], after, arith, Bool, cases_Bool, cases_lt, change_at, direct, discard_effect}
use Rattle.rstp_run.proofs.Names.{discard_guard, drop, Event, enough_firings, false, fired, Going, guard, inl, inr}
use Rattle.rstp_run.proofs.Names.{List, length, length-map, list_any, MigrationRule, main_order, map, migration_does}
use Rattle.rstp_run.proofs.Names.{None, Option, or_parts, PortState, ports_at, Rule, receive_effect, refl, Some}
use Rattle.rstp_run.proofs.Names.{sending_order, slice_get, slice_set, suc, swept, Tree, take, test_at, tries}
use Rattle.rstp_run.proofs.Names.{tries_all, true, with_second, without_slot, zero, ℕ, ◌&&◌, ◌+◌, ◌<◌, ◌∙◌, ◌∷◌, ◌≡◌}
use Rattle.rstp_run.proofs.Names.{◌≤◌, ◌⊎◌}
use Rattle.rstp_run.proofs.Places.{main_rest}
use Rattle.rstp_run.proofs.Steps.{length-change_at, tries-full, tries-off, tries-on}
use Rattle.rstp_run.proofs.Whole.{swept-keeps, tries-cases}
use Rattle.rstp_run.specs.Settled.{EventsSettle}
use Rattle.rstp_run.proofs.Names.detection_rule
use Rattle.rstp_run.proofs.Names.events
use Rattle.rstp_run.proofs.Names.migration_rule
use Rattle.rstp_run.proofs.Names.receive_rule
use Rattle.rstp_run.proofs.Names.rules

-- ---- a rule whose guard Discard doesn't concern

abbrev is_edge : Rule → Bool
is_edge (rules.Detection detection_rule.Edge) = true
is_edge _ = false

apart : (rule : Rule) (s : Tree) (p : ℕ) → Off (is_edge rule) → IsAfterDiscard rule s p
apart (rules.Detection detection_rule.Edge) s p h = cc
apart _ s p h = tt

-- ---- Discard comes before Edge, and the rules between them don't enable it

abbrev IsOffAt : ℕ → ℕ → Claim
IsOffAt p limit g = (limit ≤ length g.firings) ⊎ (Off (guard (rules.Receive receive_rule.Discard) g.tree p))

slice_get-set : (ports : List PortState) (p : ℕ) (port new : PortState) → slice_get ports p ≡ Some port
    → slice_get (slice_set ports p new) p ≡ Some new
slice_get-set [] p port new at = cc
slice_get-set (x ∷ xs) zero port new at = refl
slice_get-set (x ∷ xs) (suc p) port new at = slice_get-set xs p port new at

-- the test of a port after its change
test_changed : (test : PortState → Bool) (does : Effect) (ports : List PortState) (p : ℕ) (b : Bool)
    → ((port : PortState) → slice_get ports p ≡ Some port → test (does port) ≡ b)
    → (slice_get ports p ≡ None → false ≡ b) → test_at p test (change_at p does ports) ≡ b
test_changed test does ports p b some none = go (slice_get ports p) refl
  where
    go : (o : Option PortState) → slice_get ports p ≡ o → test_at p test (change_at p does ports) ≡ b
    go None at = rw (at, at) (none at)
    go (Some port) at = rw (at, slice_get-set ports p port (does port) at) (some port at)

discarded : (s : Tree) (p : ℕ)
    → Off (guard (rules.Receive receive_rule.Discard) (after (rules.Receive receive_rule.Discard) s p) p)
discarded s p = test_changed discard_guard discard_effect s.ports p false (λ port at. refl) (λ at. refl)

-- the rules between Discard and Edge
abbrev is_between : Rule → Bool
is_between (rules.Receive receive_rule.Receive) = true
is_between (rules.Migration rule) = true
is_between _ = false

moves_keep : (rule : MigrationRule) (port : PortState) → discard_guard (migration_does rule port) ≡ discard_guard port
moves_keep migration_rule.Recheck port = refl
moves_keep _ port = refl

stays_off : (rule : Rule) (s : Tree) (p : ℕ) → On (is_between rule)
    → Off (guard (rules.Receive receive_rule.Discard) s p)
    → Off (guard (rules.Receive receive_rule.Discard) (after rule s p) p)
stays_off (rules.Receive receive_rule.Receive) s p h off =
    test_changed discard_guard receive_effect s.ports p false (λ port at. refl) (λ at. refl)
stays_off (rules.Migration rule) s p h off =
    test_changed discard_guard (migration_does rule) s.ports p false
    (λ port at. moves_keep rule port ∙ rw at at off) (λ at. refl)
stays_off _ s p h off = cc

abbrev all_between : List Rule → Bool
all_between [] = true
all_between (rule ∷ rules) = is_between rule && all_between rules

abbrev after_discard : List Rule
after_discard = take 6 (drop 2 main_order)

abbrev before_edge : List Rule
before_edge = rules.Receive receive_rule.Discard ∷ after_discard

abbrev after_edge : List Rule
after_edge = drop 9 main_order

module _ (p limit : ℕ) where
  full-tries : (rule : Rule) (g : Going) → limit ≤ length g.firings → limit ≤ length (tries rule p limit g).firings
  full-tries rule g full = rw (tries-full rule p limit g full) full

  off-tries : (rule : Rule) (g : Going) → On (is_between rule) → IsOffAt p limit g
      → IsOffAt p limit (tries rule p limit g)
  off-tries rule g h (inl full) = inl (full-tries rule g full)
  off-tries rule g h (inr off) =
      tries-cases (IsOffAt p limit) rule p limit g (λ below on. inr (stays_off rule g.tree p h off)) (inr off)

  off-all : (rules : List Rule) (g : Going) → On (all_between rules) → IsOffAt p limit g
      → IsOffAt p limit (tries_all rules p limit g)
  off-all [] g h off = off
  off-all (rule ∷ rules) g h off =
      let (first, later) = parts h in
      off-all rules (tries rule p limit g) later (off-tries rule g first off)

  off-discard : (g : Going) → IsOffAt p limit (tries (rules.Receive receive_rule.Discard) p limit g)
  off-discard g = elim (cases_lt (length g.firings) limit) [
    | inl below ↦ elim (cases_Bool (guard (rules.Receive receive_rule.Discard) g.tree p)) [
      | inl on ↦ rw (tries-on (rules.Receive receive_rule.Discard) p limit g below on) (inr (discarded g.tree p))
      | inr off ↦ rw (tries-off (rules.Receive receive_rule.Discard) p limit g off) (inr off)
    ]
    | inr full ↦ inl (full-tries (rules.Receive receive_rule.Discard) g full)
  ]

-- ---- an invariant of each firing, if Edge fires only at a port at which Discard isn't enabled

module _ (W : Claim) (steps : (rule : Rule) (p : ℕ) (g : Going) → IsAfterDiscard rule g.tree p
    → On (guard rule g.tree p) → W g → W (fired rule p g)) where
  module _ (p limit : ℕ) where
    tries_holds : (rule : Rule) (g : Going) → IsAfterDiscard rule g.tree p → W g → W (tries rule p limit g)
    tries_holds rule g rest h = tries-cases W rule p limit g (λ below on. steps rule p g rest on h) h

    all_holds : (rules : List Rule) (g : Going) → Off (list_any is_edge rules) → W g → W (tries_all rules p limit g)
    all_holds [] g none h = h
    all_holds (rule ∷ rules) g none h =
        let (here, others) = or_parts (is_edge rule) (list_any is_edge rules) none in
        all_holds rules (tries rule p limit g) others (tries_holds rule g (apart rule g.tree p here) h)

    edge_holds : (g : Going) → IsOffAt p limit g → W g → W (tries (rules.Detection detection_rule.Edge) p limit g)
    edge_holds g (inl full) h = rw (tries-full (rules.Detection detection_rule.Edge) p limit g full) h
    edge_holds g (inr off) h = tries_holds (rules.Detection detection_rule.Edge) g off h

    -- the rules after Select
    rest-holds : (g : Going) → W g → W (tries_all main_rest p limit g)
    rest-holds g h =
        let mid : Going = tries_all before_edge p limit g in
        let off = off-all p limit after_discard (tries (rules.Receive receive_rule.Discard) p limit g) refl
        (off-discard p limit g) in
        all_holds after_edge (tries (rules.Detection detection_rule.Edge) p limit mid) refl
        (edge_holds mid off (all_holds before_edge g refl h))

    pub main-holds : (g : Going) → W g → W (tries_all main_order p limit g)
    main-holds g h = rest-holds (tries rules.Select p limit g) (tries_holds rules.Select g tt h)

    pub sends-hold : (g : Going) → W g → W (tries_all sending_order p limit g)
    sends-hold g h = all_holds sending_order g refl h

  sweep-holds : (limit : ℕ) (s : Tree) → W (record { tree = s; firings = [] }) → W (swept limit s)
  sweep-holds limit = swept-keeps W limit (λ p. main-holds p limit) (λ p. sends-hold p limit)

-- the measure and the firings so far come to no more than m
abbrev Within : ℕ → Claim
Within m g = (measure g.tree + length g.firings ≤ m) × (1 ≤ g.tree.settings.hello)

pub length-direct : (event : Event) (ports : List PortState) → length (ports_at event ports) ≡ length ports
length-direct events.Second ports = length-map ports with_second
length-direct _ ports = length-change_at _ _ ports

swept-within : (limit : ℕ) (s : Tree) → 1 ≤ s.settings.hello → Within (measure s) (swept limit s)
swept-within limit s some =
    sweep-holds (Within (measure s))
    (λ rule p g rest on h. (omega (arith, measure-falls rule g.tree p h.1 rest on, h.0), h.1))
    limit s (omega arith, some)

pub events_settle : EventsSettle
events_settle event limit s t settled mask some enough h = go settled h.unsettled
  where
    same : length (direct event s).ports ≡ length s.ports
    same = length-direct event (map without_slot s.ports) ∙ length-map s.ports without_slot

    few : measure t + length h.firings ≤ measure (direct event s)
    few = (rw h.order at (swept-within limit (direct event s) some)).0

    bound : measure (direct event s) < enough_firings (length s.ports)
    bound = rw same at (measure-bound (direct event s))

    go : (b : Bool) → (Off b → length h.firings ≡ limit) → On b
    go true full = refl
    go false full = absurd (omega (arith, full refl, few, bound))
