-- In a visit of a port the rules of topology change fire at most twice, and once more for each pending change.
-- What a port may still fire for messages, migration, edges, aging and sending, as a number that each of these rules
-- lowers. Only a message raises it.
use Rattle.rstp_run.proofs.Basics.{Bools, current_not_out as ages, Effect, if-is, informed, Number, not_zero, Off, On}
use Rattle.rstp_run.proofs.Basics.{parts, timed}
use Rattle.rstp_run.proofs.Flags.{every, holds}
use Rattle.rstp_run.proofs.Measure.{has_to_turn, may_turn_edge}
use Rattle.rstp_run.proofs.Names.{[], ap, arith, Bool, Bpdu, cases_Bool, drop, false, Information, InformationRule}
use Rattle.rstp_run.proofs.Names.{if◌then◌else◌, information_asks, information_does, inl, inr, is_active, is_inactive}
use Rattle.rstp_run.proofs.Names.{is_learning, is_none, is_out, is_received, List, ltb-false, Migration, MigrationRule}
use Rattle.rstp_run.proofs.Names.{main_order, migration_asks, migration_does, nat_lt, no, not, not-true, PortState}
use Rattle.rstp_run.proofs.Names.{Rule, refl, suc, sym, Timing, Topology, TopologyRule, topology_asks, true, ℕ, ◌&&◌}
use Rattle.rstp_run.proofs.Names.{◌+◌, ◌<◌, ◌==◌, ◌||◌, ◌∷◌, ◌≡◌, ◌≤◌}
use Rattle.rstp_run.proofs.Own.{own_topology}
use Rattle.rstp_run.proofs.Quiet.{is_update}
use Rattle.rstp_run.proofs.Totals.{if_so, if_so-le, if_so-off, if_so-on}
use Rattle.rstp_run.proofs.LowersPorts as of_port
use Rattle.rstp_run.proofs.Names.change
use Rattle.rstp_run.proofs.Names.detection
use Rattle.rstp_run.proofs.Names.info
use Rattle.rstp_run.proofs.Names.information_rule
use Rattle.rstp_run.proofs.Names.migration
use Rattle.rstp_run.proofs.Names.migration_rule
use Rattle.rstp_run.proofs.Names.receiving
use Rattle.rstp_run.proofs.Names.rules
use Rattle.rstp_run.proofs.Names.sends
use Rattle.rstp_run.proofs.Names.topology
use Rattle.rstp_run.proofs.Names.topology_rule

-- ---- the flags of topology change

pub record Change : Type 0 where
  state : Topology
  tree : Bool
  learn : Bool
  forward : Bool
  learning : Bool
  edge : Bool
  tell : Bool
  changed : Bool
  noticed : Bool
  acknowledged : Bool
  flush : Bool

abbrev pub change_of : PortState → Change
change_of x = record {
  state = x.topology;
  tree = change.is_in_tree x;
  learn = x.learn;
  forward = x.forward;
  learning = x.learning;
  edge = x.oper_edge;
  tell = x.propagate_topology_change;
  changed = x.received_topology_change;
  noticed = x.received_notification;
  acknowledged = x.received_acknowledgement;
  flush = x.flush;
}

abbrev changes : Topology → Bools 10 Change
changes s a b c d e f g h i j = record {
  state = s;
  tree = a;
  learn = b;
  forward = c;
  learning = d;
  edge = e;
  tell = f;
  changed = g;
  noticed = h;
  acknowledged = i;
  flush = j;
}

abbrev detects : Change → Bool
detects c = is_learning c.state && c.tree && c.forward && not c.edge

abbrev pending : Change → Bool
pending c = c.changed || c.noticed || c.acknowledged || c.tell

abbrev pub asked : TopologyRule → Change → Bool
asked topology_rule.TcLearning c = is_inactive c.state && c.learn && not c.flush
asked topology_rule.Detected c = detects c
asked topology_rule.TcClear c = is_learning c.state && pending c && not (detects c)
asked topology_rule.TcInactive c =
    is_learning c.state && not c.tree && not c.learn && not c.learning && not (pending c)
asked topology_rule.TcBack c = is_active c.state && (not c.tree || c.edge)
asked topology_rule.NotifiedTcn c = is_active c.state && c.noticed
asked topology_rule.NotifiedTc c = is_active c.state && c.changed
asked topology_rule.Propagating c = is_active c.state && c.tell && not c.edge
asked topology_rule.Acknowledged c = is_active c.state && c.acknowledged
asked topology_rule.Flush c = c.flush

abbrev cleared : Topology → Change → Change
cleared state c = record c { state = state; tell = false; changed = false; noticed = false; acknowledged = false }

abbrev pub turned : TopologyRule → Change → Change
turned topology_rule.TcLearning c = cleared topology.Learning c
turned topology_rule.Detected c = record c { state = topology.Active }
turned topology_rule.TcClear c = cleared c.state c
turned topology_rule.TcInactive c = record c { state = topology.Inactive; flush = true }
turned topology_rule.TcBack c = cleared topology.Learning c
turned topology_rule.NotifiedTcn c = record c { changed = false; noticed = false }
turned topology_rule.NotifiedTc c = record c { changed = false; noticed = false }
turned topology_rule.Propagating c = record c { flush = true; tell = false }
turned topology_rule.Acknowledged c = record c { acknowledged = false }
turned topology_rule.Flush c = record c { flush = false }

pub asked-is : (rule : TopologyRule) (x : PortState) → topology_asks rule x ≡ asked rule (change_of x)
asked-is topology_rule.TcLearning x = refl
asked-is _ x = refl

pub turned-is : (rule : TopologyRule) (timing : Timing) (x : PortState)
    → change_of (own_topology rule timing x) ≡ turned rule (change_of x)
turned-is topology_rule.Detected timing x =
    timed (λ y. change_of y ≡ turned topology_rule.Detected (change_of x)) timing
    (record x { topology = topology.Active }) (λ time new. refl)
turned-is topology_rule.NotifiedTcn timing x =
    timed (λ y. change_of (change.notified_at y) ≡ turned topology_rule.NotifiedTcn (change_of x)) timing x
    (λ time new. refl)
turned-is topology_rule.Propagating timing x =
    timed (λ y. change_of (record y { flush = true; propagate_topology_change = false })
    ≡ turned topology_rule.Propagating (change_of x)) timing x (λ time new. refl)
turned-is _ timing x = refl

-- the number of pending changes
abbrev pub held : Change → ℕ
held c =
    if_so 1 (is_learning c.state) + if_so 1 c.flush
    + if_so 1 (not (is_inactive c.state) && (c.changed || c.noticed))
    + if_so 1 (not (is_inactive c.state) && c.acknowledged)

-- the firings of these rules and the pending changes after them
abbrev pub turns : List Rule → Change → ℕ
turns [] c = held c
turns (rules.Topology rule ∷ rest) c =
    if asked rule c then suc (turns rest (turned rule c)) else turns rest c
turns (_ ∷ rest) c = turns rest c

abbrev few : Change → Bool
few c = not (nat_lt (held c + 2) (turns (drop 44 main_order) c))

-- an inactive port, for all values that a rule reads there
inactive : (learning tell changed noticed acknowledged : Bool)
    → On (every 5 (λ tree learn forward edge flush.
    few (changes topology.Inactive tree learn forward learning edge tell changed noticed acknowledged flush)))
inactive learning tell changed noticed acknowledged = refl

-- an active port
active : (learn forward learning : Bool)
    → On (every 7 (λ tree edge tell changed noticed acknowledged flush.
    few (changes topology.Active tree learn forward learning edge tell changed noticed acknowledged flush)))
active learn forward learning = refl

-- a port of the state Learning
abbrev waits : Bools 3 Bool
waits tree forward edge =
    every 7 (λ learn learning tell changed noticed acknowledged flush.
    few (changes topology.Learning tree learn forward learning edge tell changed noticed acknowledged flush))

waits_out : (forward edge : Bool) → On (waits false forward edge)
waits_out forward edge = refl

waits_dark : (edge : Bool) → On (waits true false edge)
waits_dark edge = refl

waits_edge : On (waits true true true)
waits_edge = refl

waits_detected : On (waits true true false)
waits_detected = refl

waits_all : (tree forward edge : Bool) → On (waits tree forward edge)
waits_all false forward edge = waits_out forward edge
waits_all true false edge = waits_dark edge
waits_all true true true = waits_edge
waits_all true true false = waits_detected

few_at : (s : Topology) (a b c d e f g h i j : Bool) → On (few (changes s a b c d e f g h i j))
few_at topology.Inactive a b c d e f g h i j =
    holds 5 (λ tree learn forward edge flush.
    few (changes topology.Inactive tree learn forward d edge f g h i flush)) (inactive d f g h i) a b c e j
few_at topology.Active a b c d e f g h i j =
    holds 7 (λ tree edge tell changed noticed acknowledged flush.
    few (changes topology.Active tree b c d edge tell changed noticed acknowledged flush)) (active b c d) a e f g h i j
few_at topology.Learning a b c d e f g h i j =
    holds 7 (λ learn learning tell changed noticed acknowledged flush.
    few (changes topology.Learning a learn c learning e tell changed noticed acknowledged flush)) (waits_all a c e) b d
    f g h i j

pub few-turns : (c : Change) → turns (drop 44 main_order) c ≤ held c + 2
few-turns c =
    ltb-false (held c + 2) (turns (drop 44 main_order) c) (not-true _
    (few_at c.state c.tree c.learn c.forward c.learning c.edge c.tell c.changed c.noticed c.acknowledged c.flush))

-- the steps that are left in protocol migration
abbrev pub moving : Migration → Bool → Bool → ℕ
moving migration.Checking true heard = 0
moving migration.Checking false heard = 2
moving migration.Selecting waits heard = 2
moving migration.Sensing waits true = 3
moving migration.Sensing waits false = 1

-- a port may still propose; at a port that is down, Discard follows
abbrev pub offers : Bool → Bool → ℕ
offers true enabled = 0
offers false true = 1
offers false false = 2

abbrev pub mail : Number
mail x = if_so 20 x.received_bpdu + if_so 10 x.received_message

abbrev pub turn : Number
turn x = if_so 4 (has_to_turn x.enabled (is_out x.information))

abbrev pub inputs : Number
inputs x =
    offers x.proposing x.enabled + if_so 1 x.disputed + if_so 1 (not (x.edge_delay_while == 3) && not x.enabled)
    + if_so 2 (may_turn_edge (x.enabled || x.admin_edge) x.oper_edge)
    + moving x.migration (x.migration_delay_while == 3) x.received_stp
    + if_so 1 (is_none x.slot && x.enabled) + if_so 1 (x.hello_when == 0)
    + if_so 1 (is_received x.info_is && not (is_out x.information)) + turn x + mail x

-- the number of topology changes that are pending at a port
abbrev pub wait : Number
wait x = held (change_of x)

abbrev pub owed : Number
owed x = wait x + inputs x

-- the rule lowers the number
abbrev Falls : PortState → Effect → Type 0
Falls x does = owed (does x) < owed x

-- ---- migration

pub moving-few : (s : Migration) (waits heard : Bool) → moving s waits heard ≤ 3
moving-few s waits heard = grind arith

pub moving-unheard : (s : Migration) (waits heard : Bool) → moving s waits false ≤ moving s waits heard
moving-unheard s waits heard = grind arith

-- each rule of migration lowers the steps
pub moves-on : (rule : MigrationRule) (x : PortState) → On (migration_asks rule x)
    → moving (migration_does rule x).migration ((migration_does rule x).migration_delay_while == 3)
    (migration_does rule x).received_stp
    < moving x.migration (x.migration_delay_while == 3) x.received_stp
moves-on migration_rule.Recheck x h = grind arith
moves-on migration_rule.Checked x h =
    let over = (parts (parts h).0).1 in
    let a = of_port.zero_waits x.migration_delay_while over in
    grind (arith, a)
moves-on rule x h = grind arith

pub migration-falls : (rule : MigrationRule) (x : PortState) → On (migration_asks rule x)
    → Falls x (migration_does rule)
migration-falls migration_rule.Recheck x h = omega (arith, moves-on migration_rule.Recheck x h)
migration-falls rule x h = omega (arith, moves-on rule x h)

-- ---- receive

pub discard-falls : (x : PortState) → On (receiving.discard_guard x) → Falls x receiving.discard_effect
discard-falls x h =
    omega (
      arith,
      of_port.discards 20 x.received_bpdu (x.edge_delay_while == 3) x.enabled (omega arith) h,
      moving-unheard,
    )

pub receive-falls : (x : PortState) → On (receiving.receive_guard x) → Falls x receiving.receive_effect
receive-falls x h =
    let (first, free) = parts h in
    omega (arith, if_so-on 20 x.received_bpdu (parts first).0, moving-few, if_so-le)

-- Edge, unless Discard is enabled: what Edge may raise then
abbrev pub unrested : Number
unrested x = if_so 3 (receiving.discard_guard x)

pub edge-falls : (x : PortState) → On (detection.edge_guard x) → owed (detection.edge_effect x) < owed x + unrested x
edge-falls x h = elim (cases_Bool (receiving.discard_guard x)) [
  | inl is ↦ omega (arith, if_so-on 3 (receiving.discard_guard x) is, if_so-le)
  | inr is ↦ (let a = of_port.edge_turns 2 x.oper_edge x.enabled x.admin_edge (detection.finds_no_bridge x) h
      (of_port.finds_none x is) in
      omega (arith, a.0, a.1, if_so-off 3 (receiving.discard_guard x) is))
]

pub not_edge-falls : (x : PortState) → On (detection.not_edge_guard x) → Falls x detection.not_edge_effect
not_edge-falls x h =
    let a = of_port.not_edge_turns 2 x.oper_edge x.enabled x.admin_edge h in omega (arith, a.0, a.1)

-- ---- information

offers-few : (p e : Bool) → offers p e ≤ 2
offers-few p e = grind arith

turns_down : (e o : Bool) → On (not e && not o) → if_so 4 (has_to_turn e o) ≡ 4
turns_down e o h = grind arith

turned_down : (e o : Bool) → On (not e && not o) → if_so 4 (has_to_turn e true) ≡ 0
turned_down e o h = grind arith

turns_up : (e o : Bool) → On (o && e) → (if_so 4 (has_to_turn e o) ≡ 4) × (if_so 4 (has_to_turn e false) ≡ 0)
turns_up e o h = grind arith

same_turn : (e : Bool) (i : Information) → Off (is_out i) → has_to_turn e (is_out i) ≡ has_to_turn e false
same_turn e i h = ap (has_to_turn e) h

aged_one : (r o : Bool) → On r → Off o → if_so 1 (r && not o) ≡ 1
aged_one r o h k = grind arith

waits_on : (x : PortState) → On (info.may_take x) → if_so 10 x.received_message ≡ 10
waits_on x h = if_so-on 10 x.received_message (parts (parts h).0).1

pub informs-fall : (rule : InformationRule) (x : PortState) → Off (is_update rule) → On (information_asks rule x)
    → Falls x (information_does rule)
informs-fall information_rule.Update x n h = no (sym n)
informs-fall information_rule.Disabled x n h =
    omega (
      arith,
      turns_down x.enabled (is_out x.information) h,
      turned_down x.enabled (is_out x.information) h,
      offers-few,
    )
informs-fall information_rule.Drop x n h =
    omega (arith, if_so-on 10 x.received_message (parts h).1)
informs-fall information_rule.Enabled x n h =
    let a = turns_up x.enabled (is_out x.information) h in
    omega (arith, a.0, a.1)
informs-fall information_rule.Aged x n h =
    let current = (parts (parts (parts (parts h).0).0).0).0 in
    let received = (parts (parts (parts (parts h).0).0).0).1 in
    omega (
      arith,
      aged_one (is_received x.info_is) (is_out x.information) received (ages x.information current),
      ap (if_so 4) (same_turn x.enabled x.information (ages x.information current)),
    )
informs-fall information_rule.Superior x n h =
    informed (λ y. owed (info.handled (info.with_info_time y)) < owed x) x.message
    (info.with_superior_flags (info.with_change_flags (info.with_proposal x)))
    (λ vector times. omega (arith, waits_on x (parts h).0, offers-few, if_so-le))
informs-fall information_rule.Repeated x n h = omega (arith, waits_on x (parts h).0, if_so-le)
informs-fall information_rule.Inferior x n h =
    let a = waits_on x (parts h).0 in
    if-is (λ y. owed y < owed x) (info.rst_has 0x10 x.message) _ _ (omega (arith, a)) (omega (arith, a))
informs-fall information_rule.NotDesignated x n h =
    let a = waits_on x (parts h).0 in
    if-is (λ y. owed (info.handled (info.with_change_flags y)) < owed x)
    (x.point_to_point && info.message_has 0x40 x.message) _ _ (omega (arith, a, offers-few, if_so-le))
    (omega (arith, a, if_so-le))
informs-fall information_rule.Other x n h = omega (arith, waits_on x (parts h).0, if_so-le)

-- Update, at a port that is up
pub update-costs : (x : PortState) → Off (has_to_turn x.enabled (is_out x.information))
    → On (info.update_guard x) → owed (info.update_effect x) ≤ owed x + 1
update-costs x h g =
    let off = not-true _ (parts (parts g).0).0 in
    let up = turned x.enabled (is_out x.information) h off in
    let b : offers false x.enabled ≡ 1 = ap (offers false) up in
    omega (arith, ap (if_so 4) (same_turn x.enabled x.information off), b)
  where
    turned : (e o : Bool) → Off (has_to_turn e o) → Off o → On e
    turned e o h k = grind arith

-- ---- transmission

pub periodic-falls : (timing : Timing) (x : PortState) → 1 ≤ timing.hello → On (sends.periodic_guard x)
    → Falls x (sends.periodic_effect timing)
periodic-falls timing x some h =
    omega (
      arith,
      if_so-on 1 (x.hello_when == 0) (parts h).1,
      if_so-off 1 (timing.hello == 0)
          (not_zero timing.hello some),
    )

both_on : (a b : Bool) → On a → On b → if_so 1 (a && b) ≡ 1
both_on a b h k = grind arith

pub sending-falls : (timing : Timing) (message : Bpdu) (x : PortState) → 1 ≤ timing.hello
    → On (sends.is_ready timing x) → Falls x (sends.sending timing message)
sending-falls timing message x some h =
    let (first, known) = parts h in
    let (second, up) = parts first in
    omega (
      arith,
      both_on (is_none x.slot) x.enabled (parts second).1 up,
      if_so-off 1 (timing.hello == 0)
          (not_zero timing.hello some),
    )

-- ---- its bound

pub inputs-few : (x : PortState) → turn x ≡ 0 → mail x ≡ 0 → inputs x ≤ 10
inputs-few x none empty = elim (cases_Bool x.enabled) [
  | inl up ↦ (omega (
    arith,
    none,
    empty,
    offers_up x.proposing x.enabled up,
    edge_up (not (x.edge_delay_while == 3))
        x.enabled up,
    moving-few,
    if_so-le,
  ))
  | inr down ↦ (omega (
    arith,
    none,
    empty,
    sends_down (is_none x.slot) x.enabled down,
    ages_down x.enabled
        (is_out x.information) (is_received x.info_is) down none,
    offers-few,
    moving-few,
    if_so-le,
  ))
]
  where
    offers_up : (p e : Bool) → On e → offers p e ≤ 1
    offers_up p e h = grind arith

    edge_up : (d e : Bool) → On e → if_so 1 (d && not e) ≡ 0
    edge_up d e h = grind arith

    sends_down : (d e : Bool) → Off e → if_so 1 (d && e) ≡ 0
    sends_down d e h = grind arith

    ages_down : (e o r : Bool) → Off e → if_so 4 (has_to_turn e o) ≡ 0 → if_so 1 (r && not o) ≡ 0
    ages_down e o r down h = grind arith

pub inputs-most : (x : PortState) → inputs x ≤ 46
inputs-most x = omega (arith, offers-few, moving-few, if_so-le)
