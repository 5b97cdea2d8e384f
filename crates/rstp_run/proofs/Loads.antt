-- The work of a port after five passes of an event, as a number that each firing at the port lowers.
use Rattle.rstp_run.proofs.Basics.{Bools, Effect, Number, Off, On, parts, timed}
use Rattle.rstp_run.proofs.Dues.{late}
use Rattle.rstp_run.proofs.Inputs.{inputs, wait}
use Rattle.rstp_run.proofs.Measure.{may_turn_edge}
use Rattle.rstp_run.proofs.Names.{arith, Bool, false, if◌then◌else◌, is_active, is_designated, is_inactive, is_learning}
use Rattle.rstp_run.proofs.Names.{is_root, no, not, not-true, PortState, refl, Timing, Topology, true, ℕ, ◌&&◌, ◌*◌}
use Rattle.rstp_run.proofs.Names.{◌+◌, ◌<◌, ◌||◌, ◌≡◌, ◌≤◌}
use Rattle.rstp_run.proofs.Totals.{if_so, if_so-le, if_so-off, if_so-on}
use Rattle.rstp_run.proofs.LowersPorts as of_port
use Rattle.rstp_run.proofs.Names.change
use Rattle.rstp_run.proofs.Names.detection
use Rattle.rstp_run.proofs.Names.receiving
use Rattle.rstp_run.proofs.Names.topology

-- The work of topology change of the root port, of a designated port, and of any other port, by the state of its
-- machine.
abbrev turning : Bools 6 ℕ
turning root designated inactive learning edge learn =
    if root then (if inactive then 3 else (if learning then 2 else (if edge then 3 else 0)))
    else (if designated then (if inactive then 1 else (if learning then 0 else (if edge then 1 else 0)))
    else (if inactive then (if learn then 3 else 0) else (if learning then 2 else 3)))

-- Only the root port still tells other ports of a change, and an edge only if it may cease to be one.
abbrev tells : Bools 5 Bool
tells root inactive learning edge up = root && (if edge then not up else inactive || learning)

abbrev up : PortState → Bool
up x = x.enabled || x.admin_edge

abbrev pub of_changes : ℕ → Number
of_changes n x =
    if_so 1 x.flush + if_so 2 x.propagate_topology_change
    + if_so 1 (not (is_inactive x.topology) && x.received_acknowledgement)
    + turning (is_root x.selected_role) (is_designated x.selected_role) (is_inactive x.topology)
    (is_learning x.topology) x.oper_edge x.learn
    + if_so (2 * n) (tells (is_root x.selected_role) (is_inactive x.topology) (is_learning x.topology) x.oper_edge
    (up x))
    + if_so 2 (is_root x.selected_role && may_turn_edge (up x) x.oper_edge)

abbrev pub load : ℕ → Timing → Number
load n timing x = of_changes n x + (inputs x + late timing x)

if_so-to : (k : ℕ) (a b : Bool) → (On a → On b) → if_so k a ≤ if_so k b
if_so-to k false b h = omega (arith, if_so-le k b)
if_so-to k true true h = omega arith
if_so-to k true false h = no (h refl)

-- the root port: turning doesn't depend on `learn`
turning_root : (r d i m e l k : Bool) → On (r || d) → turning r d i m e l ≡ turning r d i m e k
turning_root r d i m e l k h = grind arith

pub turns-same : (x : PortState) (l : Bool) → On (is_root x.selected_role || is_designated x.selected_role)
    → turning (is_root x.selected_role) (is_designated x.selected_role) (is_inactive x.topology)
    (is_learning x.topology) x.oper_edge x.learn
    ≡ turning (is_root x.selected_role) (is_designated x.selected_role) (is_inactive x.topology)
    (is_learning x.topology) x.oper_edge l
turns-same x l h =
    turning_root _ _ (is_inactive x.topology)
    (is_learning x.topology) x.oper_edge x.learn l h

module _ (r d i m e l : Bool) where
  -- an edge costs the root port more
  edges : turning r d i m true l < turning r d i m e l + (if r then 4 else 2)
  edges = grind arith

  no_edges : On e → turning r d i m false l ≤ turning r d i m e l
  no_edges h = grind arith

  -- the rules of topology change
  turns_on : On (i && l) → turning r d false true e l < turning r d i m e l
  turns_on h = grind arith

  turns_off : Off r → Off d → On m → Off i → On (not l)
      → turning r d true false e l + 1 < turning r d i m e l
  turns_off a b f g h = grind arith

  turns_back : Off i → Off m → On ((not r && not d) || e) → turning r d false true e l < turning r d i m e l
  turns_back f g h = grind arith

  detects : On r → On m → Off i → On (not e) → turning r d false false e l + 1 < turning r d i m e l
  detects a f g h = grind arith

  turning_few : turning r d i m e l < 4
  turning_few = grind arith

pays_root : (r m : Bool) → On m → (if r then 4 else 2) ≡ 2 + if_so 2 (r && m)
pays_root r m h = grind arith

none_left : (r m : Bool) → Off m → if_so 2 (r && m) ≡ 0
none_left r m h = grind arith

tells_turn : (r i m u : Bool) → On (tells r i m true u) → On (may_turn_edge u true)
tells_turn r i m u h = grind arith

zero_on : (w : ℕ) (b : Bool) → 1 ≤ w → if_so w b ≡ 0 → Off b
zero_on w b some h = grind arith

one_on : (w : ℕ) (b : Bool) → 1 ≤ w → if_so w b ≡ w → On b
one_on w b some h = grind arith

module _ (n : ℕ) (timing : Timing) (x : PortState) where
  abbrev Falls : Effect → Type 0
  Falls does = load n timing (does x) < load n timing x

  -- the flags of the port
  abbrev r : Bool
  r = is_root x.selected_role

  abbrev d : Bool
  d = is_designated x.selected_role

  abbrev i : Bool
  i = is_inactive x.topology

  abbrev m : Bool
  m = is_learning x.topology

  abbrev told : Bool
  told = tells r i m x.oper_edge (up x)

  -- where Discard isn't enabled
  pub edge-falls : Off (receiving.discard_guard x) → On (detection.edge_guard x) → Falls detection.edge_effect
  edge-falls off h =
      let a = of_port.edge_turns 2 x.oper_edge x.enabled x.admin_edge (detection.finds_no_bridge x) h
      (of_port.finds_none x off) in
      let was = one_on 2 (may_turn_edge (up x) x.oper_edge) (omega arith) a.0 in
      let is = zero_on 2 (may_turn_edge (up x) true) (omega arith) a.1 in
      omega (
        arith,
        none_left r _ is,
        if_so-off (2 * n) (may_turn_edge (up x) true) is,
        if_so-to (2 * n) (tells r i m true (up x)) (may_turn_edge (up x) true) (tells_turn r i m (up x)),
        pays_root r _ was,
        edges r d i m x.oper_edge x.learn,
        a.0,
        a.1,
      )

  ceases : (r i m e u : Bool) → On e → Off u → On (tells r i m false u) → On (tells r i m e u)
  ceases r i m e u h k t = grind arith

  not_up : (o e a : Bool) → On (o && not e && not a) → (On o) × (Off (e || a))
  not_up o e a h = grind arith

  pub not_edge-falls : On (detection.not_edge_guard x) → Falls detection.not_edge_effect
  not_edge-falls h =
      let a = of_port.not_edge_turns 2 x.oper_edge x.enabled x.admin_edge h in
      let was = one_on 2 (may_turn_edge (up x) x.oper_edge) (omega arith) a.0 in
      let is = zero_on 2 (may_turn_edge (up x) false) (omega arith) a.1 in
      let on = not_up x.oper_edge x.enabled x.admin_edge h in
      omega (
        arith,
        if_so-to (2 * n) (tells r i m false (up x)) told (ceases r i m x.oper_edge (up x) on.0 on.1),
        none_left r _ is,
        no_edges r d i m x.oper_edge x.learn on.0,
        a.0,
        a.1,
      )

  -- ---- topology change

  learns_not : (t : Topology) → On (is_learning t) → Off (is_inactive t)
  learns_not t h = grind arith

  acts_not : (t : Topology) → On (is_active t) → (Off (is_inactive t)) × (Off (is_learning t))
  acts_not t h = grind arith

  none_of : (b : Bool) → Off (b && false)
  none_of b = grind arith

  pub flush-falls : On (change.flush_guard x) → Falls change.flush_effect
  flush-falls h = rw h (omega arith)

  pub acknowledged-falls : On (change.acknowledged_guard x) → Falls change.acknowledged_effect
  acknowledged-falls h =
      let got : On x.received_acknowledgement = (parts h).1 in
      rw ((acts_not x.topology (parts h).0).0, got) (omega arith)

  pub propagating-falls : On (change.propagating_guard x) → Falls (change.propagating_effect timing)
  propagating-falls h =
      timed (λ y. load n timing (record y { flush = true; propagate_topology_change = false }) < load n timing x) timing
      x (λ time new. omega (arith, if_so-le 1 x.flush, if_so-on 2 x.propagate_topology_change (parts (parts h).0).1))

  begins : (r i m e u : Bool) → On i → On (tells r false true e u) → On (tells r i m e u)
  begins r i m e u h t = grind arith

  pub tc_learning-falls : On (change.tc_learning_guard x) → Falls change.tc_learning_effect
  tc_learning-falls h =
      let first = (parts h).0 in
      omega (
        arith,
        if_so-to (2 * n) (tells r false true x.oper_edge (up x)) told
            (begins r i m x.oper_edge _ (parts first).0),
        turns_on r d i m x.oper_edge x.learn first,
      )

  clears : (t : Topology) (tc tcn ack tell : Bool) → On (is_learning t)
      → On (is_inactive t || (not tc && not tcn)) → On (((tc || tcn) || ack) || tell)
      → 1 ≤ if_so 2 tell + if_so 1 (not (is_inactive t) && ack)
  clears t tc tcn ack tell h k w = grind arith

  pub tc_clear-falls : On (i || (not x.received_topology_change && not x.received_notification))
      → On (change.tc_clear_guard x) → Falls change.tc_clear_effect
  tc_clear-falls noted h =
      let (first, rest) = parts h in
      omega (
        arith,
        clears x.topology x.received_topology_change x.received_notification x.received_acknowledgement
            x.propagate_topology_change (parts first).0 noted (parts first).1,
        if_so-off 1 (not i && false) (none_of (not i)),
      )

  pub tc_inactive-falls : (Off r) × (Off d)
      → On (change.tc_inactive_guard x) → Falls change.tc_inactive_effect
  tc_inactive-falls out h =
      let second = parts (parts (parts h).0).0 in
      let state : On m = (parts second.0).0 in
      omega (
        arith,
        if_so-off (2 * n) (tells r true false x.oper_edge (up x)) (rw out.0),
        turns_off r d i m x.oper_edge
            x.learn out.0 out.1 state (learns_not x.topology state) second.1,
        if_so-le 1 x.flush,
      )

  back_tells : (r i m e d u : Bool) → On ((not r && not d) || e) → On (tells r false true e u)
      → On (tells r i m e u)
  back_tells r i m e d u w t = grind arith

  pub tc_back-falls : On ((not r && not d) || x.oper_edge)
      → On (change.tc_back_guard x) → Falls change.tc_back_effect
  tc_back-falls out h =
      let off = acts_not x.topology (parts h).0 in
      omega (
        arith,
        if_so-to (2 * n) (tells r false true x.oper_edge (up x)) told
            (back_tells r i m x.oper_edge d (up x) out),
        turns_back r d i m x.oper_edge x.learn off.0 off.1 out,
      )

  -- the root port tells n other ports
  pub detected-falls : On r → On (change.detected_guard x)
      → load n timing (change.detected_at timing x) + (2 * n + 1) ≤ load n timing x
  detected-falls root h =
      let no_edge : On (not x.oper_edge) = (parts h).1 in
      let bare = not-true x.oper_edge no_edge in
      let state : On m = (parts (parts (parts h).0).0).0 in
      let e : if_so 1 (not i && x.received_acknowledgement) ≡ if_so 1 x.received_acknowledgement =
      rw (learns_not x.topology state) in
      timed (λ y. load n timing (record y { new_info = true }) + (2 * n + 1) ≤ load n timing x) timing
      (record x { topology = topology.Active })
      (λ time new. omega (
        arith,
        if_so-on (2 * n) told (rw (root, state, bare, learns_not x.topology state)),
        if_so-off
            (2 * n) (tells r false false x.oper_edge (up x)) (rw (bare, root)),
        detects r d i m x.oper_edge x.learn root state
            (learns_not x.topology state) no_edge,
      ))

-- ---- its bound

root_pays : (n : ℕ) (r a b : Bool) → if_so (2 * n) (r && a) + if_so 2 (r && b) ≤ if_so (2 * n + 2) r
root_pays n true a b =
    omega (arith, if_so-le (2 * n) a, if_so-le 2 b)
root_pays n false a b = omega arith

-- at most 5 more than the pending changes, and more at the root port
pub changes-few : (n : ℕ) (x : PortState)
    → of_changes n x ≤ wait x + 5 + if_so (2 * n + 2) (is_root x.selected_role)
changes-few n x =
    omega (
      arith,
      if_so-le 2 x.propagate_topology_change,
      turning_few (is_root x.selected_role) (is_designated x.selected_role) (is_inactive x.topology) (is_learning
          x.topology) x.oper_edge x.learn,
      root_pays n (is_root x.selected_role) (if x.oper_edge then not (up x) else is_inactive x.topology || is_learning
          x.topology) (may_turn_edge (up x) x.oper_edge),
    )
