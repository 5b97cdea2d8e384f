-- The facts of each port after five passes. From then on only the root port tells others of a change.
-- The rest of an event, after five passes: each firing lowers a number of the ports.
use Rattle.rstp_run.proofs.Basics.{clash, Fact, Off, On, parts, timed}
use Rattle.rstp_run.proofs.Caps.{left_due}
use Rattle.rstp_run.proofs.Costs.{same_timing, sum}
use Rattle.rstp_run.proofs.Each.{AtAll}
use Rattle.rstp_run.proofs.Falls.{IsAfterDiscard}
use Rattle.rstp_run.proofs.Fixed.{enabled, fits, fixed-fits, fixed-goes, IsFixed, in_tree, spread-fixed}
use Rattle.rstp_run.proofs.Flags.{bits_of, core2, discarded, discards, FlagTest, forwards, if_on, Kept, learns, learnt}
use Rattle.rstp_run.proofs.Flags.{on_four, on_three, passing, pick, shut, stays_shut, syncs}
use Rattle.rstp_run.proofs.Gates.{active_shut, edge_shut, IsNoted, not_active, out_or_edge, Tested}
use Rattle.rstp_run.proofs.Kept.{OneRoot, or_true}
use Rattle.rstp_run.proofs.Loads.{load}
use Rattle.rstp_run.proofs.Measure.{raise}
use Rattle.rstp_run.proofs.Names.{[], after, ap, arith, asks, Bool, false, forward_delay, guard, has_role, inl, inr}
use Rattle.rstp_run.proofs.Names.{is_active, is_designated, is_disabled, is_discarding, is_inactive, is_learning}
use Rattle.rstp_run.proofs.Names.{is_root, is_select, List, length, MigrationRule, migration_does, no, not, not-true}
use Rattle.rstp_run.proofs.Names.{or_left, or_right, PortState, ports_after, Role, RoleRule, Rule, refl, Some}
use Rattle.rstp_run.proofs.Names.{StateRule, same_role, slice_get, state_does, sym, Timing, Topology, TopologyRule}
use Rattle.rstp_run.proofs.Names.{Tree, timing_in, true, ℕ, ◌&&◌, ◌*◌, ◌+◌, ◌<◌, ◌==◌, ◌||◌, ◌∷◌, ◌≡◌, ◌≤◌, ◌⊎◌}
use Rattle.rstp_run.proofs.Own.{after-at, Nothing, own, own_role, Spread, spread_by, spread_of, Tells, total-after}
use Rattle.rstp_run.proofs.RoleKinds.{as-designated, as-root, kind, of-designated, role-kind, rule_kind}
use Rattle.rstp_run.proofs.Shares.{total-shares, total-spare}
use Rattle.rstp_run.proofs.Steady.{steady-informs}
use Rattle.rstp_run.proofs.Totals.{if_so, tested_at, total}
use Rattle.rstp_run.proofs.Dues as dues
use Rattle.rstp_run.proofs.Inputs as inputs
use Rattle.rstp_run.proofs.Loads as loads
use Rattle.rstp_run.proofs.Names.bpdus
use Rattle.rstp_run.proofs.Names.change
use Rattle.rstp_run.proofs.Names.detection_rule
use Rattle.rstp_run.proofs.Names.migration_rule
use Rattle.rstp_run.proofs.Names.receive_rule
use Rattle.rstp_run.proofs.Names.role_rule
use Rattle.rstp_run.proofs.Names.roles
use Rattle.rstp_run.proofs.Names.rules
use Rattle.rstp_run.proofs.Names.state_rule
use Rattle.rstp_run.proofs.Names.topology
use Rattle.rstp_run.proofs.Names.topology_rule
use Rattle.rstp_run.proofs.Names.transmit_rule
use Rattle.rstp_run.proofs.Visits as levels

-- ---- the facts of a port

abbrev pub IsLate : Fact
IsLate x = IsFixed x × Tested (shut core2) x × IsNoted x

spread_late : (k : Spread) (x : PortState) → On (fits k) → IsLate x → IsLate (spread_by k x)
spread_late Nothing x f h = h
spread_late Tells x f h = (spread-fixed Tells x h.0, h.1, h.2)
spread_late _ x f h = no f

-- the facts that a rule keeps besides
abbrev Keeps : Fact
Keeps x = Tested (shut core2) x × IsNoted x

learn_shut : (e f l c i a z : Bool) → On (i && l && z) → (On i → Off a)
    → On (e || a || ((not f || (not l && i)) && c)) → On (e || false || ((not f || (not l && false)) && c))
learn_shut e f l c i a z h k w = grind arith

noted_there : (t : Topology) (q : Bool) → On (is_learning t) → On (is_inactive t || q) → On q
noted_there t q h k = grind arith

module _ (s : Tree) (p : ℕ) (x : PortState) (h : IsLate x) where
  abbrev t : FlagTest
  t = shut core2 (is_inactive x.topology) (is_active x.topology)

  still : kind x.selected_role ≡ 2 → Kept (is_discarding x) t (bits_of x)
  still e = stays_shut x.topology (is_discarding x) (bits_of x) (h.1 e)

  role_keeps : (rule : RoleRule) → On (asks (rules.Role rule) s p x) → kind x.selected_role ≡ rule_kind rule
      → Keeps (own (rules.Role rule) (timing_in s) x)
  role_keeps role_rule.Designated g k = (h.1, h.2)
  role_keeps role_rule.Propose g k = (h.1, h.2)
  role_keeps role_rule.Synced g k = (
    λ e. if_on (syncs (is_discarding x) (bits_of x)) _ _ (parts g).1
        (still e).1,
    h.2,
  )
  role_keeps role_rule.Retired g k = (
    λ e. if_on (x.recent_root_while == 0 && x.re_root) _ _
        (on_three (roles.acts_as_designated x) (x.recent_root_while == 0) x.re_root g)
        (still e).2,
    h.2,
  )
  role_keeps role_rule.DesignatedDiscard g k = (
    λ e. pick t (λ w. discarded w (bits_of x)) (forward_delay (timing_in s) x == 0)
        (if_on (discards (bits_of x)) _ _ (on_four (roles.acts_as_designated x) (not x.oper_edge)
        (x.learn || x.forward) (roles.must_discard x) g)
        (still e).3),
    h.2,
  )
  role_keeps role_rule.DesignatedLearn g k = (
    λ e. pick t (λ w. learnt w (bits_of x)) (forward_delay (timing_in s) x == 0)
        (if_on (learns (bits_of x)) _ _ (on_three (roles.acts_as_designated x) (not x.learn) (roles.may_go_on x) g)
        (still e).4),
    h.2,
  )
  role_keeps role_rule.DesignatedForward g k = (
    λ e. pick t (λ w. passing w (bits_of x)) x.send_rstp
        (if_on (forwards (bits_of x)) _ _ (on_four (roles.acts_as_designated x) x.learn (not x.forward)
        (roles.may_go_on x) g) (still e).5),
    h.2,
  )
  role_keeps _ g k = (λ e. absurd (omega arith), h.2)

  topology_keeps : (rule : TopologyRule) → On (asks (rules.Topology rule) s p x)
      → Keeps (own (rules.Topology rule) (timing_in s) x)
  topology_keeps topology_rule.TcLearning g = (
    λ e. learn_shut x.oper_edge x.forward x.learn (core2 (bits_of x)) (is_inactive x.topology) (is_active x.topology)
        (not x.flush) g (not_active x.topology) (h.1 e),
    refl,
  )
  topology_keeps topology_rule.Detected g =
      let q = noted_there x.topology _ (parts (parts (parts g).0).0).0 h.2 in
      timed (λ z. Keeps (record z { new_info = true })) (timing_in s) (record x { topology = topology.Active })
      (λ time new. (λ e. active_shut x.oper_edge _, q))
  topology_keeps topology_rule.TcInactive g = (
    λ e. clash (ap not (in_tree x h.0 e)) (parts (parts (parts (parts g).0).0).0).1,
    refl,
  )
  topology_keeps topology_rule.TcBack g = (
    λ e. edge_shut x.oper_edge false _ (out_or_edge (is_active x.topology) (change.is_in_tree x) x.oper_edge g
        (in_tree x h.0 e)),
    refl,
  )
  topology_keeps topology_rule.NotifiedTcn g =
      timed (λ z. Keeps (change.notified_at z)) (timing_in s) x (λ time new. (h.1, or_true (is_inactive x.topology)))
  topology_keeps topology_rule.Propagating g =
      timed (λ z. Keeps (record z { flush = true; propagate_topology_change = false })) (timing_in s) x
      (λ time new. (h.1, h.2))
  topology_keeps topology_rule.Acknowledged g = (h.1, h.2)
  topology_keeps topology_rule.Flush g = (h.1, h.2)
  topology_keeps _ g = (h.1, or_true (is_inactive x.topology))

  keeps : (rule : Rule) → Off (is_select rule) → On (asks rule s p x) → Keeps (own rule (timing_in s) x)
  keeps rules.Select n g = no (sym n)
  keeps (rules.Receive receive_rule.Discard) n g = (h.1, h.2)
  keeps (rules.Receive receive_rule.Receive) n g = absurd (levels.receive-off x h.0.0.0.0.0 g)
  keeps (rules.Migration migration_rule.Recheck) n g = (h.1, h.2)
  keeps (rules.Migration _) n g = (h.1, h.2)
  keeps (rules.Detection detection_rule.Edge) n g =
      (λ e. (parts (still e).0).1, h.2)
  keeps (rules.Detection detection_rule.NotEdge) n g = (
    λ e. clash (ap not (enabled x h.0.0 e)) (parts (parts g).0).1,
    h.2,
  )
  keeps (rules.Information rule) n g = absurd (steady-informs rule x h.0.0 g)
  keeps (rules.Role rule) n g = role_keeps rule g (role-kind rule s p x g)
  keeps (rules.State state_rule.ToLearning) n g = (h.1, h.2)
  keeps (rules.State _) n g = (h.1, h.2)
  keeps (rules.Topology rule) n g = topology_keeps rule g
  keeps (rules.Transmit transmit_rule.Periodic) n g = (h.1, h.2)
  keeps (rules.Transmit _) n g = (h.1, h.2)

pub late-after : (rule : Rule) (s : Tree) (p : ℕ) → Off (is_select rule) → On (guard rule s p)
    → AtAll (λ q. IsLate) s.ports → AtAll (λ q. IsLate) (ports_after rule s p)
late-after rule s p other on all =
    let port = tested_at (asks rule s p) s.ports p on in
    let fit = fixed-fits rule s p port.0 port.2 (all p port.0 port.1).0 in
    after-at (λ q. IsLate) (λ q. IsLate) rule s p other on (λ q x apart. spread_late (spread_of rule) x fit)
    (λ x g h. (let k = keeps s p x h rule other g in (fixed-goes rule s p x other g h.0, k.0, k.1))) all

-- ---- only the root port tells

shut_off : (t : Topology) (e f l c inside : Bool)
    → On (e || is_active t || ((not f || (not l && is_inactive t)) && c))
    → On (is_learning t && inside && f && not e) → ⊥
shut_off t e f l c inside h k = grind arith

module _ (t : Topology) (a b : Bool) where
  notes : On (is_inactive t || (not a && not b)) → On (is_active t && a) → ⊥
  notes h k = grind arith

  notes_too : On (is_inactive t || (not a && not b)) → On (is_active t && b) → ⊥
  notes_too h k = grind arith

either_kind : (r s : Role) → On (same_role r s) → On (is_root r || is_designated r)
    → (On (is_root s)) ⊎ (On (is_designated s))
either_kind r s same h = grind arith

root_tells : (s : Tree) (p : ℕ) (x : PortState) → IsLate x → On (change.detected_guard x)
    → On (is_root x.selected_role)
root_tells s p x h g =
    elim (either_kind x.role x.selected_role h.0.1.0 (parts (parts (parts g).0).0).1) [
      | inl root ↦ root
      | inr other ↦ absurd (shut_off x.topology x.oper_edge x.forward x.learn (core2 (bits_of x))
          (change.is_in_tree x) (h.1 (of-designated x.selected_role other)) g)
    ]

tree_of : (r s : Role) → On (same_role r s) → Off (is_root r || is_designated r)
    → Off (is_root s) × Off (is_designated s)
tree_of r s same none = grind arith

outside : (r s : Role) (e : Bool) → On (same_role r s) → On (not (is_root r || is_designated r) || e)
    → On ((not (is_root s) && not (is_designated s)) || e)
outside r s e same h = grind arith

module _ (n : ℕ) (s : Tree) (p : ℕ) (x : PortState) (at : slice_get s.ports p ≡ Some x) (late : IsLate x) where
  -- the rule lowers the number of its port, more than it may raise that of all other ports
  abbrev Falls : Rule → Type 0
  Falls rule =
      load n (timing_in s) (own rule (timing_in s) x) + n * raise n (spread_of rule) + 1
      ≤ load n (timing_in s) x + raise n (spread_of rule)

  -- a rule of roles that doesn't bear on topology change
  by : (rule : RoleRule) → On (asks (rules.Role rule) s p x)
      → loads.of_changes n (own_role rule (timing_in s) x) ≡ loads.of_changes n x
      → load n (timing_in s) (own_role rule (timing_in s) x) < load n (timing_in s) x
  by rule g same = omega (arith, dues.role-falls s p x rule late.0 g)

  -- `learn` doesn't bear on topology change at the root port, and at a designated port
  in_order : (r : Role) → kind r ≡ 1 → On (is_root r || is_designated r)
  in_order r k = or_left (is_root r) (is_designated r) (as-root r k)

  in_order_too : (r : Role) → kind r ≡ 2 → On (is_root r || is_designated r)
  in_order_too r k = or_right (is_root r) (is_designated r) (as-designated r k)

  role_falls : (rule : RoleRule) → On (asks (rules.Role rule) s p x) → kind x.selected_role ≡ rule_kind rule
      → On (fits (spread_of (rules.Role rule))) → Falls (rules.Role rule)
  role_falls role_rule.Disable g k f = absurd (dues.taken-yet is_disabled x.role x.selected_role late.0.1.0 _ g)
  role_falls role_rule.RootLearn g k f =
      let c = loads.turns-same x true (in_order x.selected_role k) in
      omega (arith, by role_rule.RootLearn g (omega arith))
  role_falls role_rule.DesignatedDiscard g k f =
      let c = loads.turns-same x false (in_order_too x.selected_role k) in
      omega (arith, by role_rule.DesignatedDiscard g (omega arith))
  role_falls role_rule.DesignatedLearn g k f =
      let c = loads.turns-same x true (in_order_too x.selected_role k) in
      omega (arith, by role_rule.DesignatedLearn g (omega arith))
  role_falls role_rule.Block g k f = clash (not-true (has_role x) (parts g).1) late.0.1.0
  role_falls role_rule.RootProposed g k f = no f
  role_falls role_rule.Reroot g k f = no f
  role_falls role_rule.AlternateProposed g k f = no f
  role_falls rule g k f = omega (arith, by rule g refl)

  topology_falls : (rule : TopologyRule) → On (asks (rules.Topology rule) s p x) → Falls (rules.Topology rule)
  topology_falls topology_rule.Detected g =
      omega (arith, loads.detected-falls n (timing_in s) x (root_tells s p x late g) g)
  topology_falls topology_rule.TcClear g = omega (arith, loads.tc_clear-falls n (timing_in s) x late.2 g)
  topology_falls topology_rule.TcInactive g =
      omega (
        arith,
        loads.tc_inactive-falls n (timing_in s) x (tree_of x.role x.selected_role late.0.1.0
            (not-true (change.is_in_tree x) (parts (parts (parts (parts g).0).0).0).1)) g,
      )
  topology_falls topology_rule.TcBack g =
      omega (
        arith,
        loads.tc_back-falls n (timing_in s) x
            (outside x.role x.selected_role x.oper_edge late.0.1.0 (parts g).1) g,
      )
  topology_falls topology_rule.NotifiedTcn g =
      absurd (notes_too x.topology x.received_topology_change x.received_notification late.2 g)
  topology_falls topology_rule.NotifiedTc g =
      absurd (notes x.topology x.received_topology_change x.received_notification late.2 g)
  topology_falls topology_rule.TcLearning g = omega (arith, loads.tc_learning-falls n (timing_in s) x g)
  topology_falls topology_rule.Propagating g = omega (arith, loads.propagating-falls n (timing_in s) x g)
  topology_falls topology_rule.Acknowledged g = omega (arith, loads.acknowledged-falls n (timing_in s) x g)
  topology_falls topology_rule.Flush g = omega (arith, loads.flush-falls n (timing_in s) x g)

  migration_keeps : (rule : MigrationRule) → (inputs.wait (migration_does rule x) ≡ inputs.wait x)
      × (loads.of_changes n (migration_does rule x) ≡ loads.of_changes n x)
  migration_keeps migration_rule.Recheck = (refl, refl)
  migration_keeps _ = (refl, refl)

  state_keeps : (rule : StateRule) → (inputs.inputs (state_does rule x) ≡ inputs.inputs x)
      × (loads.of_changes n (state_does rule x) ≡ loads.of_changes n x)
  state_keeps state_rule.ToLearning = (refl, refl)
  state_keeps _ = (refl, refl)

  falls : (rule : Rule) → Off (is_select rule) → 1 ≤ s.settings.hello
      → IsAfterDiscard rule s p → On (asks rule s p x) → Falls rule
  falls rules.Select other some rest g = no (sym other)
  falls (rules.Receive receive_rule.Discard) other some rest g =
      omega (arith, inputs.discard-falls x g, dues.discard-keeps (timing_in s) x)
  falls (rules.Receive receive_rule.Receive) other some rest g = absurd (levels.receive-off x late.0.0.0.0.0 g)
  falls (rules.Migration rule) other some rest g =
      let keeps = migration_keeps rule in
      omega (arith, inputs.migration-falls rule x g, dues.migration-keeps (timing_in s) x rule g, keeps.0, keeps.1)
  falls (rules.Detection detection_rule.Edge) other some rest g =
      omega (arith, loads.edge-falls n (timing_in s) x (rw at at rest) g)
  falls (rules.Detection detection_rule.NotEdge) other some rest g =
      omega (arith, loads.not_edge-falls n (timing_in s) x g)
  falls (rules.Information rule) other some rest g = absurd (steady-informs rule x late.0.0 g)
  falls (rules.Role rule) other some rest g =
      role_falls rule g (role-kind rule s p x g) (fixed-fits (rules.Role rule) s p x g late.0)
  falls (rules.State rule) other some rest g =
      let keeps = state_keeps rule in
      omega (arith, dues.state-falls (timing_in s) rule x g, keeps.0, keeps.1)
  falls (rules.Topology rule) other some rest g = topology_falls rule g
  falls (rules.Transmit transmit_rule.Periodic) other some rest g =
      omega (arith, inputs.periodic-falls (timing_in s) x some g)
  falls (rules.Transmit transmit_rule.SendConfig) other some rest g =
      omega (arith, inputs.sending-falls (timing_in s) bpdus.Tcn x some (parts (parts g).0).0)
  falls (rules.Transmit transmit_rule.SendTcn) other some rest g =
      omega (arith, inputs.sending-falls (timing_in s) bpdus.Tcn x some (parts (parts g).0).0)
  falls (rules.Transmit transmit_rule.SendRst) other some rest g =
      omega (arith, inputs.sending-falls (timing_in s) bpdus.Tcn x some (parts g).0)

abbrev pub remains : ℕ → Tree → ℕ
remains n s = total (load n (timing_in s)) s.ports

spread_load : (n : ℕ) (timing : Timing) (k : Spread) (x : PortState) → On (fits k)
    → load n timing (spread_by k x) ≤ load n timing x + raise n k
spread_load n timing Nothing x f = omega arith
spread_load n timing Tells x f = omega arith
spread_load n timing _ x f = no f

pub late-falls : (n : ℕ) (rule : Rule) (s : Tree) (p : ℕ) → Off (is_select rule) → 1 ≤ s.settings.hello
    → length s.ports ≡ n → AtAll (λ q. IsLate) s.ports → IsAfterDiscard rule s p → On (guard rule s p)
    → remains n (after rule s p) < remains n s
late-falls n rule s p other some many all rest on =
    let (x, at, asked) = tested_at (asks rule s p) s.ports p on in
    let fit = fixed-fits rule s p x asked (all p x at).0 in
    let whole = rw many at (total-after (load n (timing_in s)) (raise n (spread_of rule)) rule s p x other on at
    (λ y. spread_load n (timing_in s) (spread_of rule) y fit)) in
    rw (same_timing rule s p other)
    (omega (arith, whole, falls n s p x at (all p x at) rule other some rest asked))

total_bound : (n : ℕ) (timing : Timing) (ports : List PortState)
    → total (load n timing) ports
    ≤ total (left_due timing) ports + total (λ x. 5 + if_so (2 * n + 2) (is_root x.selected_role)) ports
total_bound n timing [] = omega arith
total_bound n timing (x ∷ xs) = omega (arith, loads.changes-few n x, total_bound n timing xs)

-- the firings that are left after passes in which each port has its role
pub late-bound : (n : ℕ) (s : Tree) (f : ℕ → ℕ) → length s.ports ≡ n → OneRoot s.ports
    → AtAll (λ q x. left_due (timing_in s) x ≤ f q) s.ports → remains n s ≤ sum n f + 7 * n + 2
late-bound n s f many one all =
    let d : length s.ports * 5 ≡ n * 5 = ap (λ k. k * 5) many in
    omega (
      arith,
      total-spare 5 (2 * n + 2) s.ports one,
      total-shares (left_due (timing_in s)) n f s.ports many all,
      total_bound n (timing_in s) s.ports,
    )
