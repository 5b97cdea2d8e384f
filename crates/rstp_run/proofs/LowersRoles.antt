-- The rules of topology change and of the states lower the measure.
-- Parts of the measure at a port with a known role.
-- The rules of the role transitions lower the measure.
use Rattle.rstp_run.proofs.Basics.{Off, On, parts, timed}
use Rattle.rstp_run.proofs.Measure.{acting, changing, changing-le, going_on, going_on-le, is_held, is_outside, Lowers}
use Rattle.rstp_run.proofs.Measure.{raise, stepping, stepping-le, waiting}
use Rattle.rstp_run.proofs.Names.{arith, Bool, cases_Bool, edge_delay, eq-eqb, false, forward_delay, has_role, inl, inr}
use Rattle.rstp_run.proofs.Names.{is_active, is_blocked, is_designated, is_disabled, is_in_tree, is_inactive}
use Rattle.rstp_run.proofs.Names.{is_learning, is_root, List, not, not-true, PortState, Role, RoleRule, refl, role_asks}
use Rattle.rstp_run.proofs.Names.{StateRule, same_role, state_asks, Timing, Topology, TopologyRule, topology_asks, true}
use Rattle.rstp_run.proofs.Names.{with_sync, ℕ, ◌&&◌, ◌*◌, ◌+◌, ◌<◌, ◌==◌, ◌||◌, ◌≡◌, ◌≤◌}
use Rattle.rstp_run.proofs.Own.{Nothing, Reroots, Spread, Syncs, spread_by, Tells}
use Rattle.rstp_run.proofs.Totals.{if_so, if_so-le}
use Rattle.rstp_run.specs.TopologyChange.{notified_at}
use Rattle.std.proofs.lemmas.Bool.{or_cases}
use Rattle.rstp_run.proofs.Names.role
use Rattle.rstp_run.proofs.Names.role_rule
use Rattle.rstp_run.proofs.Names.roles
use Rattle.rstp_run.proofs.Names.rules
use Rattle.rstp_run.proofs.Names.state_rule
use Rattle.rstp_run.proofs.Names.topology
use Rattle.rstp_run.proofs.Names.topology_rule

learning_is : (state : Topology) → On (is_learning state) → state ≡ topology.Learning
learning_is state h = grind arith

active_is : (state : Topology) → On (is_active state) → state ≡ topology.Active
active_is state h = grind arith

-- a port that begins to learn has two steps before it, whether it is in the tree or not
from_inactive : (w : ℕ) (state : Topology) (outside learn : Bool) → On (is_inactive state) → On learn
    → changing w state outside learn ≡ w + w
from_inactive w state outside learn h k = grind arith

some_change : (n : ℕ) (a b c d : Bool) → On (a || b || c || d)
    → 1 ≤ if_so 2 d + if_so 1 c + if_so (2 * n + 1) a + if_so (2 * n + 1) b
some_change n a b c d h = grind arith

-- ---- states

module _ (a b c d : Bool) where
  learning_steps : On (a && not c) → stepping a b true d < stepping a b c d
  learning_steps h = grind arith

  forwarding_steps : On (c && b && not d) → stepping a b c true < stepping a b c d
  forwarding_steps h = grind arith

  discarding_steps : On ((c && not a) || (d && not b)) → stepping a b false false < stepping a b c d
  discarding_steps h = grind arith

module _ (n : ℕ) (timing : Timing) (x : PortState) where
  pub state_lowers : (rule : StateRule) → On (state_asks rule x) → Lowers n timing x (rules.State rule)
  state_lowers state_rule.ToLearning h = omega (arith, learning_steps x.learn x.forward x.learning x.forwarding h)
  state_lowers state_rule.ToForwarding h = omega (arith, forwarding_steps x.learn x.forward x.learning x.forwarding h)
  state_lowers state_rule.ToDiscarding h = omega (arith, discarding_steps x.learn x.forward x.learning x.forwarding h)

  -- ---- topology change

  pub topology_lowers : (rule : TopologyRule) → On (topology_asks rule x) → Lowers n timing x (rules.Topology rule)
  topology_lowers topology_rule.Flush h = rw h (omega arith)
  topology_lowers topology_rule.Acknowledged h =
      let got : On x.received_acknowledgement = (parts h).1 in
      rw got (omega arith)
  topology_lowers topology_rule.TcLearning h =
      let (state, learns) = parts (parts h).0 in
      omega (arith, from_inactive (2 * n + 2) x.topology (is_outside x) x.learn state learns)
  topology_lowers topology_rule.TcClear h =
      omega (
        arith,
        some_change n x.received_topology_change x.received_notification x.received_acknowledgement
            x.propagate_topology_change (parts (parts h).0).1,
      )
  topology_lowers topology_rule.TcInactive h =
      let (third, no_learn) = parts (parts (parts h).0).0 in
      let no_tree : On (not (is_in_tree x)) = (parts third).1 in
      rw (learning_is x.topology (parts third).0, not-true x.learn no_learn, no_tree) (omega arith)
  topology_lowers topology_rule.TcBack h =
      let outside : On (is_outside x) = (parts h).1 in
      rw (active_is x.topology (parts h).0, outside) (omega arith)
  topology_lowers topology_rule.Propagating h =
      let told : On x.propagate_topology_change = (parts (parts h).0).1 in
      timed (λ y. acting n timing (record y { flush = true; propagate_topology_change = false }) + n * 0 + 1
      ≤ acting n timing x + 0) timing x (λ time new. rw told (omega (arith, if_so-le 1 x.flush)))
  topology_lowers topology_rule.Detected h =
      let (first, no_edge) = parts h in
      let (state, in_tree) = parts (parts first).0 in
      let tree : On (is_in_tree x) = in_tree in
      timed (λ y. acting n timing (record y { new_info = true }) + n * 2 + 1 ≤ acting n timing x + 2) timing
      (record x { topology = topology.Active })
      (λ time new. rw (learning_is x.topology state, tree, not-true x.oper_edge no_edge) (omega arith))
  topology_lowers topology_rule.NotifiedTc h =
      let got : On x.received_topology_change = (parts h).1 in
      rw got (omega arith)
  topology_lowers topology_rule.NotifiedTcn h =
      let got : On x.received_notification = (parts h).1 in
      timed (λ y. acting n timing (notified_at y) + n * 2 + 1 ≤ acting n timing x + 2) timing x
      (λ time new. rw got (omega arith))

-- ---- roles

module _ (r : Role) where
  blocked_not_root : On (is_blocked r) → Off (is_root r)
  blocked_not_root h = grind arith

  disabled_is : On (is_disabled r) → r ≡ role.Disabled
  disabled_is h = grind arith

  root_is : On (is_root r) → r ≡ role.Root
  root_is h = grind arith

  designated_is : On (is_designated r) → r ≡ role.Designated
  designated_is h = grind arith

  pub same_disabled : On (is_disabled r) → On (same_role role.Disabled r)
  same_disabled h = grind arith

  pub same_root : On (is_root r) → On (same_role role.Root r)
  same_root h = grind arith

  pub same_designated : On (is_designated r) → On (same_role role.Designated r)
  same_designated h = grind arith

  pub same_itself : On (same_role r r)
  same_itself = grind arith

-- a test that holds for the one role only
pub other_role : (test : Role → Bool) (r s : Role) → On (test s) → Off (test r) → Off (same_role r s)
other_role test r s h k = grind arith

pub unless : (n : ℕ) (b : Bool) → On b → if_so n (not b) ≡ 0
unless n b h = grind arith

-- ---- parts of the measure at a role

going-blocked : (w : ℕ) (r : Role) (held learn forward : Bool) → On (is_blocked r)
    → going_on w r held learn forward ≡ 0
going-blocked w r held learn forward h = grind arith

module _ (r : Role) (a b : Bool) where
  pub waiting-disabled : On (is_disabled r) → waiting r a b ≡ if_so 1 (not a)
  waiting-disabled h = grind arith

  pub waiting-blocked : On (is_blocked r) → waiting r a b ≡ if_so 1 (not b)
  waiting-blocked h = grind arith

third_off : (w : ℕ) (a b c : Bool) → Off c → if_so w (a && b && c) ≡ 0
third_off w a b c h = grind arith

pub on_both : (a b : Bool) → On a → On b → On (a && b)
on_both a b h k = grind arith

pub same_number : (n : ℕ) → On (n == n)
same_number n = eq-eqb n n refl

changing-dark : (w : ℕ) (state : Topology) (outside learn : Bool)
    → changing w state outside false ≤ changing w state outside learn
changing-dark w state outside learn = grind arith

-- ---- requests

pub not_held : (sync synced re_root none : Bool) → On (not sync) → On (none || not re_root)
    → Off ((sync && not synced) || (re_root && not none))
not_held sync synced re_root none h k = grind arith

pub retired_held : (x re_root none : Bool) → On none → (x || (re_root && not none)) ≡ (x || (false && not none))
retired_held x re_root none h = grind arith

pub one_on : (w : ℕ) (a b : Bool) → On (a || b) → w ≤ if_so w a + if_so w b
one_on w a b h = grind arith

pub one_agrees : (w : ℕ) (all agree proposed : Bool) → On ((all && not agree) || (proposed && agree))
    → 1 ≤ if_so (w + 1) proposed + if_so 1 (not agree)
one_agrees w all agree proposed h = grind arith

one_syncs : (w : ℕ) (synced sync may : Bool) → On ((not synced && may) || (sync && synced))
    → w ≤ if_so w sync + if_so w (not synced)
one_syncs w synced sync may h = grind arith

one_rests : (w : ℕ) (at_time sync re_root synced none : Bool) → 1 ≤ w
    → On (not at_time || sync || re_root || not synced || not none)
    → 1 ≤ if_so 1 (not at_time) + if_so w sync + if_so 1 re_root + if_so w (not synced) + if_so 1 (not none)
one_rests w at_time sync re_root synced none some h = grind arith

-- the same role is blocked too
pub blocked_too : (r s : Role) → On (same_role r s) → On (is_blocked r) → On (is_blocked s)
blocked_too r s h k = grind arith

module _ (n : ℕ) (timing : Timing) (x : PortState) where
  acts_root : On (roles.acts_as_root x) → x.selected_role ≡ role.Root
  acts_root acts = root_is x.selected_role (parts acts).1

  acts_designated : On (roles.acts_as_designated x) → x.selected_role ≡ role.Designated
  acts_designated acts = designated_is x.selected_role (parts acts).1

  goes_free : On (roles.may_go_on x) → Off (is_held x)
  goes_free h = not_held x.sync x.synced x.re_root (x.recent_root_while == 0) (parts (parts h).0).0 (parts h).1

  -- a port that takes over a proposal has all others sync
  proposed_lowers : On x.proposed → acting n timing (roles.without_proposal (with_sync x)) + n * (16 * n + 33) + 1
      ≤ acting n timing x + (16 * n + 33)
  proposed_lowers h = rw h (omega (arith, going_on-le))

  pub raises : (k : Spread) → acting n timing (spread_by k x) ≤ acting n timing x + raise n k
  raises Nothing = omega arith
  raises Syncs = omega (arith, going_on-le)
  raises Reroots =
      omega (arith, going_on-le, third_off (n * (8 * n + 17) + 1) (is_root x.selected_role) (not x.forward) false refl)
  raises Tells = omega arith

  pub role_lowers : (rule : RoleRule) (ports : List PortState) (p : ℕ) → On (role_asks rule timing ports p x)
      → Lowers n timing x (rules.Role rule)
  -- taking the selected role
  role_lowers role_rule.Disable ports p h =
      let (first, other) = parts h in
      let selected : On (is_disabled x.selected_role) = (parts first).1 in
      rw (
        disabled_is x.selected_role,
        other_role is_disabled x.role role.Disabled refl (not-true (is_disabled x.role) other),
      ) (omega (arith, changing-le, stepping-le))
  role_lowers role_rule.Block ports p h =
      let (first, other) = parts h in
      let same : On (not (has_role x)) = other in
      let selected : On (is_blocked x.selected_role) = (parts first).1 in
      rw (same, blocked_not_root, going-blocked, same_itself) (omega (arith, changing-le, stepping-le))
  role_lowers role_rule.Designated ports p h =
      let (first, other) = parts h in
      let selected : On (is_designated x.selected_role) = (parts first).1 in
      rw (
        designated_is x.selected_role,
        other_role is_designated x.role role.Designated refl (not-true (is_designated x.role) other),
      ) (omega (arith, changing-le))
  -- the port takes the role, or has it
  role_lowers role_rule.Root ports p h =
      let selected : On (is_root x.selected_role) = (parts (parts h).0).1 in
      let why : On (not (is_root x.role) || not (x.recent_root_while == timing.forward_delay)) = (parts h).1 in
      elim (cases_Bool (is_root x.role)) [
        | inl has ↦ (let old = rw has at why in
            rw (root_is x.selected_role, root_is x.role, old, same_number timing.forward_delay) (omega arith))
        | inr other ↦
            rw (
              root_is x.selected_role,
              other_role is_root x.role role.Root refl other,
              same_number
                  timing.forward_delay,
            )
            (omega (arith, changing-le))
      ]
  -- the root port
  role_lowers role_rule.RootProposed ports p h = proposed_lowers (parts (parts h).0).1
  role_lowers role_rule.RootAgreed ports p h =
      rw (acts_root (parts h).0) (omega (arith, one_agrees (n * (16 * n + 33)) _ x.agree x.proposed (parts h).1))
  role_lowers role_rule.Reroot ports p h =
      let (first, stays) = parts h in
      let blocked : On (not x.forward) = (parts first).1 in
      let old : On (not x.re_root) = stays in
      rw (acts_root (parts first).0, blocked, old) (omega arith)
  role_lowers role_rule.Rerooted ports p h =
      let (first, old) = parts h in
      let forwards : On x.forward = (parts first).1 in
      let re_root : On x.re_root = old in
      rw (acts_root (parts first).0, forwards, re_root) (omega arith)
  role_lowers role_rule.RootLearn ports p h =
      let dark : On (not x.learn) = (parts (parts h).0).1 in
      rw (acts_root (parts (parts h).0).0, dark) (omega (arith, changing-le, stepping-le))
  role_lowers role_rule.RootForward ports p h =
      let (second, stays) = parts (parts h).0 in
      let blocked : On (not x.forward) = stays in
      rw (acts_root (parts second).0, blocked) (omega (arith, stepping-le))
  -- designated ports
  role_lowers role_rule.Propose ports p h =
      let idle : On (not x.proposing) = (parts (parts h).0).1 in
      rw idle (omega (arith, if_so-le 1 (not (edge_delay timing x == 3) && not x.enabled)))
  role_lowers role_rule.Synced ports p h =
      rw (acts_designated (parts h).0)
      (omega (arith, one_syncs (8 * n + 17) x.synced x.sync _ (parts h).1, going_on-le))
  role_lowers role_rule.Retired ports p h =
      let (first, old) = parts h in
      let none : On (x.recent_root_while == 0) = (parts first).1 in
      let re_root : On x.re_root = old in
      rw (acts_designated (parts first).0, re_root, none) (omega arith)
  -- a designated port goes back to discarding, if it is held back or its state is disputed
  role_lowers role_rule.DesignatedDiscard ports p h =
      let (second, on) = parts (parts h).0 in
      let selected = acts_designated (parts second).0 in
      elim (or_cases (is_held x) x.disputed (parts h).1) [
        | inl held ↦
            rw (selected, held)
            (omega (arith, one_on (4 * n + 8) x.learn x.forward on, stepping-le, changing-dark))
        | inr disputed ↦ rw (selected, disputed) (omega (arith, going_on-le, stepping-le, changing-dark))
      ]
  role_lowers role_rule.DesignatedLearn ports p h =
      let dark : On (not x.learn) = (parts (parts h).0).1 in
      let free : On (roles.may_go_on x) = (parts h).1 in
      rw (acts_designated (parts (parts h).0).0, goes_free free, dark) (omega (arith, changing-le, stepping-le))
  role_lowers role_rule.DesignatedForward ports p h =
      let (second, stays) = parts (parts h).0 in
      let blocked : On (not x.forward) = stays in
      let free : On (roles.may_go_on x) = (parts h).1 in
      rw (acts_designated (parts second).0, goes_free free, blocked) (omega (arith, stepping-le))
  -- other ports
  role_lowers role_rule.DisabledPort ports p h =
      let rests = one_rests (8 * n + 17) (x.forward_delay_while == timing.max_age) x.sync x.re_root x.synced
      (x.recent_root_while == 0) (omega arith) (parts h).1 in
      let selected : On (is_disabled x.selected_role) = (parts (parts (parts h).0).0).1 in
      rw (disabled_is x.selected_role, same_number timing.max_age) (omega arith)
  role_lowers role_rule.Alternate ports p h =
      let (has, blocked) = parts (parts (parts h).0).0 in
      let selected = blocked_too x.role x.selected_role (parts has).1 blocked in
      let rests = one_rests (8 * n + 17) (x.forward_delay_while == forward_delay timing x) x.sync x.re_root x.synced
      (x.recent_root_while == 0) (omega arith) (parts h).1 in
      rw (
        blocked_not_root x.selected_role,
        going-blocked,
        waiting-blocked,
        waiting-blocked,
        same_number (forward_delay timing x),
      ) (omega arith)
  role_lowers role_rule.AlternateProposed ports p h = proposed_lowers (parts (parts h).0).1
  role_lowers role_rule.AlternateAgreed ports p h =
      omega (arith, one_agrees (n * (16 * n + 33)) _ x.agree x.proposed (parts h).1)
  role_lowers role_rule.Backup ports p h =
      let old : On (not (x.recent_backup_while == 2 * timing.hello)) = (parts h).1 in
      rw (old, same_number (2 * timing.hello)) (omega arith)
