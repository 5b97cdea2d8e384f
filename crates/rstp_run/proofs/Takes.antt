-- A port that has taken its role, and has no proposal to answer, stays so.
-- In the third pass of an event each port takes over what is to be taken over, takes its role and answers its proposal.
-- So information rests, and no rule asks all ports to sync or to leave the old root any more.
use Rattle.rstp_run.proofs.Basics.{Fact, Off, On, parts, Relation, timed}
use Rattle.rstp_run.proofs.Kept.{or_true}
use Rattle.rstp_run.proofs.LowersRoles.{same_designated, same_disabled, same_itself, same_root}
use Rattle.rstp_run.proofs.Names.{ap, arith, asks, Bool, cases_lt, drop, false, Going, has_role, information_does, inl}
use Rattle.rstp_run.proofs.Names.{inr, is_blocked, is_designated, is_disabled, is_root, is_select, List, main_order}
use Rattle.rstp_run.proofs.Names.{may_act, no, not, or_left, PortState, RoleRule, Rule, refl, same_role, subst, suc}
use Rattle.rstp_run.proofs.Names.{sym, Timing, TopologyRule, Tree, take, timing_in, tries_all, true, ℕ, ◌&&◌, ◌<◌, ◌||◌}
use Rattle.rstp_run.proofs.Names.{◌∷◌, ◌≡◌}
use Rattle.rstp_run.proofs.Own.{all_keep, Nothing, own, own_role, own_topology, Reroots, Spread, Stable, spread_by}
use Rattle.rstp_run.proofs.Places.{keep-any, Leads, leads-end, main_rest, next-any, Stage, Zone}
use Rattle.rstp_run.proofs.Quiet.{IsStill, is_plain, own_stays, own_still, Still, spread_stays}
use Rattle.rstp_run.proofs.RoleKinds.{as-designated, as-root, as_blocked, as_disabled, both_designated, both_disabled}
use Rattle.rstp_run.proofs.RoleKinds.{both_root, kind, kind_lt, role-kind, rule_kind, same-test}
use Rattle.rstp_run.proofs.Steady.{IsBase, IsBaseOf, IsSteady, IsSteadyOf, informs-taken, rests-steady, steady-acts}
use Rattle.rstp_run.proofs.Steady.{steady-informs, update-steady}
use Rattle.rstp_roles.specs.StateTransitions as states
use Rattle.rstp_run.proofs.Names.detection_rule
use Rattle.rstp_run.proofs.Names.migration_rule
use Rattle.rstp_run.proofs.Names.receive_rule
use Rattle.rstp_run.proofs.Names.role_rule
use Rattle.rstp_run.proofs.Names.roles
use Rattle.rstp_run.proofs.Names.rules
use Rattle.rstp_run.proofs.Names.state_rule
use Rattle.rstp_run.proofs.Names.topology
use Rattle.rstp_run.proofs.Names.topology_rule
use Rattle.rstp_run.proofs.Names.transmit_rule
use Rattle.rstp_run.proofs.Visits as levels

-- The port has its selected role. The root port has no proposal, and forwards or leaves the old root. A blocked port
-- has no proposal that it hasn't agreed to.
abbrev pub IsPlaced : Fact
IsPlaced x =
    On (same_role x.role x.selected_role)
    × (kind x.selected_role ≡ 1 → Off x.proposed × On (x.forward || x.re_root))
    × (kind x.selected_role ≡ 3 → Off (x.proposed && not x.agree))

module _ (s : Tree) (p : ℕ) (x : PortState) where
  role_places : (rule : RoleRule) → On (asks (rules.Role rule) s p x) → kind x.selected_role ≡ rule_kind rule
      → IsPlaced x → IsPlaced (own_role rule (timing_in s) x)
  role_places role_rule.Disable g k h =
      (same_disabled x.selected_role (parts (parts g).0).1, λ e. absurd (omega arith), λ e. absurd (omega arith))
  role_places role_rule.Root g k h = (same_root x.selected_role (parts (parts g).0).1, h.1, h.2)
  role_places role_rule.RootProposed g k h = (h.0, λ e. (refl, (h.1 e).1), λ e. refl)
  role_places role_rule.RootAgreed g k h = (h.0, λ e. (refl, (h.1 e).1), λ e. refl)
  role_places role_rule.Reroot g k h = (h.0, λ e. ((h.1 e).0, or_true x.forward), h.2)
  role_places role_rule.Rerooted g k h =
      (h.0, λ e. ((h.1 e).0, or_left x.forward false (parts (parts g).0).1), h.2)
  role_places role_rule.RootLearn g k h = h
  role_places role_rule.RootForward g k h = (h.0, λ e. ((h.1 e).0, refl), h.2)
  role_places role_rule.Designated g k h = (same_designated x.selected_role (parts (parts g).0).1, h.1, h.2)
  role_places role_rule.Propose g k h = h
  role_places role_rule.Synced g k h = h
  role_places role_rule.DesignatedLearn g k h = h
  role_places role_rule.DesignatedForward g k h = (h.0, λ e. ((h.1 e).0, refl), h.2)
  role_places role_rule.Block g k h = (same_itself x.selected_role, λ e. absurd (omega arith), h.2)
  role_places role_rule.AlternateProposed g k h = (h.0, λ e. (refl, (h.1 e).1), λ e. refl)
  role_places role_rule.AlternateAgreed g k h = (h.0, λ e. (refl, (h.1 e).1), λ e. refl)
  role_places role_rule.Backup g k h = h
  role_places _ g k h = (h.0, λ e. absurd (omega arith), h.2)

  plain_places : (rule : Rule) → On (is_plain rule) → On (asks rule s p x) → IsPlaced x
      → IsPlaced (own rule (timing_in s) x)
  plain_places rules.Select n g h = h
  plain_places (rules.Receive rule) n g h = no n
  plain_places (rules.Information rule) n g h = no n
  plain_places (rules.Migration migration_rule.Recheck) n g h = h
  plain_places (rules.Detection detection_rule.Edge) n g h = h
  plain_places (rules.Role rule) n g h = role_places rule g (role-kind rule s p x g) h
  plain_places (rules.State state_rule.ToLearning) n g h = h
  plain_places (rules.Topology topology_rule.Detected) n g h =
      timed IsPlaced (timing_in s) (record x { topology = topology.Active }) (λ time new. h)
  plain_places (rules.Topology topology_rule.NotifiedTcn) n g h = timed IsPlaced (timing_in s) x (λ time new. h)
  plain_places (rules.Topology topology_rule.Propagating) n g h = timed IsPlaced (timing_in s) x (λ time new. h)
  plain_places (rules.Transmit transmit_rule.Periodic) n g h = h
  plain_places _ n g h = h

-- `learning` and `forwarding` follow `learn` and `forward`
abbrev pub IsEven : Fact
IsEven x = Off (states.to_discarding_guard x)

topology-even : (rule : TopologyRule) (timing : Timing) (x : PortState) → IsEven x
    → IsEven (own_topology rule timing x)
topology-even topology_rule.Detected timing x h =
    timed IsEven timing (record x { topology = topology.Active }) (λ time new. h)
topology-even topology_rule.NotifiedTcn timing x h = timed IsEven timing x (λ time new. h)
topology-even topology_rule.Propagating timing x h = timed IsEven timing x (λ time new. h)
topology-even _ timing x h = h

-- a steady port stays steady, keeps its selected role, and stays placed
abbrev pub Goes : Relation
Goes x y = IsSteady y × (y.selected_role ≡ x.selected_role) × (IsPlaced x → IsPlaced y)

by_still : (x y : PortState) → IsSteady x → IsStill x y → (IsPlaced x → IsPlaced y) → Goes x y
by_still x y h still places = (subst IsSteadyOf (sym still) h, ap (λ (s : Still). s.known.selected_role) still, places)

pub steady-goes : (rule : Rule) (s : Tree) (p : ℕ) (x : PortState) → Off (is_select rule) → On (asks rule s p x)
    → IsSteady x → Goes x (own rule (timing_in s) x)
steady-goes rules.Select s p x n g h = no (sym n)
steady-goes (rules.Receive receive_rule.Discard) s p x n g h =
    ((((levels.discard-taken x h.0.0.0, h.0.0.1), h.0.1), h.1, h.2, h.3), refl, λ k. k)
steady-goes (rules.Receive receive_rule.Receive) s p x n g h = absurd (levels.receive-off x h.0.0.0 g)
steady-goes (rules.Information rule) s p x n g h = absurd (steady-informs rule x h g)
steady-goes rule s p x n g h =
    by_still x (own rule (timing_in s) x) h (own_still rule (timing_in s) x refl) (plain_places s p x rule refl g)

pub spread-goes : (k : Spread) (x : PortState) → IsSteady x → Goes x (spread_by k x)
spread-goes Reroots x h = (h, refl, λ z. (z.0, λ e. ((z.1 e).0, or_true x.forward), z.2))
spread-goes _ x h = (h, refl, λ z. z)

spread_same : (k : Spread) (x : PortState)
    → (Off x.flush → Off (spread_by k x).flush) × (IsEven x → IsEven (spread_by k x))
spread_same Nothing x = (λ h. h, λ h. h)
spread_same _ x = (λ h. h, λ h. h)

-- ---- a rule that would fire if the fact didn't hold

has_if : (m s r : Bool) → Off (m && s && not r) → On m → On s → On r
has_if m s r h k l = grind arith

has_or : (m s n z : Bool) → Off (m && s && (not n || z)) → On m → On s → On n
has_or m s n z h k l = grind arith

unanswered : (c p a : Bool) → Off (c && p && not a) → On c → Off (p && not a)
unanswered c p a h k = rw k at h

none_left : (p a all : Bool) → Off (p && not a) → Off ((all && not a) || (p && a)) → Off p
none_left p a all h k = grind arith

one_of : (c f r : Bool) → Off (c && not f && not r) → On c → On (f || r)
one_of c f r h k = grind arith

module _ (x : PortState) (h : IsSteady x) where
  root_acts : kind x.selected_role ≡ 1 → On (same_role x.role x.selected_role) → On (roles.acts_as_root x)
  root_acts e same =
      let r = as-root x.selected_role e in
      rw (steady-acts x h, same-test is_root x.role x.selected_role same r, r)

  pub designated-acts : kind x.selected_role ≡ 2 → On (same_role x.role x.selected_role)
      → On (roles.acts_as_designated x)
  designated-acts e same =
      let d = as-designated x.selected_role e in
      rw (steady-acts x h, same-test is_designated x.role x.selected_role same d, d)

  blocked_acts : kind x.selected_role ≡ 3 → On (same_role x.role x.selected_role) → On (roles.acts_as_blocked x)
  blocked_acts e same =
      rw (steady-acts x h, same, same-test is_blocked x.role x.selected_role same (as_blocked x.selected_role e))

-- the rules of these kinds have been tried
abbrev Done : ℕ → Fact
Done j x = kind x.selected_role < j → IsPlaced x

-- besides, the port has its role if it is of this kind
abbrev Took : ℕ → Fact
Took j x = Done j x × (kind x.selected_role ≡ j → On (same_role x.role x.selected_role))

abbrev Answered : Fact
Answered x =
    Done 1 x
    × (kind x.selected_role ≡ 1 → On (same_role x.role x.selected_role) × Off (x.proposed && not x.agree))

abbrev Agreed : Fact
Agreed x = Done 1 x × (kind x.selected_role ≡ 1 → On (same_role x.role x.selected_role) × Off x.proposed)

-- the port has taken its role, isn't to be flushed, and is even
abbrev pub IsRested : Fact
IsRested x = IsPlaced x × Off x.flush × IsEven x

abbrev is_topology : Rule → Bool
is_topology (rules.Topology rule) = true
is_topology _ = false

topology_keeps : (rule : Rule) (s : Tree) (x : PortState) → On (is_topology rule) → IsEven x
    → IsEven (own rule (timing_in s) x)
topology_keeps (rules.Topology rule) s x n h = topology-even rule (timing_in s) x h
topology_keeps _ s x n h = no n

-- ---- before Update

base_goes : Stable IsBase
base_goes rules.Select s p x other g h = no (sym other)
base_goes (rules.Receive receive_rule.Discard) s p x other g h =
    (((levels.discard-taken x h.0.0.0, h.0.0.1), h.0.1), h.1, h.2)
base_goes (rules.Receive receive_rule.Receive) s p x other g h = absurd (levels.receive-off x h.0.0.0 g)
base_goes (rules.Information rule) s p x other g h =
    informs-taken (λ r. IsBase (information_does r x)) rule x h.0.0.0
    (λ on. (let k = update-steady x on h in (k.0, k.1, k.2))) (λ on. absurd (levels.aged-off x h.0.0 on)) g
base_goes rule s p x other g h = own_stays IsBaseOf rule (timing_in s) x refl h

-- after its visit
abbrev pub IsTakenUp : Fact
IsTakenUp x = IsSteady x × IsRested x

module _ (c n limit p : ℕ) where
  -- the visit goes on with these rules
  abbrev Visit : Fact → List Rule → Type 0
  Visit H list = Leads IsTakenUp IsBase c n limit p (λ x. IsSteady x × H x) list IsTakenUp

  early : (k : Spread) (x : PortState) → IsTakenUp x → IsTakenUp (spread_by k x)
  early k x h =
      let goes = spread-goes k x h.0 in
      let same = spread_same k x in
      (goes.0, (goes.2 h.1.0, same.0 h.1.1, same.1 h.1.2))

  late : (k : Spread) (x : PortState) → IsBase x → IsBase (spread_by k x)
  late = spread_stays IsBaseOf

  -- a rule, and the rules after it up to the end of the visit
  next : {H : Fact} (K : Fact) {rule : Rule} {rest : List Rule} → Off (is_select rule)
      → ((s : Tree) (x : PortState) → IsSteady x → Off (asks rule s p x) → H x → K x)
      → ((s : Tree) (x : PortState) → IsSteady x → On (asks rule s p x) → H x → K (own rule (timing_in s) x))
      → Visit K rest → Visit H (rule ∷ rest)
  next K {rule} other rests fires later =
      next-any IsTakenUp IsBase c n limit p early late (λ x. IsSteady x × K x) other
      (λ s x off d. (d.0, rests s x d.0 off d.1))
      (λ s x on d. ((steady-goes rule s p x other on d.0).0, fires s x d.0 on d.1)) later

  -- m rules that keep a fact, and the rules after them
  keeping : (H : Fact) (sort : Rule → Bool)
      → ((rule : Rule) (s : Tree) (x : PortState) → Off (is_select rule) → On (sort rule) → IsSteady x
      → On (asks rule s p x) → H x → H (own rule (timing_in s) x))
      → (m : ℕ) {list : List Rule} → On (all_keep sort (take m list)) → Visit H (drop m list) → Visit H list
  keeping H sort fires m ok later =
      keep-any IsTakenUp IsBase c n limit p early late (λ x. IsSteady x × H x) sort
      (λ rule s x other is on d. ((steady-goes rule s p x other on d.0).0, fires rule s x other is d.0 on d.1)) m ok
      later

  done_goes : (j : ℕ) (rule : Rule) (s : Tree) (x : PortState) → Off (is_select rule) → IsSteady x
      → On (asks rule s p x) → Done j x → Done j (own rule (timing_in s) x)
  done_goes j rule s x other h on d less =
      let goes = steady-goes rule s p x other on h in
      goes.2 (d (rw (← goes.1) less))

  skip : (j m : ℕ) {list : List Rule} → On (all_keep (λ rule. true) (take m list)) → Visit (Done j) (drop m list)
      → Visit (Done j) list
  skip j m ok later =
      keeping (Done j) (λ rule. true) (λ rule s x other any. done_goes j rule s x other) m ok later

  -- the rules of one more kind have been tried
  more : (j : ℕ) (x : PortState) → Done j x → (kind x.selected_role ≡ j → IsPlaced x) → Done (suc j) x
  more j x before here less = elim (cases_lt (kind x.selected_role) j) [
    | inl earlier ↦ before earlier
    | inr from ↦ here (omega arith)
  ]

  end : Visit (Done 4) (drop 39 main_order)
  end =
      skip 4 4 refl (next (λ x. Done 4 x × IsEven x) refl (λ s x h off d. (d, off))
      (λ s x h on d. (done_goes 4 (rules.State state_rule.ToDiscarding) s x refl h on d, refl))
      (keeping (λ x. Done 4 x × IsEven x) is_topology
      (λ rule s x other is h on d. (done_goes 4 rule s x other h on d.0, topology_keeps rule s x is d.1)) 9 refl
      (next IsRested refl (λ s x h off d. (d.0 (kind_lt x.selected_role), off, d.1))
      (λ s x h on d. (d.0 (kind_lt x.selected_role), refl, d.1)) (leads-end IsTakenUp IsBase c n limit p))))

  block : Visit (Done 3) (drop 36 main_order)
  block =
      next (Took 3) refl
      (λ s x h off d. (
        d,
        λ e. has_if _ _ _ off (steady-acts x h)
            (as_blocked x.selected_role e),
      ))
      (λ s x h on d. (done_goes 3 (rules.Role role_rule.Block) s x refl h on d, λ e. same_itself x.selected_role))
      (next (Took 3) refl (λ s x h off d. d)
      (λ s x h on d. (done_goes 3 (rules.Role role_rule.Alternate) s x refl h on d.0, d.1))
      (next (Done 4) refl
      (λ s x h off d. more 3 x d.0 (λ e. (
        d.1 e,
        λ o. absurd (omega arith),
        λ f. unanswered _ x.proposed x.agree off (blocked_acts x h e (d.1 e)),
      )))
      (λ s x h on d. (let k : kind x.selected_role ≡ 3 = role-kind role_rule.AlternateProposed s p x on in
      λ less. (d.1 k, λ o. absurd (omega arith), λ f. refl)))
      end))

  designated : Visit (Done 2) (drop 29 main_order)
  designated =
      next (Done 3) refl
      (λ s x h off d. more 2 x d (λ e. (let is = as-designated x.selected_role e in (
        both_designated x.role x.selected_role (has_if _ _
            _ off (steady-acts x h) is) is,
        λ o. absurd (omega arith),
        λ o. absurd (omega arith),
      ))))
      (λ s x h on d. (let k : kind x.selected_role ≡ 2 = role-kind role_rule.Designated s p x on in λ less. (
        same_designated x.selected_role (as-designated x.selected_role k),
        λ o. absurd (omega arith),
        λ o. absurd (omega arith),
      )))
      (skip 3 6 refl block)

  reroot : Visit Agreed (drop 25 main_order)
  reroot =
      next (Done 2) refl
      (λ s x h off d. more 1 x d.0 (λ e. (
        (d.1 e).0,
        λ f. ((d.1 e).1, one_of _ x.forward x.re_root off (root_acts x h e (d.1 e).0)),
        λ o. absurd (omega arith),
      )))
      (λ s x h on d. (let k : kind x.selected_role ≡ 1 = role-kind role_rule.Reroot s p x on in
      λ less. ((d.1 k).0, λ f. ((d.1 k).1, or_true x.forward), λ o. absurd (omega arith))))
      (skip 2 3 refl designated)

  root : Visit (Done 1) (drop 22 main_order)
  root =
      next (Took 1) refl
      (λ s x h off d. (
        d,
        λ e. (let is = as-root x.selected_role e in
            both_root x.role x.selected_role (has_or _ _ _ _ off
            (steady-acts x h) is) is),
      ))
      (λ s x h on d. (
        done_goes 1 (rules.Role role_rule.Root) s x refl h on d,
        λ e. same_root x.selected_role (as-root x.selected_role e),
      ))
      (next Answered refl
      (λ s x h off d. (
        d.0,
        λ e. (d.1 e, unanswered _ x.proposed x.agree off (root_acts x h e (d.1 e))),
      ))
      (λ s x h on d. (done_goes 1 (rules.Role role_rule.RootProposed) s x refl h on d.0, λ e. (d.1 e, refl)))
      (next Agreed refl
      (λ s x h off d. (
        d.0,
        λ e. ((d.1 e).0, none_left x.proposed x.agree _ (d.1 e).1 (rw (root_acts x h e (d.1 e).0) at off)),
      ))
      (λ s x h on d. (done_goes 1 (rules.Role role_rule.RootAgreed) s x refl h on d.0, λ e. ((d.1 e).0, refl)))
      reroot))

  disable : Visit (Done 0) (drop 20 main_order)
  disable =
      next (Done 1) refl
      (λ s x h off d. more 0 x d (λ e. (let is = as_disabled x.selected_role e in (
        both_disabled x.role x.selected_role (has_if _ _
            _ off (steady-acts x h) is) is,
        λ o. absurd (omega arith),
        λ o. absurd (omega arith),
      ))))
      (λ s x h on d. (let k : kind x.selected_role ≡ 0 = role-kind role_rule.Disable s p x on in λ less. (
        same_disabled x.selected_role (as_disabled x.selected_role k),
        λ o. absurd (omega arith),
        λ o. absurd (omega arith),
      )))
      (skip 1 1 refl root)

  visit_takes : Leads IsTakenUp IsBase c n limit p IsBase main_rest IsTakenUp
  visit_takes =
      keep-any IsTakenUp IsBase c n limit p early late IsBase (λ rule. true)
      (λ rule s x other any. base_goes rule s p x other) 12 refl
      (next-any IsTakenUp IsBase c n limit p early late (λ x. IsSteady x × Done 0 x) refl
      (λ s x off d. (rests-steady x off d, λ less. absurd (omega arith)))
      (λ s x on d. (update-steady x on d, λ less. absurd (omega arith))) (skip 0 6 refl disable))

  pub visit-takes : (g : Going) → Stage c n (Zone IsTakenUp IsBase IsBase p) limit g
      → Stage c n (Zone IsTakenUp IsTakenUp IsBase p) limit (tries_all main_rest p limit g)
  visit-takes = visit_takes.walk
