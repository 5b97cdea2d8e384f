-- Facts of a designated port before and after its rules of roles and of topology change are tried.
-- A designated port that has taken its role begins to forward in few passes: after two more passes it forwards and has
-- been detected, is an edge, or is shut for the rest of the event.
use Rattle.rstp_run.proofs.Basics.{clash, Fact, Off, On, parts, timed}
use Rattle.rstp_run.proofs.Fixed.{acts, enabled, fits, fixed-fits, fixed-goes, IsFixed, in_tree, spread-fixed}
use Rattle.rstp_run.proofs.Flags.{after_discard, after_edge, after_forward, after_learn, after_retired, after_roles}
use Rattle.rstp_run.proofs.Flags.{after_synced, Bits, bits_of, Case, discarded, discards, due, FlagTest, forwards}
use Rattle.rstp_run.proofs.Flags.{if_off, if_on, learns, learnt, off_four, off_three, on_four, on_three, passing, pick}
use Rattle.rstp_run.proofs.Flags.{shut, syncs}
use Rattle.rstp_run.proofs.Kept.{or_true}
use Rattle.rstp_run.proofs.Names.{ap, arith, asks, Bool, drop, false, forward_delay, Going, IsOrderly, is_active}
use Rattle.rstp_run.proofs.Names.{is_discarding, is_inactive, is_learning, is_select, List, main_order, no, not}
use Rattle.rstp_run.proofs.Names.{PortState, RoleRule, Rule, refl, Topology, Tree, take, timing_in, tries_all, true, ℕ}
use Rattle.rstp_run.proofs.Names.{◌&&◌, ◌==◌, ◌||◌, ◌∷◌, ◌≡◌}
use Rattle.rstp_run.proofs.Own.{all_keep, Nothing, own, Spread, spread_by, Tells}
use Rattle.rstp_run.proofs.Places.{keep, Leads, leads-as, leads-end, main_rest, next, Stage, Zone}
use Rattle.rstp_run.proofs.RoleKinds.{kind, role-kind, rule_kind}
use Rattle.rstp_run.proofs.Steady.{steady-informs}
use Rattle.rstp_run.proofs.Takes.{IsEven}
use Rattle.rstp_state.proofs.Basics.{and_second_off as off_two}
use Rattle.rstp_run.proofs.Names.change
use Rattle.rstp_run.proofs.Names.migration_rule
use Rattle.rstp_run.proofs.Names.receive_rule
use Rattle.rstp_run.proofs.Names.role_rule
use Rattle.rstp_run.proofs.Names.roles
use Rattle.rstp_run.proofs.Names.rules
use Rattle.rstp_run.proofs.Names.topology
use Rattle.rstp_run.proofs.Names.transmit_rule
use Rattle.rstp_run.proofs.Visits as levels

-- the flags of a designated port pass the test
abbrev pub Tested : (Bool → Bool → FlagTest) → Fact
Tested t x = kind x.selected_role ≡ 2 → On (t (is_inactive x.topology) (is_active x.topology) (bits_of x))

-- before its rules of roles are tried
abbrev Before : Case → Fact
Before t x =
    Off x.flush
    × (kind x.selected_role ≡ 2
    → On (t (is_discarding x) (is_inactive x.topology) (is_active x.topology) (bits_of x)))

-- a rule that concerns none of these flags
abbrev is_apart : Rule → Bool
is_apart (rules.Role role_rule.Synced) = false
is_apart (rules.Role role_rule.Retired) = false
is_apart (rules.Role role_rule.DesignatedDiscard) = false
is_apart (rules.Role role_rule.DesignatedLearn) = false
is_apart (rules.Role role_rule.DesignatedForward) = false
is_apart rules.Select = false
is_apart (rules.Detection rule) = false
is_apart (rules.State rule) = false
is_apart (rules.Topology rule) = false
is_apart _ = true

module _ (t : Case) where
  role_apart : (rule : RoleRule) (s : Tree) (p : ℕ) (x : PortState) → On (is_apart (rules.Role rule))
      → On (asks (rules.Role rule) s p x) → kind x.selected_role ≡ rule_kind rule → Before t x
      → Before t (own (rules.Role rule) (timing_in s) x)
  role_apart role_rule.Designated s p x n g k h = h
  role_apart role_rule.Propose s p x n g k h = h
  role_apart role_rule.Synced s p x n g k h = no n
  role_apart role_rule.Retired s p x n g k h = no n
  role_apart role_rule.DesignatedDiscard s p x n g k h = no n
  role_apart role_rule.DesignatedLearn s p x n g k h = no n
  role_apart role_rule.DesignatedForward s p x n g k h = no n
  role_apart rule s p x n g k h = (h.0, λ e. absurd (omega (arith, e, k)))

  pub apart : (rule : Rule) (s : Tree) (p : ℕ) (x : PortState) → On (is_apart rule) → IsFixed x → On (asks rule s p x)
      → Before t x → Before t (own rule (timing_in s) x)
  apart (rules.Receive receive_rule.Discard) s p x n r g h = h
  apart (rules.Receive receive_rule.Receive) s p x n r g h = absurd (levels.receive-off x r.0.0.0.0 g)
  apart (rules.Migration migration_rule.Recheck) s p x n r g h = h
  apart (rules.Migration rule) s p x n r g h = h
  apart (rules.Information rule) s p x n r g h = absurd (steady-informs rule x r.0 g)
  apart (rules.Role rule) s p x n r g h = role_apart rule s p x n g (role-kind rule s p x g) h
  apart (rules.Transmit transmit_rule.Periodic) s p x n r g h = h
  apart (rules.Transmit rule) s p x n r g h = h
  apart rule s p x n r g h = no n

-- ---- forwarding is detected

pub not_active : (t : Topology) → On (is_inactive t) → Off (is_active t)
not_active t h = grind arith

pub active_shut : (e q : Bool) → On (e || true || q)
active_shut e q = grind arith

pub edge_shut : (e a q : Bool) → On e → On (e || a || q)
edge_shut e a q h = grind arith

pub out_or_edge : (a t e : Bool) → On (a && (not t || e)) → On t → On e
out_or_edge a t e h k = grind arith

lit_by : (l f ing fing r : Bool) → On ((not fing || ing) && r) → Off ((ing && not l) || (fing && not f))
    → On (l || (not ing && not fing))
lit_by l f ing fing r h k = grind arith

-- between visits a port that shouldn't learn is discarding
pub lit : (x : PortState) → IsOrderly x → IsEven x → On (x.learn || is_discarding x)
lit x h k = lit_by x.learn x.forward x.learning x.forwarding _ h k

-- no change is to be passed on from a message, unless the port has to learn first
abbrev pub IsNoted : Fact
IsNoted x = On (is_inactive x.topology || (not x.received_topology_change && not x.received_notification))

-- the end of a visit
abbrev Ends : FlagTest → Fact
Ends core x = Off x.flush × IsEven x × Tested (shut core) x × IsNoted x

-- the beginning of a visit
abbrev Begins : (Bool → Bool → FlagTest) → Fact
Begins t x = Off x.flush × On (x.learn || is_discarding x) × Tested t x

-- the same of a port that has taken its role
abbrev pub Ended : FlagTest → Fact
Ended core x = IsFixed x × Ends core x

abbrev pub Begun : (Bool → Bool → FlagTest) → Fact
Begun t x = IsFixed x × Begins t x

spread_ends : (core : FlagTest) (k : Spread) (x : PortState) → On (fits k) → Ended core x
    → Ended core (spread_by k x)
spread_ends core Nothing x f h = h
spread_ends core Tells x f h = (spread-fixed Tells x h.0, h.1)
spread_ends core k x f h = no f

spread_begins : (t : Bool → Bool → FlagTest) (k : Spread) (x : PortState) → On (fits k) → Begun t x
    → Begun t (spread_by k x)
spread_begins t Nothing x f h = h
spread_begins t Tells x f h = (spread-fixed Tells x h.0, h.1)
spread_begins t k x f h = no f

abbrev Late : FlagTest → Fact
Late core x = IsEven x × Tested (shut core) x

-- the facts after Detected, TcClear, NotifiedTcn and NotifiedTc

abbrev Detects : FlagTest → Fact
Detects core x = Late core x × (On (is_learning x.topology) → Off (change.detected_guard x))

abbrev Clears : FlagTest → Fact
Clears core x =
    Late core x × (On (is_learning x.topology) → Off (x.received_topology_change || x.received_notification))

abbrev Notifies : FlagTest → Fact
Notifies core x = Clears core x × (On (is_active x.topology) → Off x.received_notification)

abbrev Noted : FlagTest → Fact
Noted core x = Late core x × IsNoted x

noted_by : (t : Topology) (a b : Bool) → (On (is_learning t) → Off (a || b)) → (On (is_active t) → Off b)
    → Off (is_active t && a) → On (is_inactive t || (not a && not b))
noted_by t a b h k off = grind arith

module _ (core : FlagTest) (start : Bool → Bool → FlagTest)
    (visits : (dark inactive active : Bool) (b : Bits) → On (b.learn || dark) → On (start inactive active b)
    → On (after_roles dark (due core inactive active) b)) (c n limit p : ℕ) where
  -- the visit goes on with these rules
  abbrev Goes : Fact → List Rule → Type 0
  Goes H list = Leads (Ended core) (Begun start) c n limit p (λ x. IsFixed x × H x) list (Ended core)

  -- a rule, and the rules after it up to the end of the visit
  go_on : {H : Fact} (K : Fact) {rule : Rule} {rest : List Rule} → Off (is_select rule)
      → ((s : Tree) (x : PortState) → IsFixed x → Off (asks rule s p x) → H x → K x)
      → ((s : Tree) (x : PortState) → IsFixed x → On (asks rule s p x) → H x → K (own rule (timing_in s) x))
      → Goes K rest → Goes H (rule ∷ rest)
  go_on K {rule} other rests fires later =
      next (Ended core) (Begun start) c n limit p fits (spread_ends core) (spread_begins start) (λ x. IsFixed x × K x)
      other (λ s x off d. (d.0, rests s x d.0 off d.1))
      (λ s x on d. (fixed-fits rule s p x on d.0, (fixed-goes rule s p x other on d.0, fires s x d.0 on d.1))) later

  -- m rules that concern none of the flags
  pass_over : (t : Case) (m : ℕ) {list : List Rule} → On (all_keep is_apart (take m list))
      → Goes (Before t) (drop m list) → Goes (Before t) list
  pass_over t m ok later =
      keep (Ended core) (Begun start) c n limit p fits (spread_ends core) (spread_begins start)
      (λ x. IsFixed x × Before t x) is_apart
      (λ rule s x other is on d. (
        fixed-fits rule s p x on d.0,
        (fixed-goes rule s p x other on d.0, apart t rule s p x is d.0 on d.1),
      )) m ok later

  abbrev last : Bool → Bool → FlagTest
  last inactive active = due core inactive active

  abbrev to_forward : Case
  to_forward dark inactive active = after_forward (last inactive active)

  abbrev to_learn : Case
  to_learn dark inactive active = after_learn (to_forward dark inactive active)

  abbrev to_discard : Case
  to_discard dark inactive active = after_discard (to_learn dark inactive active)

  abbrev to_retire : Case
  to_retire dark inactive active = after_retired (to_discard dark inactive active)

  abbrev to_sync : Case
  to_sync dark inactive active = after_synced dark (to_retire dark inactive active)

  abbrev to_edge : Case
  to_edge dark inactive active = after_edge (to_sync dark inactive active)

  abbrev Due : Fact
  Due x = Off x.flush × Tested last x

  abbrev Lit : Fact
  Lit x = Due x × IsEven x

  -- about to be detected
  abbrev Heard : Fact
  Heard x = IsEven x × Tested (λ inactive active b. shut core inactive active b || (b.forward && not inactive)) x

  flushed : Goes (Noted core) (drop 51 main_order)
  flushed =
      go_on (Noted core) refl (λ s x r off h. h)
      (λ s x r on h. timed (λ z. Noted core (record z { flush = true; propagate_topology_change = false }))
      (timing_in s)
      x (λ time new. h))
      (go_on (Noted core) refl (λ s x r off h. h) (λ s x r on h. h)
      (go_on (Ends core) refl (λ s x r off h. (off, h.0.0, h.0.1, h.1)) (λ s x r on h. (refl, h.0.0, h.0.1, h.1))
      (leads-end (Ended core) (Begun start) c n limit p)))

  notified : Goes (Clears core) (drop 49 main_order)
  notified =
      go_on (Notifies core) refl (λ s x r off h. (h, off_two (is_active x.topology) x.received_notification off))
      (λ s x r on h. timed (λ z. Notifies core (change.notified_at z)) (timing_in s) x
      (λ time new. ((h.0, λ l. refl), λ a. refl)))
      (go_on (Noted core) refl
      (λ s x r off h. (h.0.0, noted_by x.topology x.received_topology_change x.received_notification h.0.1 h.1 off))
      (λ s x r on h. (h.0.0, or_true (is_inactive x.topology))) flushed)

  cleared : Goes (Detects core) (drop 46 main_order)
  cleared =
      go_on (Clears core) refl (λ s x r off h. (h.0, λ l. grind (arith, off, l, h.1 l)))
      (λ s x r on h. (h.0, λ l. refl))
      (go_on (Clears core) refl (λ s x r off h. h)
      (λ s x r on h. ((h.0.0, λ e. grind (arith, on, in_tree x r e)), no))
      (go_on (Clears core) refl (λ s x r off h. h)
      (λ s x r on h. ((h.0.0, λ e. grind (arith, on, in_tree x r e)), λ l. refl)) notified))

  told : Goes Lit (drop 44 main_order)
  told =
      go_on Heard refl (λ s x r off h. (h.1, λ e. grind (arith, off, h.0.0, h.0.1 e)))
      (λ s x r on h. (h.1, λ e. grind (arith, on, h.0.1 e)))
      (go_on (Detects core) refl (λ s x r off h. ((h.0, λ e. grind (arith, in_tree x r e, off, h.1 e)), λ l. off))
      (λ s x r on h. timed (λ z. Detects core (record z { new_info = true })) (timing_in s)
      (record x { topology = topology.Active }) (λ time new. ((h.0, λ e. active_shut x.oper_edge _), no)))
      cleared)

  states_end : Goes Due (drop 41 main_order)
  states_end =
      go_on Due refl (λ s x r off h. h) (λ s x r on h. h) (go_on Due refl (λ s x r off h. h) (λ s x r on h. h)
      (go_on Lit refl (λ s x r off h. (h, off)) (λ s x r on h. (h, refl)) told))

  abbrev Last : Fact
  Last x = Before (λ dark. last) x

  roles_end : Goes Last (drop 36 main_order)
  roles_end = pass_over (λ dark. last) 5 refl states_end

  forward : Goes (Before to_learn) (drop 34 main_order)
  forward =
      go_on (Before to_forward) refl
      (λ s x r off h. (
        h.0,
        λ e. if_off (learns (bits_of x)) _ _
            (off_three (roles.acts_as_designated x) (not x.learn) (roles.may_go_on x) off (acts x r e)) (h.1 e),
      ))
      (λ s x r on h. (
        h.0,
        λ e. pick (to_forward (is_discarding x) (is_inactive x.topology) (is_active x.topology))
            (λ w. learnt w (bits_of x)) (forward_delay (timing_in s) x == 0) (if_on (learns (bits_of x)) _ _
            (on_three (roles.acts_as_designated x) (not x.learn) (roles.may_go_on x) on) (h.1 e)),
      ))
      (go_on Last refl
      (λ s x r off h. (
        h.0,
        λ e. if_off (forwards (bits_of x)) _ _
            (off_four (roles.acts_as_designated x) x.learn (not x.forward) (roles.may_go_on x) off (acts x r e))
            (h.1 e),
      ))
      (λ s x r on h. (
        h.0,
        λ e. pick (last (is_inactive x.topology) (is_active x.topology))
            (λ w. passing w (bits_of x)) x.send_rstp (if_on (forwards (bits_of x)) _ _
            (on_four (roles.acts_as_designated x) x.learn (not x.forward) (roles.may_go_on x) on) (h.1 e)),
      ))
      roles_end)

  discard : Goes (Before to_retire) (drop 32 main_order)
  discard =
      go_on (Before to_discard) refl
      (λ s x r off h. (
        h.0,
        λ e. if_off (x.recent_root_while == 0 && x.re_root) _ _
            (off_three (roles.acts_as_designated x) (x.recent_root_while == 0) x.re_root off (acts x r e)) (h.1 e),
      ))
      (λ s x r on h. (
        h.0,
        λ e. if_on (x.recent_root_while == 0 && x.re_root) _ _
            (on_three (roles.acts_as_designated x) (x.recent_root_while == 0) x.re_root on) (h.1 e),
      ))
      (go_on (Before to_learn) refl
      (λ s x r off h. (
        h.0,
        λ e. if_off (discards (bits_of x)) _ _ (off_four (roles.acts_as_designated x)
            (not x.oper_edge) (x.learn || x.forward) (roles.must_discard x) off (acts x r e)) (h.1 e),
      ))
      (λ s x r on h. (
        h.0,
        λ e. pick (to_learn (is_discarding x) (is_inactive x.topology) (is_active x.topology))
            (λ w. discarded w (bits_of x)) (forward_delay (timing_in s) x == 0) (if_on (discards (bits_of x)) _ _
            (on_four (roles.acts_as_designated x) (not x.oper_edge) (x.learn || x.forward) (roles.must_discard x) on)
            (h.1 e)),
      ))
      forward)

  visit_ends : Leads (Ended core) (Begun start) c n limit p (Begun start) main_rest (Ended core)
  visit_ends =
      leads-as (Ended core) (Begun start) c n limit p (λ x. IsFixed x × Before to_edge x)
      (λ x h. (
        h.0,
        (
          h.1.0,
          λ k. visits (is_discarding x) (is_inactive x.topology) (is_active x.topology) (bits_of x)
              h.1.1 (h.1.2 k),
        ),
      ))
      (pass_over to_edge 7 refl
      (go_on (Before to_sync) refl (λ s x r off h. (h.0, λ e. (parts (h.1 e)).0))
      (λ s x r on h. (h.0, λ e. (parts (h.1 e)).1))
      (go_on (Before to_sync) refl (λ s x r off h. h)
      (λ s x r on h. (h.0, λ e. clash (ap not (enabled x r.0 e)) (parts (parts on).0).1))
      (pass_over to_sync 21 refl
      (go_on (Before to_retire) refl
      (λ s x r off h. (
        h.0,
        λ e. if_off (syncs (is_discarding x) (bits_of x)) _ _ (off_two (roles.acts_as_designated x) _ off (acts x r e))
            (h.1 e),
      ))
      (λ s x r on h. (h.0, λ e. if_on (syncs (is_discarding x) (bits_of x)) _ _ (parts on).1 (h.1 e)))
      discard)))))

  pub visit-ends : (g : Going) → Stage c n (Zone (Ended core) (Begun start) (Begun start) p) limit g
      → Stage c n (Zone (Ended core) (Ended core) (Begun start) p) limit (tries_all main_rest p limit g)
  visit-ends = visit_ends.walk
