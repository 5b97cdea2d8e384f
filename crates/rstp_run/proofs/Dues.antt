-- What a port that has taken its role may still fire, apart from topology change, while no port requests another to
-- sync or to leave the old root: a number that each firing at the port lowers.
use Rattle.rstp_roles.specs.AllPorts.{all_synced}
use Rattle.rstp_run.proofs.Basics.{clash, Effect, Number, On, parts}
use Rattle.rstp_run.proofs.Fixed.{fits, fixed-fits, IsFixed}
use Rattle.rstp_run.proofs.Inputs.{inputs, moves-on, moving, moving-few, moving-unheard}
use Rattle.rstp_run.proofs.LowersRoles.{on_both, one_agrees, other_role, same_number, unless, waiting-blocked}
use Rattle.rstp_run.proofs.LowersRoles.{waiting-disabled}
use Rattle.rstp_run.proofs.Measure.{waiting, waiting-le}
use Rattle.rstp_run.proofs.Names.{arith, asks, Bool, edge_delay, forward_delay, has_role, inl, inr, is_designated}
use Rattle.rstp_run.proofs.Names.{is_disabled, is_root, MigrationRule, migration_asks, migration_does, no, not}
use Rattle.rstp_run.proofs.Names.{not-true, PortState, Role, RoleRule, refl, StateRule, same_role, state_asks}
use Rattle.rstp_run.proofs.Names.{state_does, Timing, Tree, timing_in, ℕ, ◌&&◌, ◌*◌, ◌+◌, ◌<◌, ◌==◌, ◌||◌, ◌≡◌, ◌≤◌}
use Rattle.rstp_run.proofs.Names.{◌⊎◌}
use Rattle.rstp_run.proofs.Own.{own_role, spread_of}
use Rattle.rstp_run.proofs.Paces.{pays}
use Rattle.rstp_run.proofs.Poses.{place, place-few, pose_of, work}
use Rattle.rstp_run.proofs.RoleKinds.{as-root, as_blocked, as_disabled, kind, role-kind, rule_kind, same-test}
use Rattle.rstp_run.proofs.Totals.{if_so, if_so-le, if_so-on}
use Rattle.rstp_run.proofs.Names.migration_rule
use Rattle.rstp_run.proofs.Names.receiving
use Rattle.rstp_run.proofs.Names.role
use Rattle.rstp_run.proofs.Names.role_rule
use Rattle.rstp_run.proofs.Names.roles
use Rattle.rstp_run.proofs.Names.rules
use Rattle.rstp_run.proofs.Names.state_rule
use Rattle.rstp_run.proofs.Poses as poses

-- of a designated port, of the root port, and of any other port
abbrev by : Role → ℕ → ℕ → ℕ → ℕ
by role.Designated a b c = a
by role.Root a b c = b
by _ a b c = c

abbrev of_root : Timing → Number
of_root timing x =
    if_so 1 (not (x.recent_root_while == timing.forward_delay)) + if_so 1 x.re_root + if_so 1 x.proposed
    + if_so 1 (not x.agree)

abbrev of_other : Timing → Number
of_other timing x =
    if_so 1 (((x.sync || x.re_root) || not x.synced) || not (x.recent_root_while == 0))
    + waiting x.selected_role (x.forward_delay_while == timing.max_age)
    (x.forward_delay_while == forward_delay timing x)
    + moving x.migration (x.migration_delay_while == 3) x.received_stp + if_so 1 x.proposed + if_so 1 (not x.agree)
    + if_so 1 (not (x.recent_backup_while == 2 * timing.hello))

abbrev by_role : Timing → PortState → ℕ → ℕ
by_role timing x = by x.selected_role (place (pose_of x)) (of_root timing x)

abbrev pub late : Timing → Number
late timing x = work x.learn x.forward x.learning x.forwarding + by_role timing x (of_other timing x)

by-designated : (r : Role) (a b c : ℕ) → kind r ≡ 2 → by r a b c ≡ a
by-designated r a b c h = grind arith

by-root : (r : Role) (a b c : ℕ) → kind r ≡ 1 → by r a b c ≡ b
by-root r a b c h = grind arith

by-other : (r : Role) (a b c : ℕ) → (kind r ≡ 0) ⊎ (kind r ≡ 3) → by r a b c ≡ c
by-other r a b c h = grind arith

by-less : (r : Role) (a b c d : ℕ) → d ≤ c → by r a b d ≤ by r a b c
by-less r a b c d h = grind arith

by-few : (r : Role) (a b c m : ℕ) → a ≤ m → b ≤ m → c ≤ m → by r a b c ≤ m
by-few r a b c m h k l = grind arith

pub late-few : (timing : Timing) (x : PortState)
    → late timing x ≤ 8 + work x.learn x.forward x.learning x.forwarding
late-few timing x =
    let root : of_root timing x ≤ 8 = omega (arith, if_so-le) in
    let other : of_other timing x ≤ 8 = omega (arith, if_so-le, waiting-le, moving-few) in
    omega (
      arith,
      by-few x.selected_role (place (pose_of x)) (of_root timing x) (of_other timing x) 8
          (place-few (pose_of x)) root other,
    )

-- ---- rules that don't raise it

module _ (timing : Timing) (x : PortState) where
  less : (does : Effect) → of_other timing (does x) ≤ of_other timing x
      → by_role timing x (of_other timing (does x)) ≤ by_role timing x (of_other timing x)
  less does =
      by-less x.selected_role (place (pose_of x)) (of_root timing x) (of_other timing x) (of_other timing (does x))

  pub discard-keeps : late timing (receiving.discard_effect x) ≤ late timing x
  discard-keeps = omega (arith, less receiving.discard_effect (omega (arith, moving-unheard)))

  -- a new delay of the role costs 1, and the step 1 less
  pub migration-keeps : (rule : MigrationRule) → On (migration_asks rule x)
      → late timing (migration_does rule x) ≤ late timing x
  migration-keeps migration_rule.Recheck h =
      omega (
        arith,
        less (migration_does migration_rule.Recheck)
            (omega (arith, moves-on migration_rule.Recheck x h, waiting-le)),
      )
  migration-keeps rule h =
      omega (arith, less (migration_does rule) (omega (arith, moves-on rule x h, waiting-le)))

-- ---- states

pub state-falls : (timing : Timing) (rule : StateRule) (x : PortState) → On (state_asks rule x)
    → late timing (state_does rule x) < late timing x
state-falls timing state_rule.ToLearning x h =
    omega (arith, poses.to-learning x.learn x.forward x.learning x.forwarding h)
state-falls timing state_rule.ToForwarding x h =
    omega (arith, poses.to-forwarding x.learn x.forward x.learning x.forwarding h)
state-falls timing state_rule.ToDiscarding x h =
    omega (arith, poses.to-discarding x.learn x.forward x.learning x.forwarding h)

-- the rule of the port lowers the number
abbrev Falls : Timing → PortState → Effect → Type 0
Falls timing x does = inputs (does x) + late timing (does x) < inputs x + late timing x

-- a port that has its selected role doesn't take another
pub taken-yet : (test : Role → Bool) (r s : Role) → On (same_role r s) → (m : Bool) → On (m && test s && not (test r))
    → ⊥
taken-yet test r s same m g =
    clash (other_role test r s (parts (parts g).0).1 (not-true (test r) (parts g).1)) same

renewed : (r z : Bool) → On r → On (not r || z) → On z
renewed r z h k = grind arith

-- of a port that comes to rest, nothing is left but its delay
comes_to_rest : (n : ℕ) (x : PortState) → On (roles.is_unrested x n)
    → 1 ≤ if_so 1 (not (x.forward_delay_while == n))
    + if_so 1 (((x.sync || x.re_root) || not x.synced) || not (x.recent_root_while == 0))
comes_to_rest n x h = grind arith

at_rest : (n : ℕ) → if_so 1 (not (n == n)) ≡ 0
at_rest n = unless 1 _ (same_number n)

module _ (s : Tree) (p : ℕ) (x : PortState) where
  abbrev time : Timing
  time = timing_in s

  -- the cost that is left, if the port's kind of role counts it
  abbrev left_with : Number → Number
  left_with counted y = inputs y + (work y.learn y.forward y.learning y.forwarding + counted y)

  -- the rule keeps the port's role, and lowers the number of that kind of role
  abbrev Lowers : Number → Effect → Type 0
  Lowers counted does =
      (does x).selected_role ≡ x.selected_role → left_with counted (does x) < left_with counted x → Falls time x does

  lowers : (counted : Number) (does : Effect)
      → ((y : PortState) → y.selected_role ≡ x.selected_role
      → by_role time y (of_other time y) ≡ counted y) → Lowers counted does
  lowers counted does is same less =
      omega (arith, is x refl, is (does x) same, less)

  designated_falls : (does : Effect) → kind x.selected_role ≡ 2 → Lowers (λ y. place (pose_of y)) does
  designated_falls does k =
      lowers (λ y. place (pose_of y)) does (λ y same. by-designated y.selected_role (place (pose_of y))
      (of_root time y) (of_other time y) (rw same k))

  root_falls : (does : Effect) → kind x.selected_role ≡ 1 → Lowers (of_root time) does
  root_falls does k =
      lowers (of_root time) does (λ y same. by-root y.selected_role (place (pose_of y)) (of_root time y)
      (of_other time y) (rw same k))

  other_falls : (does : Effect) → (kind x.selected_role ≡ 0) ⊎ (kind x.selected_role ≡ 3)
      → Lowers (of_other time) does
  other_falls does k =
      lowers (of_other time) does (λ y same. by-other y.selected_role (place (pose_of y)) (of_root time y)
      (of_other time y) (rw same k))

  falls : (rule : RoleRule) → IsFixed x → On (asks (rules.Role rule) s p x) → kind x.selected_role ≡ rule_kind rule
      → On (fits (spread_of (rules.Role rule))) → Falls time x (own_role rule time)
  falls role_rule.Disable r g k f = absurd (taken-yet is_disabled x.role x.selected_role r.1.0 _ g)
  falls role_rule.DisabledPort r g k f =
      let selected = as_disabled x.selected_role k in
      other_falls (roles.disabled_port_effect time) (inl k) refl
      (omega (arith, comes_to_rest time.max_age x (parts g).1, at_rest time.max_age, waiting-disabled))
  falls role_rule.Root r g k f =
      let role = same-test is_root x.role x.selected_role r.1.0 (as-root x.selected_role k) in
      root_falls (roles.root_effect time) k refl (omega (
        arith,
        if_so-on 1 (not (x.recent_root_while == time.forward_delay))
            (renewed _ _ role (parts g).1),
        at_rest time.forward_delay,
      ))
  falls role_rule.RootProposed r g k f = no f
  falls role_rule.RootAgreed r g k f =
      root_falls roles.root_agreed_effect k refl
      (omega (arith, one_agrees 0 _ x.agree x.proposed (parts g).1))
  falls role_rule.Reroot r g k f = no f
  falls role_rule.Rerooted r g k f =
      root_falls roles.rerooted_effect k refl (omega (arith, if_so-on 1 x.re_root (parts g).1))
  falls role_rule.RootLearn r g k f =
      root_falls (roles.root_learn_effect time) k refl (omega (
        arith,
        poses.begins-learning x.learn x.forward x.learning x.forwarding
            (parts (parts g).0).1,
      ))
  falls role_rule.RootForward r g k f =
      let first = (parts g).0 in
      root_falls roles.root_forward_effect k refl (omega (
        arith,
        poses.begins-forwarding x.learn x.forward x.learning x.forwarding
            (on_both x.learn _ (parts (parts first).0).1
            (parts first).1),
      ))
  falls role_rule.Designated r g k f = absurd (taken-yet is_designated x.role x.selected_role r.1.0 _ g)
  falls role_rule.Propose r g k f =
      designated_falls (roles.propose_effect time) k refl
      (omega (arith, pays x.proposing x.enabled (not (edge_delay time x == 3)) (parts (parts g).0).1))
  falls role_rule.Synced r g k f =
      designated_falls roles.synced_effect k refl (omega (arith, poses.synced-lowers x g))
  falls role_rule.Retired r g k f =
      designated_falls roles.retired_effect k refl (omega (arith, poses.retired-lowers x g))
  falls role_rule.DesignatedDiscard r g k f =
      designated_falls (roles.designated_discard_effect time) k refl
      (omega (arith, poses.discard-lowers x g, if_so-le))
  falls role_rule.DesignatedLearn r g k f =
      designated_falls (roles.designated_learn_effect time) k refl (omega (arith, poses.learn-lowers x g))
  falls role_rule.DesignatedForward r g k f =
      designated_falls roles.designated_forward_effect k refl (omega (arith, poses.forward-lowers x g))
  falls role_rule.Block r g k f =
      clash (not-true (has_role x) (parts g).1) r.1.0
  falls role_rule.Alternate r g k f =
      let selected = as_blocked x.selected_role k in
      other_falls (roles.alternate_effect time) (inr k) refl
      (omega (
        arith,
        comes_to_rest (forward_delay time x) x (parts g).1,
        at_rest (forward_delay time x),
        waiting-blocked,
      ))
  falls role_rule.AlternateProposed r g k f = no f
  falls role_rule.AlternateAgreed r g k f =
      other_falls roles.alternate_agreed_effect (inr k) refl
      (omega (arith, one_agrees 0 _ x.agree x.proposed (parts g).1))
  falls role_rule.Backup r g k f =
      other_falls (roles.backup_effect time) (inr k) refl
      (omega (arith, if_so-on 1 (not (x.recent_backup_while == 2 * time.hello)) (parts g).1, at_rest (2 * time.hello)))

  pub role-falls : (rule : RoleRule) → IsFixed x → On (asks (rules.Role rule) s p x)
      → Falls time x (own_role rule time)
  role-falls rule r g = falls rule r g (role-kind rule s p x g) (fixed-fits (rules.Role rule) s p x g r)
