-- The rules of roles and states in a visit of a port, on six of its flags, whatever its timers, its agreement and its
-- edge are.
use Rattle.rstp_run.proofs.Basics.{Bools, Off, On, parts}
use Rattle.rstp_run.proofs.Inputs.{inputs, offers, wait}
use Rattle.rstp_run.proofs.LowersRoles.{not_held, on_both, retired_held}
use Rattle.rstp_run.proofs.Measure.{is_held}
use Rattle.rstp_run.proofs.Names.{ap, arith, asks, Bool, edge_delay, false, if◌then◌else◌, is_designated, not}
use Rattle.rstp_run.proofs.Names.{PortState, Role, RoleRule, refl, StateRule, sym, Tree, timing_in, true, ℕ, ◌&&◌, ◌+◌}
use Rattle.rstp_run.proofs.Names.{◌==◌, ◌||◌, ◌≡◌, ◌≤◌}
use Rattle.rstp_run.proofs.Own.{own_role}
use Rattle.rstp_run.proofs.RoleKinds.{as-designated, kind, role-kind, rule_kind}
use Rattle.rstp_run.proofs.Totals.{if_so}
use Rattle.rstp_run.proofs.Names.role
use Rattle.rstp_run.proofs.Names.role_rule
use Rattle.rstp_run.proofs.Names.roles
use Rattle.rstp_run.proofs.Names.rules
use Rattle.rstp_run.proofs.Names.state_rule

-- held is true of a designated port that a request to sync, or to leave the old root, holds back
pub record Gait : Type 0 where
  pub learn : Bool
  pub forward : Bool
  pub learning : Bool
  pub forwarding : Bool
  pub disputed : Bool
  pub held : Bool

abbrev gait_with : Bool → PortState → Gait
gait_with h x = record {
  learn = x.learn;
  forward = x.forward;
  learning = x.learning;
  forwarding = x.forwarding;
  disputed = x.disputed;
  held = h;
}

abbrev pub gait_of : PortState → Gait
gait_of x = gait_with (is_designated x.selected_role && is_held x) x

abbrev pub gait : Bools 6 Gait
gait a b c d e f = record { learn = a; forward = b; learning = c; forwarding = d; disputed = e; held = f }

abbrev pub dark : Gait → Bool
dark c = not c.learning && not c.forwarding

-- a number of these flags
abbrev pub Cost : Type 0
Cost = Gait → ℕ

-- the rule may be enabled at a port of its role
abbrev pub may : RoleRule → Gait → Bool
may role_rule.DisabledPort c = dark c
may role_rule.RootLearn c = not c.learn
may role_rule.RootForward c = c.learn && not c.forward
may role_rule.DesignatedDiscard c = (c.learn || c.forward) && (c.held || c.disputed)
may role_rule.DesignatedLearn c = not c.learn && not c.held
may role_rule.DesignatedForward c = c.learn && not c.forward && not c.held
may role_rule.Alternate c = dark c
may _ c = true

abbrev pub stepped : RoleRule → Gait → Gait
stepped role_rule.Disable c = record c { learn = false; forward = false }
stepped role_rule.RootLearn c = record c { learn = true }
stepped role_rule.RootForward c = record c { forward = true }
stepped role_rule.Synced c = record c { held = false }
stepped role_rule.DesignatedDiscard c = record c { learn = false; forward = false; disputed = false }
stepped role_rule.DesignatedLearn c = record c { learn = true }
stepped role_rule.DesignatedForward c = record c { forward = true }
stepped role_rule.Block c = record c { learn = false; forward = false }
stepped _ c = c

-- a port that is disputed pays once for its DesignatedDiscard, and a port that doesn't propose for Propose
abbrev pub price : RoleRule → Cost
price role_rule.Propose c = 0
price role_rule.DesignatedDiscard c = if c.disputed then 0 else 1
price _ c = 1

abbrev pub turns_on : StateRule → Gait → Bool
turns_on state_rule.ToLearning c = c.learn && not c.learning
turns_on state_rule.ToForwarding c = c.learning && c.forward && not c.forwarding
turns_on state_rule.ToDiscarding c = (c.learning && not c.learn) || (c.forwarding && not c.forward)

abbrev pub turned_on : StateRule → Gait → Gait
turned_on state_rule.ToLearning c = record c { learning = true }
turned_on state_rule.ToForwarding c = record c { forwarding = true }
turned_on state_rule.ToDiscarding c = record c { learning = false; forwarding = false }

-- the flags of a port whose selected role isn't Designated
aside : (r : Role) (k : ℕ) → kind r ≡ k → Off (k == 2) → Off (is_designated r)
aside role.Designated k h other = absurd (let no = rw (← h) at other in cc)
aside _ k h other = refl

module _ (x : PortState) where
  -- what a firing does: the flags after it, and its price
  pub record Steps (rule : RoleRule) (y : PortState) : Type 0 where
    pub on : On (may rule (gait_of x))
    pub to : gait_of y ≡ stepped rule (gait_of x)
    pub paid : inputs y + 1 ≤ inputs x + price rule (gait_of x)
    pub waits : wait y ≡ wait x
    pub same_role : y.selected_role ≡ x.selected_role

  -- a rule of another role than Designated that doesn't change the number of inputs
  outside : {y : PortState} {rule : RoleRule} {k : ℕ} → kind x.selected_role ≡ k → Off (k == 2)
      → On (may rule (gait_of x)) → price rule (gait_of x) ≡ 1 → y.selected_role ≡ x.selected_role
      → wait y ≡ wait x → inputs y ≡ inputs x → gait_with false y ≡ stepped rule (gait_with false x) → Steps rule y
  outside {k = k} is other on price same waits ins h = record {
    on = on;
    to = rw (same, aside x.selected_role k is other) h;
    paid = omega arith;
    waits = waits;
    same_role = same;
  }

  inside : {y : PortState} {rule : RoleRule} → kind x.selected_role ≡ 2 → On (may rule (gait_of x))
      → inputs y + 1 ≤ inputs x + price rule (gait_of x) → y.selected_role ≡ x.selected_role → wait y ≡ wait x
      → gait_with (is_held y) y ≡ stepped rule (gait_with (is_held x) x) → Steps rule y
  inside is on paid same waits h = record {
    on = on;
    to = rw (same, as-designated x.selected_role is) h;
    paid = paid;
    waits = waits;
    same_role = same;
  }

and_off : (b : Bool) → Off (b && false)
and_off b = grind arith

pub pays : (p e d : Bool) → On (not p) → if_so 1 (d && not e) + 1 ≤ offers p e
pays p e d h = grind arith

discounts : (d : Bool) → 1 ≤ if_so 1 d + (if d then 0 else 1)
discounts d = grind arith

held_off : (d h : Bool) → Off h → On (not (d && h))
held_off d h k = grind arith

-- each rule at its port
module _ (s : Tree) (p : ℕ) (x : PortState) where
  goes_on : On (roles.may_go_on x) → On (not (is_designated x.selected_role && is_held x))
  goes_on h =
      held_off (is_designated x.selected_role) (is_held x)
      (not_held x.sync x.synced x.re_root (x.recent_root_while == 0) (parts (parts h).0).0
      (parts h).1)

  pub steps : (rule : RoleRule) → On (asks (rules.Role rule) s p x) → kind x.selected_role ≡ rule_kind rule
      → Steps x rule (own_role rule (timing_in s) x)
  steps role_rule.DisabledPort g k =
      outside x k refl (parts (parts g).0).1 refl refl refl refl refl
  steps role_rule.RootLearn g k =
      outside x k refl (parts (parts g).0).1 refl refl refl refl refl
  steps role_rule.RootForward g k =
      let first = (parts g).0 in
      outside x k refl (on_both x.learn (not x.forward) (parts (parts first).0).1
      (parts first).1) refl refl refl refl refl
  steps role_rule.Designated g k = inside x k refl (omega arith) refl refl refl
  steps role_rule.Propose g k =
      inside x k refl (omega (
        arith,
        pays x.proposing x.enabled (not (edge_delay (timing_in s) x == 3))
            (parts (parts g).0).1,
      )) refl refl refl
  steps role_rule.Synced g k =
      inside x k refl (omega arith) refl refl
      (ap (λ h. gait_with h (roles.synced_effect x)) (and_off x.re_root))
  steps role_rule.Retired g k =
      let none = (parts (parts g).0).1 in
      inside x k refl (omega arith) refl refl (ap (λ h. gait_with h x)
      (sym (retired_held (x.sync && not x.synced) x.re_root (x.recent_root_while == 0) none)))
  steps role_rule.DesignatedDiscard g k =
      let held = (parts g).1 in
      inside x k (on_both (x.learn || x.forward) _ (parts (parts g).0).1
      (rw (as-designated x.selected_role k) held)) (omega (arith, discounts x.disputed)) refl refl refl
  steps role_rule.DesignatedLearn g k =
      inside x k (on_both (not x.learn) _ (parts (parts g).0).1
      (goes_on (parts g).1)) (omega arith) refl refl refl
  steps role_rule.DesignatedForward g k =
      let first = (parts g).0 in
      inside x k (on_both (x.learn && not x.forward) _
      (on_both x.learn (not x.forward) (parts (parts first).0).1
      (parts first).1) (goes_on (parts g).1)) (omega arith) refl refl refl
  steps role_rule.Alternate g k =
      outside x k refl (parts (parts g).0).1 refl refl refl refl refl
  steps _ g k = outside x k refl refl refl refl refl refl refl

pub role-waits : (rule : RoleRule) (s : Tree) (p : ℕ) (x : PortState) → On (asks (rules.Role rule) s p x)
    → wait (own_role rule (timing_in s) x) ≡ wait x
role-waits rule s p x g = (steps s p x rule g (role-kind rule s p x g)).waits
