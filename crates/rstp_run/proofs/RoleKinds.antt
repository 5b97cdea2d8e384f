-- Four kinds of roles: Disabled, Root, Designated, and Alternate or Backup. Each rule of roles belongs to one kind.
use Rattle.rstp_run.proofs.Basics.{On, parts}
use Rattle.rstp_run.proofs.LowersRoles.{blocked_too}
use Rattle.rstp_run.proofs.Names.{arith, asks, Bool, is_blocked, is_designated, is_disabled, is_root, PortState, Role}
use Rattle.rstp_run.proofs.Names.{RoleRule, same_role, Tree, ℕ, ◌<◌, ◌≡◌}
use Rattle.rstp_state.specs.Port.{is_backup}
use Rattle.rstp_run.proofs.Names.role
use Rattle.rstp_run.proofs.Names.role_rule
use Rattle.rstp_run.proofs.Names.roles
use Rattle.rstp_run.proofs.Names.rules

abbrev pub kind : Role → ℕ
kind role.Disabled = 0
kind role.Root = 1
kind role.Designated = 2
kind role.Alternate = 3
kind role.Backup = 3

abbrev pub rule_kind : RoleRule → ℕ
rule_kind role_rule.Disable = 0
rule_kind role_rule.DisabledPort = 0
rule_kind role_rule.Root = 1
rule_kind role_rule.RootProposed = 1
rule_kind role_rule.RootAgreed = 1
rule_kind role_rule.Reroot = 1
rule_kind role_rule.Rerooted = 1
rule_kind role_rule.RootLearn = 1
rule_kind role_rule.RootForward = 1
rule_kind role_rule.Block = 3
rule_kind role_rule.Alternate = 3
rule_kind role_rule.AlternateProposed = 3
rule_kind role_rule.AlternateAgreed = 3
rule_kind role_rule.Backup = 3
rule_kind _ = 2

module _ (r : Role) where
  of_disabled : On (is_disabled r) → kind r ≡ 0
  of_disabled h = grind arith

  of-root : On (is_root r) → kind r ≡ 1
  of-root h = grind arith

  pub of-designated : On (is_designated r) → kind r ≡ 2
  of-designated h = grind arith

  of_blocked : On (is_blocked r) → kind r ≡ 3
  of_blocked h = grind arith

  of_backup : On (is_backup r) → kind r ≡ 3
  of_backup h = grind arith

acts_root : (x : PortState) → On (roles.acts_as_root x) → kind x.selected_role ≡ 1
acts_root x g = of-root x.selected_role (parts g).1

acts_designated : (x : PortState) → On (roles.acts_as_designated x) → kind x.selected_role ≡ 2
acts_designated x g = of-designated x.selected_role (parts g).1

acts_blocked : (x : PortState) → On (roles.acts_as_blocked x) → kind x.selected_role ≡ 3
acts_blocked x g =
    of_blocked x.selected_role (blocked_too x.role x.selected_role (parts (parts g).0).1
    (parts g).1)

-- a rule of roles fires only at a port whose selected role is of its kind
pub role-kind : (rule : RoleRule) (s : Tree) (p : ℕ) (x : PortState) → On (asks (rules.Role rule) s p x)
    → kind x.selected_role ≡ rule_kind rule
role-kind rule s p x g = go rule g
  where
    go : (rule : RoleRule) → On (asks (rules.Role rule) s p x) → kind x.selected_role ≡ rule_kind rule
    go role_rule.Disable g =
        of_disabled x.selected_role (parts (parts g).0).1
    go role_rule.DisabledPort g =
        of_disabled x.selected_role (parts (parts (parts g).0).0).1
    go role_rule.Root g =
        of-root x.selected_role (parts (parts g).0).1
    go role_rule.RootAgreed g = acts_root x (parts g).0
    go role_rule.RootForward g = acts_root x (parts (parts (parts g).0).0).0
    go role_rule.Designated g =
        of-designated x.selected_role (parts (parts g).0).1
    go role_rule.Propose g = acts_designated x (parts (parts (parts (parts g).0).0).0).0
    go role_rule.Synced g = acts_designated x (parts g).0
    go role_rule.Retired g = acts_designated x (parts (parts g).0).0
    go role_rule.DesignatedDiscard g = acts_designated x (parts (parts (parts g).0).0).0
    go role_rule.DesignatedLearn g = acts_designated x (parts (parts g).0).0
    go role_rule.DesignatedForward g = acts_designated x (parts (parts (parts g).0).0).0
    go role_rule.Block g =
        of_blocked x.selected_role (parts (parts g).0).1
    go role_rule.Alternate g = acts_blocked x (parts (parts g).0).0
    go role_rule.AlternateProposed g = acts_blocked x (parts (parts g).0).0
    go role_rule.AlternateAgreed g = acts_blocked x (parts g).0
    go role_rule.Backup g = of_backup x.selected_role (parts (parts g).0).1
    go _ g = acts_root x (parts (parts g).0).0

pub same-test : (test : Role → Bool) (r s : Role) → On (same_role r s) → On (test s) → On (test r)
same-test test r s same h = grind arith

module _ (r s : Role) where
  pub both_disabled : On (is_disabled r) → On (is_disabled s) → On (same_role r s)
  both_disabled h k = grind arith

  pub both_root : On (is_root r) → On (is_root s) → On (same_role r s)
  both_root h k = grind arith

  pub both_designated : On (is_designated r) → On (is_designated s) → On (same_role r s)
  both_designated h k = grind arith

module _ (r : Role) where
  pub as_disabled : kind r ≡ 0 → On (is_disabled r)
  as_disabled h = grind arith

  pub as-root : kind r ≡ 1 → On (is_root r)
  as-root h = grind arith

  pub as-designated : kind r ≡ 2 → On (is_designated r)
  as-designated h = grind arith

  pub as_blocked : kind r ≡ 3 → On (is_blocked r)
  as_blocked h = grind arith

  pub kind_lt : kind r < 4
  kind_lt = grind arith
