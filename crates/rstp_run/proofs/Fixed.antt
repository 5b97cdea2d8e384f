-- Ports that have taken their roles while information rests. No rule asks them to sync or to leave the old root.
use Rattle.rstp_run.proofs.Basics.{Fact, Off, On, parts}
use Rattle.rstp_run.proofs.Kept.{is_down}
use Rattle.rstp_run.proofs.Measure.{has_to_turn}
use Rattle.rstp_run.proofs.Names.{arith, asks, Bool, false, is_designated, is_disabled, is_out, is_root, not, or_right}
use Rattle.rstp_run.proofs.Names.{PortState, Role, Rule, refl, Tree, true, ℕ, ◌||◌, ◌≡◌}
use Rattle.rstp_run.proofs.Own.{Nothing, Spread, Stable, spread_by, spread_of, Tells}
use Rattle.rstp_run.proofs.RoleKinds.{as-designated, kind, role-kind, same-test}
use Rattle.rstp_run.proofs.Steady.{IsSteady, steady-acts}
use Rattle.rstp_run.proofs.Takes.{designated-acts, IsPlaced, spread-goes, steady-goes}
use Rattle.rstp_run.proofs.Names.change
use Rattle.rstp_run.proofs.Names.role_rule
use Rattle.rstp_run.proofs.Names.roles
use Rattle.rstp_run.proofs.Names.rules
use Rattle.rstp_run.proofs.Names.topology_rule

-- steady, and placed
abbrev pub IsFixed : Fact
IsFixed x = IsSteady x × IsPlaced x

pub acts : (x : PortState) → IsFixed x → kind x.selected_role ≡ 2 → On (roles.acts_as_designated x)
acts x r e = designated-acts x r.0 e r.1.0

pub in_tree : (x : PortState) → IsFixed x → kind x.selected_role ≡ 2 → On (change.is_in_tree x)
in_tree x r e =
    or_right (is_root x.role) (is_designated x.role)
    (same-test is_designated x.role x.selected_role r.1.0 (as-designated x.selected_role e))

up : (e o d s : Bool) (r : Role) → Off (has_to_turn e o) → On (not o || d) → (On d → On s → On (is_disabled r)) → On s
    → kind r ≡ 2 → On e
up e o d s r h k f t z = grind arith

-- a designated port is up
pub enabled : (x : PortState) → IsSteady x → kind x.selected_role ≡ 2 → On x.enabled
enabled x h e =
    up x.enabled _ _ x.selected x.selected_role h.0.0.0.2 h.1.1 h.2.2
    (parts (steady-acts x h)).0 e

-- a firing marks other ports to pass on a change at most; it asks none to sync or to leave the old root
abbrev pub fits : Spread → Bool
fits Nothing = true
fits Tells = true
fits _ = false

pub fixed-fits : (rule : Rule) (s : Tree) (p : ℕ) (x : PortState) → On (asks rule s p x) → IsFixed x
    → On (fits (spread_of rule))
fixed-fits (rules.Role role_rule.RootProposed) s p x g r =
    let k = r.1.1 (role-kind role_rule.RootProposed s p x g) in absurd (grind (arith, g, k))
fixed-fits (rules.Role role_rule.AlternateProposed) s p x g r =
    let k = r.1.2 (role-kind role_rule.AlternateProposed s p x g) in absurd (grind (arith, g, k))
fixed-fits (rules.Role role_rule.Reroot) s p x g r =
    let k = r.1.1 (role-kind role_rule.Reroot s p x g) in absurd (grind (arith, g, k))
fixed-fits (rules.Topology topology_rule.Detected) s p x g r = refl
fixed-fits rule s p x g r = refl

pub fixed-goes : Stable IsFixed
fixed-goes rule s p x other on r = let goes = steady-goes rule s p x other on r.0 in (goes.0, goes.2 r.1)

pub spread-fixed : (k : Spread) (x : PortState) → IsFixed x → IsFixed (spread_by k x)
spread-fixed k x r = let goes = spread-goes k x r.0 in (goes.0, goes.2 r.1)
