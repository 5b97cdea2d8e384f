-- From the third pass of an event on information rests: no message waits, no role is to be selected, and nothing is to
-- be taken over.
use Rattle.rstp_run.proofs.Basics.{clash, Fact, Off, On, parts}
use Rattle.rstp_run.proofs.Kept.{IsSoundOf}
use Rattle.rstp_run.proofs.Names.{arith, Bool, InformationRule, information_asks, is_out, may_act, no, not, PortState}
use Rattle.rstp_run.proofs.Names.{refl, ◌&&◌, ◌||◌}
use Rattle.rstp_run.proofs.Quiet.{Still, still_of}
use Rattle.rstp_run.proofs.Ready.{IsReadyOf}
use Rattle.rstp_run.proofs.Visits.{IsCalmOf, IsTaken}
use Rattle.rstp_run.proofs.Names.info
use Rattle.rstp_run.proofs.Names.information_rule
use Rattle.rstp_run.proofs.Visits as levels

-- no message waits, no role is to be selected, nothing is to be taken over, and nothing is too old
abbrev pub IsSteadyOf : Still → Type 0
IsSteadyOf x = IsCalmOf x × IsSoundOf x.known × IsReadyOf x.known × (Off x.known.update_info)

abbrev pub IsSteady : Fact
IsSteady x = IsSteadyOf (still_of x)

-- the same, but something may still be to be taken over
abbrev pub IsBaseOf : Still → Type 0
IsBaseOf x = IsCalmOf x × IsSoundOf x.known × IsReadyOf x.known

abbrev pub IsBase : Fact
IsBase x = IsBaseOf (still_of x)

free_of : (o s u r : Bool) → Off (not o && s && u) → On (s || r) → Off r
    → On (not u || (not s || not o)) → Off u
free_of o s u r g h n k = grind arith

-- after Update nothing is to be taken over
pub rests-steady : (x : PortState) → Off (info.update_guard x) → IsBase x → IsSteady x
rests-steady x off a = (
  a.0,
  a.1,
  a.2,
  free_of _ x.selected x.update_info x.reselect off a.0.0.0.3 a.0.1
      a.1.2,
)

pub update-steady : (x : PortState) → On (info.update_guard x) → IsBase x → IsSteady (info.update_effect x)
update-steady x on a = (
  ((levels.update-taken x on a.0.0.0, no), a.0.1),
  (a.1.0, refl, refl),
  (no, λ s u. no, no),
  refl,
)

-- without a pending message only Update and Aged fire
pub informs-taken : (P : InformationRule → Type 0) (rule : InformationRule) (x : PortState) → IsTaken x
    → (On (info.update_guard x) → P information_rule.Update) → (On (info.aged_guard x) → P information_rule.Aged)
    → On (information_asks rule x) → P rule
informs-taken P information_rule.Update x h update aged g = update g
informs-taken P information_rule.Aged x h update aged g = aged g
informs-taken _ rule x h update aged g =
    absurd (levels.idle-off rule x refl h g)

pub steady-informs : (rule : InformationRule) (x : PortState) → IsSteady x → On (information_asks rule x) → ⊥
steady-informs rule x h =
    informs-taken (λ r. ⊥) rule x h.0.0.0 (λ g. clash h.3 (parts g).1) (levels.aged-off x h.0.0)

may : (s r u : Bool) → On (s || r) → Off r → Off u → On (s && not u)
may s r u h k l = grind arith

pub steady-acts : (x : PortState) → IsSteady x → On (may_act x)
steady-acts x h = may x.selected x.reselect x.update_info h.0.0.0.3 h.0.1 h.3
