-- The rules of roles and states at a designated port that no port requests to sync or to leave the old root, on nine of
-- its flags, whatever its timers, its agreement and its edge are. Each lowers a number of these flags. All values of
-- the flags are tried.
use Rattle.rstp_run.proofs.Basics.{Bools, On, parts}
use Rattle.rstp_run.proofs.Flags.{every, holds, imply, Test}
use Rattle.rstp_run.proofs.LowersRoles.{on_both}
use Rattle.rstp_run.proofs.Names.{arith, Bool, false, nat_lt, not, PortState, RoleRule, refl, true, ℕ, ◌&&◌, ◌+◌, ◌<◌}
use Rattle.rstp_run.proofs.Names.{◌==◌, ◌||◌, ◌≤◌}
use Rattle.rstp_run.proofs.Totals.{if_so, if_so-le}
use Rattle.std.proofs.lemmas.Bool.{ltb-true}
use Rattle.rstp_run.proofs.Names.role_rule
use Rattle.rstp_run.proofs.Names.roles

-- ---- the flags

pub record Pose : Type 0 where
  synced : Bool
  none : Bool
  sync : Bool
  re_root : Bool
  learn : Bool
  forward : Bool
  learning : Bool
  forwarding : Bool
  disputed : Bool

abbrev pub pose_of : PortState → Pose
pose_of x = record {
  synced = x.synced;
  none = x.recent_root_while == 0;
  sync = x.sync;
  re_root = x.re_root;
  learn = x.learn;
  forward = x.forward;
  learning = x.learning;
  forwarding = x.forwarding;
  disputed = x.disputed;
}

abbrev pose : Bools 9 Pose
pose a b c d e f g h i = record {
  synced = a;
  none = b;
  sync = c;
  re_root = d;
  learn = e;
  forward = f;
  learning = g;
  forwarding = h;
  disputed = i;
}

abbrev held : Pose → Bool
held c = (c.sync && not c.synced) || (c.re_root && not c.none)

abbrev free : Pose → Bool
free c = not c.sync && (c.none || not c.re_root)

-- the rule may be enabled
abbrev pub may : RoleRule → Pose → Bool
may role_rule.Synced c = not c.synced || c.sync
may role_rule.Retired c = c.none && c.re_root
may role_rule.DesignatedDiscard c = (c.learn || c.forward) && (held c || c.disputed)
may role_rule.DesignatedLearn c = not c.learn && free c
may role_rule.DesignatedForward c = c.learn && not c.forward && free c
may _ c = false

abbrev posed : RoleRule → Pose → Pose
posed role_rule.Synced c = record c { none = true; synced = true; sync = false }
posed role_rule.Retired c = record c { re_root = false }
posed role_rule.DesignatedDiscard c = record c { learn = false; forward = false; disputed = false }
posed role_rule.DesignatedLearn c = record c { learn = true }
posed role_rule.DesignatedForward c = record c { forward = true }
posed _ c = c

-- The steps that are left to learning and forwarding. Each rule of states lowers this number, and each rule that lets
-- the port learn or forward.
abbrev pub work : Bool → Bool → Bool → Bool → ℕ
work false false false false = 4
work false false false true = 6
work false false true false = 5
work false false true true = 5
work false true false false = 3
work false true false true = 2
work false true true false = 5
work false true true true = 4
work true false false false = 3
work true false false true = 5
work true false true false = 2
work true false true true = 4
work true true false false = 2
work true true false true = 1
work true true true false = 1
work true true true true = 0

abbrev work_of : Pose → ℕ
work_of c = work c.learn c.forward c.learning c.forwarding

-- a port that is disputed, or is held back, may have to discard once more
abbrev pub place : Pose → ℕ
place c =
    if_so 1 (not c.synced || c.sync) + if_so 1 c.re_root + if_so 6 (c.disputed || ((c.learn || c.forward) && held c))

abbrev left : Pose → ℕ
left c = place c + work_of c

abbrev falls : Pose → Bool → Pose → Bool
falls c on d = not on || nat_lt (left d) (left c)

abbrev falls_case : RoleRule → Test 9
falls_case rule a b c d e f g h i =
    falls (pose a b c d e f g h i) (may rule (pose a b c d e f g h i)) (posed rule (pose a b c d e f g h i))

-- each of these rules lowers the number
falls_by : (rule : RoleRule) → On (every 9 (falls_case rule)) → (c : Pose) → On (may rule c)
    → left (posed rule c) < left c
falls_by rule all c on =
    ltb-true (left (posed rule c)) (left c)
    (imply (may rule c) (nat_lt (left (posed rule c)) (left c))
    (holds 9 (falls_case rule) all c.synced c.none c.sync c.re_root c.learn c.forward c.learning c.forwarding
    c.disputed) on)

-- learning and forwarding

module _ (l f lg fg : Bool) where
  pub begins-learning : On (not l) → work true f lg fg < work l f lg fg
  begins-learning h = grind arith

  pub begins-forwarding : On (l && not f) → work l true lg fg < work l f lg fg
  begins-forwarding h = grind arith

  pub to-learning : On (l && not lg) → work l f true fg < work l f lg fg
  to-learning h = grind arith

  pub to-forwarding : On (lg && f && not fg) → work l f lg true < work l f lg fg
  to-forwarding h = grind arith

  pub to-discarding : On ((lg && not l) || (fg && not f))
      → work l f false false < work l f lg fg
  to-discarding h = grind arith

  pub work-few : work l f lg fg ≤ 6
  work-few = grind arith

pub place-few : (c : Pose) → place c ≤ 8
place-few c = omega (arith, if_so-le)

-- ---- the rules of a port

syncs : (syn sync dark : Bool) → On ((not syn && dark) || (sync && syn)) → On (not syn || sync)
syncs syn sync dark h = grind arith

module _ (x : PortState) where
  abbrev Lowers : RoleRule → Type 0
  Lowers rule = left (posed rule (pose_of x)) < left (pose_of x)

  free_of : On (roles.may_go_on x) → On (free (pose_of x))
  free_of h = on_both (not x.sync) _ (parts (parts h).0).0 (parts h).1

  pub synced-lowers : On (roles.synced_guard x) → Lowers role_rule.Synced
  synced-lowers g =
      falls_by role_rule.Synced refl (pose_of x)
      (syncs x.synced x.sync _ (parts g).1)

  pub retired-lowers : On (roles.retired_guard x) → Lowers role_rule.Retired
  retired-lowers g =
      falls_by role_rule.Retired refl (pose_of x)
      (on_both (x.recent_root_while == 0) x.re_root (parts (parts g).0).1 (parts g).1)

  pub discard-lowers : On (roles.designated_discard_guard x) → Lowers role_rule.DesignatedDiscard
  discard-lowers g =
      falls_by role_rule.DesignatedDiscard refl (pose_of x)
      (on_both (x.learn || x.forward) (roles.must_discard x) (parts (parts g).0).1
      (parts g).1)

  pub learn-lowers : On (roles.designated_learn_guard x) → Lowers role_rule.DesignatedLearn
  learn-lowers g =
      falls_by role_rule.DesignatedLearn refl (pose_of x)
      (on_both (not x.learn) _ (parts (parts g).0).1 (free_of (parts g).1))

  pub forward-lowers : On (roles.designated_forward_guard x) → Lowers role_rule.DesignatedForward
  forward-lowers g =
      let (first, blocked) = parts (parts g).0 in
      falls_by role_rule.DesignatedForward refl (pose_of x)
      (on_both (x.learn && not x.forward) _ (on_both x.learn (not x.forward) (parts first).1 blocked)
      (free_of (parts g).1))
