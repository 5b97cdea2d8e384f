-- The flags of a designated port, and the effects of the rules of roles on them. All values of the flags are tried.
use Rattle.rstp_run.proofs.Basics.{Bools, Off, On, parts}
use Rattle.rstp_run.proofs.Names.{arith, Bool, false, if◌then◌else◌, is_active, is_inactive, not, PortState, refl, suc}
use Rattle.rstp_run.proofs.Names.{Topology, true, zero, ℕ, ◌&&◌, ◌==◌, ◌||◌}

-- a test of n flags
abbrev pub Test : ℕ → Type 0
Test n = Bools n Bool

abbrev pub every : (n : ℕ) → Test n → Bool
every zero f = f
every (suc n) f = every n (f true) && every n (f false)

abbrev Holds : (n : ℕ) → Test n → Type 0
Holds zero f = On f
Holds (suc n) f = (b : Bool) → Holds n (f b)

pub holds : (n : ℕ) (f : Test n) → On (every n f) → Holds n f
holds zero f h = h
holds (suc n) f h = λ b. elim b as (λ c. Holds n (f c)) [
  | true ↦ holds n (f true) (parts h).0
  | false ↦ holds n (f false) (parts h).1
]

-- ---- the flags of a designated port

pub record Bits : Type 0 where
  pub sync : Bool
  pub synced : Bool
  pub learn : Bool
  pub forward : Bool
  pub agreed : Bool
  pub edge : Bool
  pub waited : Bool
  pub none : Bool
  pub re_root : Bool
  pub disputed : Bool

abbrev pub bits_of : PortState → Bits
bits_of x = record {
  sync = x.sync;
  synced = x.synced;
  learn = x.learn;
  forward = x.forward;
  agreed = x.agreed;
  edge = x.oper_edge;
  waited = x.forward_delay_while == 0;
  none = x.recent_root_while == 0;
  re_root = x.re_root;
  disputed = x.disputed;
}

-- tests of these flags, perhaps with three others
abbrev pub FlagTest : Type 0
FlagTest = Bits → Bool

abbrev pub Case : Type 0
Case = Bools 3 FlagTest

-- such a test as one of all flags
abbrev of_flags : Case → Test 13
of_flags t a b c d e f g h i j dark inactive active =
    t dark inactive active (record {
      sync = a;
      synced = b;
      learn = c;
      forward = d;
      agreed = e;
      edge = f;
      waited = g;
      none = h;
      re_root = i;
      disputed = j;
    })

by_flags : (t : Case) → On (every 13 (of_flags t)) → (dark inactive active : Bool)
    (b : Bits) → On (t dark inactive active b)
by_flags t h dark inactive active b =
    holds 13 (of_flags t) h b.sync b.synced b.learn b.forward b.agreed b.edge b.waited b.none b.re_root b.disputed dark
    inactive active

-- ---- the rules of roles on these flags; dark is true of a port that neither learns nor forwards

abbrev pub syncs : Bool → FlagTest
syncs dark b = (not b.synced && (dark || b.agreed || b.edge)) || (b.sync && b.synced)

abbrev pub discards : FlagTest
discards b =
    not b.edge && (b.learn || b.forward)
    && ((b.sync && not b.synced) || (b.re_root && not b.none) || b.disputed)

abbrev goes_on : FlagTest
goes_on b = not b.sync && (b.waited || b.agreed || b.edge) && (b.none || not b.re_root)

abbrev pub learns : FlagTest
learns b = not b.learn && goes_on b

abbrev pub forwards : FlagTest
forwards b = b.learn && not b.forward && goes_on b

-- a test of the flags after a rule, whatever the rule's delay and protocol are
abbrev pub after_edge : FlagTest → FlagTest
after_edge t b = t b && t (record b { edge = true })

abbrev pub after_synced : Bool → FlagTest → FlagTest
after_synced dark t b = if syncs dark b then t (record b { none = true; synced = true; sync = false }) else t b

abbrev pub after_retired : FlagTest → FlagTest
after_retired t b = if b.none && b.re_root then t (record b { re_root = false }) else t b

abbrev pub discarded : Bool → Bits → Bits
discarded waited b = record b { learn = false; forward = false; disputed = false; waited = waited }

abbrev pub after_discard : FlagTest → FlagTest
after_discard t b = if discards b then t (discarded true b) && t (discarded false b) else t b

abbrev pub learnt : Bool → Bits → Bits
learnt waited b = record b { learn = true; waited = waited }

abbrev pub after_learn : FlagTest → FlagTest
after_learn t b = if learns b then t (learnt true b) && t (learnt false b) else t b

abbrev pub passing : Bool → Bits → Bits
passing agreed b = record b { forward = true; waited = true; agreed = agreed }

abbrev pub after_forward : FlagTest → FlagTest
after_forward t b = if forwards b then t (passing true b) && t (passing false b) else t b

abbrev pub after_roles : Bool → FlagTest → FlagTest
after_roles dark t = after_edge (after_synced dark (after_retired (after_discard (after_learn (after_forward t)))))

-- ---- facts of the flags

abbrev pub is_held : FlagTest
is_held b = b.re_root && not b.none

-- after one visit
abbrev pub core1 : FlagTest
core1 b =
    (not b.sync || (not b.learn && not b.disputed && not b.synced && not b.agreed))
    && (not (is_held b) || (not b.learn && (b.synced || not b.disputed)))
    && (b.sync || is_held b || (not b.waited && not b.agreed))

-- after two visits
abbrev pub core2 : FlagTest
core2 b =
    not b.sync
    && ((is_held b && b.synced && not b.learn)
    || (not (is_held b) && not b.waited && not b.agreed && (not (b.learn || b.forward) || not b.disputed)))

-- the port is an edge, or its forwarding has been detected, or it doesn't forward and something holds it back
abbrev pub shut : FlagTest → Bool → Bool → FlagTest
shut core inactive active b = b.edge || active || ((not b.forward || (not b.learn && inactive)) && core b)

-- the same, or its forwarding is about to be detected
abbrev pub due : FlagTest → Bool → Bool → FlagTest
due core inactive active b = shut core inactive active b || (b.forward && (b.learn || not inactive))

abbrev first_case : Case
first_case dark inactive active b = not (b.learn || dark) || after_roles dark (due core1 inactive active) b

abbrev second_case : Case
second_case dark inactive active b =
    not (b.learn || dark)
    || (not (shut core1 inactive active b) || after_roles dark (due core2 inactive active) b)

abbrev kept_by : Bool → FlagTest → FlagTest
kept_by dark t b =
    after_edge t b && after_synced dark t b && after_retired t b && after_discard t b && after_learn t b
    && after_forward t b

-- the last facts stay under each rule
abbrev stays_case : Case
stays_case dark inactive active b =
    not (shut core2 inactive active b) || kept_by dark (shut core2 inactive active) b

-- ---- one by one

pub imply : (p q : Bool) → On (not p || q) → On p → On q
imply p q h k = grind arith

pub first_visit : (dark inactive active : Bool) (b : Bits) → On (b.learn || dark)
    → On (after_roles dark (due core1 inactive active) b)
first_visit dark inactive active b h =
    imply _ _ (by_flags first_case refl dark inactive active b) h

pub second_visit : (dark inactive active : Bool) (b : Bits) → On (b.learn || dark)
    → On (shut core1 inactive active b) → On (after_roles dark (due core2 inactive active) b)
second_visit dark inactive active b h k =
    imply _ _
    (imply _ (not (shut core1 inactive active b) || after_roles dark (due core2 inactive active) b)
    (by_flags second_case refl dark inactive active b) h) k

-- each rule keeps a test
abbrev pub Kept : Bool → FlagTest → Bits → Type 0
Kept dark t b =
    On (after_edge t b) × On (after_synced dark t b) × On (after_retired t b) × On (after_discard t b)
    × On (after_learn t b) × On (after_forward t b)

pub stays_shut : (t : Topology) (dark : Bool) (b : Bits) → On (shut core2 (is_inactive t) (is_active t) b)
    → Kept dark (shut core2 (is_inactive t) (is_active t)) b
stays_shut t dark b h =
    let f = shut core2 (is_inactive t) (is_active t) in
    let (five, forward) = parts (imply _ (kept_by dark f b)
    (by_flags stays_case refl dark (is_inactive t) (is_active t) b) h) in
    let (four, learn) = parts five in
    let (three, discard) = parts four in
    let (two, retired) = parts three in
    ((parts two).0, (parts two).1, retired, discard, learn, forward)

pub if_on : (c x y : Bool) → On c → On (if c then x else y) → On x
if_on c x y h k = grind arith

pub if_off : (c x y : Bool) → Off c → On (if c then x else y) → On y
if_off c x y h k = grind arith

pub pick : (t : FlagTest) (f : Bool → Bits) (w : Bool) → On (t (f true) && t (f false)) → On (t (f w))
pick t f true h = (parts h).0
pick t f false h = (parts h).1

pub off_three : (a b c : Bool) → Off (a && b && c) → On a → Off (b && c)
off_three a b c h k = grind arith

pub off_four : (a b c d : Bool) → Off (a && b && c && d) → On a → Off (b && c && d)
off_four a b c d h k = grind arith

pub on_three : (a b c : Bool) → On (a && b && c) → On (b && c)
on_three a b c h = grind arith

pub on_four : (a b c d : Bool) → On (a && b && c && d) → On (b && c && d)
on_four a b c d h = grind arith
