-- The cost of the rules of roles and states in a visit of a port, at most. All values of six flags are tried.
-- The rules of roles and states in a visit of a port: the cost of each, in the order of the table.
use Rattle.rstp_run.proofs.Basics.{Claim, Number, Off, On}
use Rattle.rstp_run.proofs.Costs.{Bill, many, one, Paid, paid-as}
use Rattle.rstp_run.proofs.Flags.{every, holds, imply, Test}
use Rattle.rstp_run.proofs.Inputs.{inputs, owed, wait}
use Rattle.rstp_run.proofs.Names.{[], ap, arith, asks, Bool, drop, false, Going, if◌then◌else◌, is_root, List}
use Rattle.rstp_run.proofs.Names.{ltb-false, main_order, nat_lt, no, not, not-true, PortState, Role, RoleRule, Rule}
use Rattle.rstp_run.proofs.Names.{refl, StateRule, state_asks, state_does, suc, Tree, take, timing_in, tries, tries_all}
use Rattle.rstp_run.proofs.Names.{true, zero, ℕ, ◌+◌, ◌<◌, ◌||◌, ◌∷◌, ◌≡◌, ◌≤◌}
use Rattle.rstp_run.proofs.Own.{own, own_role}
use Rattle.rstp_run.proofs.Paces.{Cost, dark, Gait, gait, gait_of, may, price, stepped, steps, turned_on, turns_on}
use Rattle.rstp_run.proofs.Poses.{begins-forwarding, begins-learning, work, work-few}
use Rattle.rstp_run.proofs.RoleKinds.{kind, role-kind, rule_kind}
use Rattle.rstp_run.proofs.Totals.{if_so}
use Rattle.rstp_run.proofs.Names.role
use Rattle.rstp_run.proofs.Names.role_rule
use Rattle.rstp_run.proofs.Names.rules
use Rattle.rstp_run.proofs.Names.state_rule

-- the greater number
abbrev greater : ℕ → ℕ → ℕ
greater a b = if nat_lt a b then b else a

-- the firings of these rules of states, and a number of the flags after them
abbrev follows : Cost → List Rule → Cost
follows end [] c = end c
follows end (rules.State rule ∷ rest) c =
    if turns_on rule c then suc (follows end rest (turned_on rule c)) else follows end rest c
follows end (_ ∷ rest) c = follows end rest c

abbrev state_list : List Rule
state_list = take 3 (drop 41 main_order)

-- before the rules of states; before DesignatedForward; before DesignatedLearn; before a port comes to rest
module _ (end : Cost) where
  abbrev at_states : Cost
  at_states c = follows end state_list c

  abbrev at_forward : Cost
  at_forward c =
      if may role_rule.DesignatedForward c
      then greater (at_states c) (1 + at_states (stepped role_rule.DesignatedForward c))
      else at_states c

  abbrev at_learn : Cost
  at_learn c =
      if may role_rule.DesignatedLearn c
      then greater (at_forward c) (1 + at_forward (stepped role_rule.DesignatedLearn c))
      else at_forward c

  abbrev pub at_rest : Cost
  at_rest c = if dark c then 1 + at_states c else at_states c

-- nothing is left after a visit, or the later cost of a port that has its role
abbrev pub nothing : Cost
nothing c = 0

abbrev pub at_work : Cost
at_work c = 8 + work c.learn c.forward c.learning c.forwarding

-- for all values of the flags, one number is at most another if the flags pass a test
abbrev within_case : (Gait → Bool) → Cost → Cost → Test 6
within_case on f g a b c d e h =
    not (on (gait a b c d e h)) || not (nat_lt (g (gait a b c d e h)) (f (gait a b c d e h)))

abbrev all_within : (Gait → Bool) → Cost → Cost → Bool
all_within on f g = every 6 (within_case on f g)

within-by : (on : Gait → Bool) (f g : Cost) → On (all_within on f g) → (c : Gait) → On (on c) → f c ≤ g c
within-by on f g all c h =
    ltb-false (g c) (f c) (not-true _ (imply _ (not (nat_lt (g c) (f c)))
    (holds 6 (within_case on f g) all c.learn c.forward c.learning c.forwarding c.disputed c.held) h))

abbrev any : Gait → Bool
any c = true

-- Bounds of these numbers: b before a port discards, or is blocked.
pub record Fits (end : Cost) (base b : ℕ) : Type 0 where
  pub states : (c : Gait) → at_states end c ≤ base + work c.learn c.forward c.learning c.forwarding
  pub discards : (c : Gait) → On (may role_rule.DesignatedDiscard c)
      → price role_rule.DesignatedDiscard c + at_learn end (stepped role_rule.DesignatedDiscard c) ≤ b
  pub learns : (c : Gait) → at_learn end c ≤ b
  pub blocks : (c : Gait) → 1 + at_rest end (stepped role_rule.Block c) ≤ b
  pub rests : (c : Gait) → at_rest end c ≤ b
  pub root : base + 4 ≤ b

fits_by : (end : Cost) (base b : ℕ)
    → On (all_within any (at_states end) (λ c. base + work c.learn c.forward c.learning c.forwarding))
    → On (all_within (may role_rule.DesignatedDiscard)
    (λ c. price role_rule.DesignatedDiscard c + at_learn end (stepped role_rule.DesignatedDiscard c)) (λ c. b))
    → On (all_within any (at_learn end) (λ c. b))
    → On (all_within any (λ c. 1 + at_rest end (stepped role_rule.Block c)) (λ c. b))
    → On (all_within any (at_rest end) (λ c. b)) → base + 4 ≤ b → Fits end base b
fits_by end base b states discards learns blocks rests root = record {
  states = λ c. within-by any (at_states end) (λ d. base + work d.learn d.forward d.learning d.forwarding) states c
      refl;
  discards = within-by (may role_rule.DesignatedDiscard)
      (λ d. price role_rule.DesignatedDiscard d + at_learn end (stepped role_rule.DesignatedDiscard d)) (λ d. b)
      discards;
  learns = λ c. within-by any (at_learn end) (λ d. b) learns c refl;
  blocks = λ c. within-by any (λ d. 1 + at_rest end (stepped role_rule.Block d)) (λ d. b) blocks c refl;
  rests = λ c. within-by any (at_rest end) (λ d. b) rests c refl;
  root = root;
}

pub fits-nothing : Fits nothing 0 4
fits-nothing = fits_by nothing 0 4 refl refl refl refl refl (omega arith)

pub fits-work : Fits at_work 8 14
fits-work = fits_by at_work 8 14 refl refl refl refl refl (omega arith)

-- a number by the kind of the port's selected role
abbrev pub Numbers : Type 0
Numbers = ℕ → Cost

abbrev by_kind : Cost → Cost → Cost → Cost → Numbers
by_kind a b c d zero = a
by_kind a b c d (suc zero) = b
by_kind a b c d (suc (suc zero)) = c
by_kind a b c d (suc (suc (suc k))) = d

-- the number of a port
abbrev pub numbered : Numbers → Number
numbered f x = f (kind x.selected_role) (gait_of x)

-- a rule of roles at its port, and at a port at which it isn't enabled
role-lowers : (rule : RoleRule) (f h : Numbers)
    → ((c : Gait) → On (may rule c) → price rule c + h (rule_kind rule) (stepped rule c) ≤ f (rule_kind rule) c)
    → (s : Tree) (p : ℕ) (x : PortState) → On (asks (rules.Role rule) s p x)
    → owed (own_role rule (timing_in s) x) + numbered h (own_role rule (timing_in s) x) < owed x + numbered f x
role-lowers rule f h pay s p x g =
    let k = role-kind rule s p x g in
    let t = steps s p x rule g k in
    let y : PortState = own_role rule (timing_in s) x in
    let a = pay (gait_of x) t.on in
    let b : numbered h y ≡ h (rule_kind rule) (stepped rule (gait_of x)) =
    rw (t.to, t.same_role, k) in
    let e : numbered f x ≡ f (rule_kind rule) (gait_of x) = rw k in
    falls (owed x) (inputs x) (wait x) (owed y) (inputs y) (wait y) (numbered f x) (numbered h y)
    (f (rule_kind rule) (gait_of x)) (h (rule_kind rule) (stepped rule (gait_of x))) (price rule (gait_of x)) refl refl
    a b e t.paid t.waits
  where
    falls : (ox ix wx oy iy wy fx hy f' h' c : ℕ) → ox ≡ wx + ix → oy ≡ wy + iy → c + h' ≤ f' → hy ≡ h' → fx ≡ f'
        → iy + 1 ≤ ix + c → wy ≡ wx → oy + hy < ox + fx
    falls ox ix wx oy iy wy fx hy f' h' c p q a b e d w = omega arith

module _ (end : Cost) (rest : List Rule) where
  turned : (rule : StateRule) (c : Gait) → On (turns_on rule c)
      → suc (follows end rest (turned_on rule c)) ≡ follows end (rules.State rule ∷ rest) c
  turned rule c on = rw on

  unturned : (rule : StateRule) (c : Gait) → Off (turns_on rule c)
      → follows end rest c ≤ follows end (rules.State rule ∷ rest) c
  unturned rule c off = rw off (omega arith)

  state-fires : (rule : StateRule) (x : PortState) → On (state_asks rule x)
      → owed (state_does rule x) + follows end rest (gait_of (state_does rule x))
      < owed x + follows end (rules.State rule ∷ rest) (gait_of x)
  state-fires rule x g =
      let a = turned rule (gait_of x) (on rule g) in
      let b = ap (follows end rest) (goes rule) in
      let c = same rule in
      falls (owed x) (owed (state_does rule x)) (follows end rest (gait_of (state_does rule x)))
      (follows end rest (turned_on rule (gait_of x))) (follows end (rules.State rule ∷ rest) (gait_of x)) a b c
    where
      on : (rule : StateRule) → On (state_asks rule x) → On (turns_on rule (gait_of x))
      on state_rule.ToLearning g = g
      on state_rule.ToForwarding g = g
      on state_rule.ToDiscarding g = g

      goes : (rule : StateRule) → gait_of (state_does rule x) ≡ turned_on rule (gait_of x)
      goes state_rule.ToLearning = refl
      goes _ = refl

      same : (rule : StateRule) → owed (state_does rule x) ≡ owed x
      same state_rule.ToLearning = refl
      same _ = refl

      falls : (ox oy fy ft fx : ℕ) → suc ft ≡ fx → fy ≡ ft → oy ≡ ox → oy + fy < ox + fx
      falls ox oy fy ft fx a b c = omega arith

  state-rests : (rule : StateRule) (x : PortState) → Off (state_asks rule x)
      → follows end rest (gait_of x) ≤ follows end (rules.State rule ∷ rest) (gait_of x)
  state-rests rule x g = unturned rule (gait_of x) (off rule g)
    where
      off : (rule : StateRule) → Off (state_asks rule x) → Off (turns_on rule (gait_of x))
      off state_rule.ToLearning g = g
      off state_rule.ToForwarding g = g
      off state_rule.ToDiscarding g = g

-- ---- numbers by kind

abbrev Less : Cost → Cost → Type 0
Less a e = (g : Gait) → e g ≤ a g

abbrev Below : Numbers → Numbers → Type 0
Below f h = (k : ℕ) (g : Gait) → h k g ≤ f k g

pass0 : (b c d a e : Cost) → Less a e → Below (by_kind a b c d) (by_kind e b c d)
pass0 b c d a e less zero g = less g
pass0 b c d a e less _ g = omega arith

pass1 : (a c d b e : Cost) → Less b e → Below (by_kind a b c d) (by_kind a e c d)
pass1 a c d b e less (suc zero) g = less g
pass1 a c d b e less _ g = omega arith

pass2 : (a b d c e : Cost) → Less c e → Below (by_kind a b c d) (by_kind a b e d)
pass2 a b d c e less (suc (suc zero)) g = less g
pass2 a b d c e less _ g = omega arith

pass3 : (a b c d e : Cost) → Less d e → Below (by_kind a b c d) (by_kind a b c e)
pass3 a b c d e less (suc (suc (suc k))) g = less g
pass3 a b c d e less _ g = omega arith

two_more : (a b : ℕ) → a < b → a + 2 < b + 2
two_more a b h = omega arith

with_owed : (o a b : ℕ) → a ≤ b → o + a + 2 ≤ o + b + 2
with_owed o a b h = omega arith

-- ---- a rule that fires or not

module _ (b : Bool) (x : ℕ) where
  taken : On b → 1 + x ≤ (if b then 1 + x else x)
  taken h = grind arith

  not_taken : x ≤ (if b then 1 + x else x)
  not_taken = grind arith

  better : (y : ℕ) → On b → 1 + y ≤ (if b then greater x (1 + y) else x)
  better y h = grind arith

  not_better : (y : ℕ) → x ≤ (if b then greater x (1 + y) else x)
  not_better y = grind arith

module _ (x : ℕ) where
  after_three : (m : ℕ) → 1 + x ≤ m → 1 + (3 + x) ≤ 3 + m
  after_three m h = omega arith

  beside_three : (m : ℕ) → x ≤ m → 3 + x ≤ 3 + m
  beside_three m h = omega arith

  down : (1 + (2 + x) ≤ 3 + x) × (1 + (1 + x) ≤ 2 + x) × (1 + (0 + x) ≤ 1 + x)
  down = omega arith

  less : (2 + x ≤ 3 + x) × (1 + x ≤ 2 + x) × (0 + x ≤ 1 + x)
  less = omega arith

  itself : x ≤ 0 + x
  itself = omega arith

  beside_none : (m : ℕ) → x ≤ m → x ≤ 0 + m
  beside_none m h = omega arith

  alone : x ≤ x
  alone = omega arith

-- before the rules of roles, by the kind of the selected role
abbrev pub before_roles : ℕ → ℕ → Numbers
before_roles base most =
    by_kind (λ c. most) (λ c. 5 + (base + work c.learn c.forward c.learning c.forwarding)) (λ c. 3 + most)
    (λ c. 3 + most)

-- a bound of these numbers: 4 more at the root port
pub before-few : (end : Cost) (base most : ℕ) → Fits end base most → (r : Role) (c : Gait)
    → before_roles base most (kind r) c ≤ most + 3 + if_so 4 (is_root r)
before-few end base most ok role.Root c =
    omega (arith, work-few c.learn c.forward c.learning c.forwarding, ok.root)
before-few end base most ok _ c = omega arith

-- ---- the rules in their order

abbrev is_state : Rule → Bool
is_state (rules.State rule) = true
is_state _ = false

abbrev only_roles : List Rule
only_roles = take 21 (drop 20 main_order)

module _ (bill : Bill) (p : ℕ) (within : p < bill.n) (end : Cost) (base most : ℕ) (ok : Fits end base most) where
  open bill use {R, timing, limit}

  abbrev At : Number → Claim
  At c = Paid bill c p

  abbrev cost : Numbers → Number
  cost f x = (owed x + numbered f x) + 2

  -- these rules lead from one number to another
  abbrev Leads : List Rule → Numbers → Numbers → Type 0
  Leads list f h = (g : Going) → At (cost f) g → At (cost h) (tries_all list p limit g)

  abbrev rooted : ℕ → Cost
  rooted i c = i + (base + work c.learn c.forward c.learning c.forwarding)

  abbrev more : ℕ → Cost
  more i c = i + most

  abbrev rested : ℕ → Cost → Cost
  rested i t c = i + t c

  abbrev s : Cost
  s c = at_states end c

  abbrev r : Cost
  r c = at_rest end c

  abbrev l : Cost
  l c = at_learn end c

  abbrev f : Cost
  f c = at_forward end c

  -- after the rules of roles
  abbrev last : Numbers
  last = by_kind s (rooted 0) s (rested 0 s)

  -- The numbers of three kinds of roles are the same before and after a rule of the other kind.
  at : (N : Cost → Numbers)
      → ((f h : Cost) → Less f h → Below (N f) (N h))
      → (rule : RoleRule) (j : ℕ) (f h : Cost)
      → ((c : Gait) → On (may rule c) → price rule c + N h (rule_kind rule) (stepped rule c) ≤ N f (rule_kind rule) c)
      → Less f h → Leads (drop j only_roles) (N h) last
      → Leads (rules.Role rule ∷ drop j only_roles) (N f) last
  at N pass rule j f h pay less later g x =
      later (tries (rules.Role rule) p limit g)
      (one bill p within (rules.Role rule) refl (cost (N f)) (cost (N h))
      (λ t y same on r. two_more _ _ (role-lowers rule (N f) (N h) pay t p y on))
      (λ t y off r. with_owed (owed y) (numbered (N h) y) (numbered (N f) y)
      (pass f h less (kind y.selected_role) (gait_of y))) g x)

  abbrev number0 : Cost → Numbers
  number0 t = by_kind t (rooted 5) (more 3) (more 3)

  abbrev number1 : Cost → Numbers
  number1 t = by_kind s t (more 3) (more 3)

  abbrev number2 : Cost → Numbers
  number2 t = by_kind s (rooted 0) t (more 3)

  abbrev number3 : Cost → Numbers
  number3 t = by_kind s (rooted 0) s t

  -- blocked ports
  leads3 : Leads (drop 16 only_roles) (number3 (more 3)) last
  leads3 =
      let go = at number3 (pass3 s (rooted 0) s) in
      go role_rule.Block 17 (more 3) (rested 3 r)
      (λ c on. after_three (r (stepped role_rule.Block c)) most (ok.blocks c))
      (λ c. beside_three (r c) most (ok.rests c))
      (go role_rule.Alternate 18 (rested 3 r) (rested 3 s) (λ c on. after_three (s c) (r c) (taken (dark c) (s c) on))
      (λ c. beside_three (s c) (r c) (not_taken (dark c) (s c)))
      (go role_rule.AlternateProposed 19 (rested 3 s) (rested 2 s) (λ c on. (down (s c)).0) (λ c. (less (s c)).0)
      (go role_rule.AlternateAgreed 20 (rested 2 s) (rested 1 s) (λ c on. (down (s c)).1) (λ c. (less (s c)).1)
      (go role_rule.Backup 21 (rested 1 s) (rested 0 s) (λ c on. (down (s c)).2) (λ c. (less (s c)).2) (λ g x. x)))))

  -- designated ports
  leads2 : Leads (drop 9 only_roles) (number2 (more 3)) last
  leads2 =
      let go = at number2 (pass2 s (rooted 0) (more 3)) in
      go role_rule.Designated 10 (more 3) (more 2) (λ c on. (down most).0) (λ c. (less most).0)
      (go role_rule.Propose 11 (more 2) (more 2) (λ c on. omega arith) (λ c. omega arith)
      (go role_rule.Synced 12 (more 2) (more 1) (λ c on. (down most).1) (λ c. (less most).1)
      (go role_rule.Retired 13 (more 1) (λ c. most) (λ c on. omega arith) (λ c. omega arith)
      (go role_rule.DesignatedDiscard 14 (λ c. most) l ok.discards ok.learns
      (go role_rule.DesignatedLearn 15 l f
      (λ c. better (may role_rule.DesignatedLearn c) (f c) (f (stepped role_rule.DesignatedLearn c)))
      (λ c. not_better (may role_rule.DesignatedLearn c) (f c) (f (stepped role_rule.DesignatedLearn c)))
      (go role_rule.DesignatedForward 16 f s
      (λ c. better (may role_rule.DesignatedForward c) (s c) (s (stepped role_rule.DesignatedForward c)))
      (λ c. not_better (may role_rule.DesignatedForward c) (s c) (s (stepped role_rule.DesignatedForward c)))
      leads3))))))

  -- the root port
  leads1 : Leads (drop 2 only_roles) (number1 (rooted 5)) last
  leads1 =
      let go = at number1 (pass1 s (more 3) (more 3)) in
      go role_rule.Root 3 (rooted 5) (rooted 4) (λ c on. omega arith) (λ c. omega arith)
      (go role_rule.RootProposed 4 (rooted 4) (rooted 3) (λ c on. omega arith) (λ c. omega arith)
      (go role_rule.RootAgreed 5 (rooted 3) (rooted 2) (λ c on. omega arith) (λ c. omega arith)
      (go role_rule.Reroot 6 (rooted 2) (rooted 1) (λ c on. omega arith) (λ c. omega arith)
      (go role_rule.Rerooted 7 (rooted 1) (rooted 0) (λ c on. omega arith) (λ c. omega arith)
      (go role_rule.RootLearn 8 (rooted 0) (rooted 0)
      (λ c on. omega (arith, begins-learning c.learn c.forward c.learning c.forwarding on)) (λ c. omega arith)
      (go role_rule.RootForward 9 (rooted 0) (rooted 0)
      (λ c on. omega (arith, begins-forwarding c.learn c.forward c.learning c.forwarding on)) (λ c. omega arith)
      leads2))))))

  -- disabled ports
  leads0 : Leads only_roles (number0 (λ c. most)) last
  leads0 =
      let go = at number0 (pass0 (rooted 5) (more 3) (more 3)) in
      go role_rule.Disable 1 (λ c. most) r (λ c on. ok.blocks c) ok.rests
      (go role_rule.DisabledPort 2 r s (λ c. taken (dark c) (s c)) (λ c. not_taken (dark c) (s c)) leads1)

  states_left : (k : ℕ) (c : Gait) → at_states end c ≤ last k c
  states_left (suc zero) c = beside_none (s c) (base + work c.learn c.forward c.learning c.forwarding) (ok.states c)
  states_left (suc (suc (suc k))) c = itself (s c)
  states_left _ c = alone (s c)

  abbrev state_cost : List Rule → Number
  state_cost list x = (owed x + follows end list (gait_of x)) + 2

  state_fires : (rule : Rule) (rest : List Rule) (t : Tree) (x : PortState) → On (is_state rule) → timing_in t ≡ timing
      → On (asks rule t p x) → R x → state_cost rest (own rule (timing_in t) x) < state_cost (rule ∷ rest) x
  state_fires (rules.State rule) rest t x sort same on r = two_more _ _ (state-fires end rest rule x on)
  state_fires _ rest t x sort same on r = no sort

  state_rests : (rule : Rule) (rest : List Rule) (t : Tree) (x : PortState) → On (is_state rule) → Off (asks rule t p x)
      → R x → state_cost rest x ≤ state_cost (rule ∷ rest) x
  state_rests (rules.State rule) rest t x sort off r =
      with_owed (owed x) (follows end rest (gait_of x)) (follows end (rules.State rule ∷ rest) (gait_of x))
      (state-rests end rest rule x off)
  state_rests _ rest t x sort off r = no sort

  pub role-part : (g : Going) → At (cost (before_roles base most)) g
      → At (λ x. (owed x + end (gait_of x)) + 2) (tries_all (take 24 (drop 20 main_order)) p limit g)
  role-part g h =
      let g1 : Going = tries_all only_roles p limit g in
      many bill p within state_cost is_state refl state_fires state_rests state_list refl g1
      (paid-as bill (cost last) (state_cost state_list) p g1
      (λ x r. with_owed (owed x) (follows end state_list (gait_of x)) (numbered last x)
      (states_left (kind x.selected_role) (gait_of x))) (leads0 g h))
