-- A bridge is settled if no rule of the two tables is enabled at an existing port.
-- The whole sweep: its firings are a run, and it ends in a settled bridge or at the limit of firings.
use Rattle.rstp_run.proofs.Basics.{Claim, Off, On}
use Rattle.rstp_run.proofs.Names.{[], AreOff, AreOffAt, AreOffBelow, arith, Bool, below_more, cases_Bool, cases_lt}
use Rattle.rstp_run.proofs.Names.{eq-eqb, false, fired, Going, guard, IsSettled, IsTrue, if◌then◌else◌, inl, inr, List}
use Rattle.rstp_run.proofs.Names.{length, list_any, MAIN, main_order, not, pass, passes, Rule, Run, refl, round, SENDS}
use Rattle.rstp_run.proofs.Names.{Select, Some, sending_order, slice_get, suc, swept, Tree, tries, tries_all}
use Rattle.rstp_run.proofs.Names.{tries_below, true, until_idle, zero, ℕ, ◌+◌, ◌<◌, ◌↔◌, ◌∷◌, ◌≡◌, ◌≤◌, ◌⊎◌}
use Rattle.rstp_run.proofs.Steps.{passes-off, tries-full, tries-off, tries-on, tries_below-off, until-more, until-once}
use Rattle.rstp_run.specs.declared.rule.Rule.TheVariants.{Detection, Information, Migration, Receive, Role}
use Rattle.rstp_run.specs.declared.rule.Rule.TheVariants.{State as InState, Topology, Transmit}
use Rattle.std.proofs.lemmas.Map.Keys.{any_passes_from_place}
use Rattle.std.proofs.lemmas.Option.{slice_get_past}
use Rattle.rstp_run.proofs.Names.detection_rule
use Rattle.rstp_run.proofs.Names.information_rule
use Rattle.rstp_run.proofs.Names.migration_rule
use Rattle.rstp_run.proofs.Names.receive_rule
use Rattle.rstp_run.proofs.Names.role_rule
use Rattle.rstp_run.proofs.Names.state_rule
use Rattle.rstp_run.proofs.Names.topology_rule
use Rattle.rstp_run.proofs.Names.transmit_rule

-- the place of each rule in its table
abbrev place : Rule → ℕ
place Select = 0
place (Receive receive_rule.Discard) = 1
place (Receive receive_rule.Receive) = 2
place (Migration migration_rule.Recheck) = 3
place (Migration migration_rule.Checked) = 4
place (Migration migration_rule.Selected) = 5
place (Migration migration_rule.ToRstp) = 6
place (Migration migration_rule.ToStp) = 7
place (Detection detection_rule.Edge) = 8
place (Detection detection_rule.NotEdge) = 9
place (Information information_rule.Disabled) = 10
place (Information information_rule.Drop) = 11
place (Information information_rule.Enabled) = 12
place (Information information_rule.Update) = 13
place (Information information_rule.Aged) = 14
place (Information information_rule.Superior) = 15
place (Information information_rule.Repeated) = 16
place (Information information_rule.Inferior) = 17
place (Information information_rule.NotDesignated) = 18
place (Information information_rule.Other) = 19
place (Role role_rule.Disable) = 20
place (Role role_rule.DisabledPort) = 21
place (Role role_rule.Root) = 22
place (Role role_rule.RootProposed) = 23
place (Role role_rule.RootAgreed) = 24
place (Role role_rule.Reroot) = 25
place (Role role_rule.Rerooted) = 26
place (Role role_rule.RootLearn) = 27
place (Role role_rule.RootForward) = 28
place (Role role_rule.Designated) = 29
place (Role role_rule.Propose) = 30
place (Role role_rule.Synced) = 31
place (Role role_rule.Retired) = 32
place (Role role_rule.DesignatedDiscard) = 33
place (Role role_rule.DesignatedLearn) = 34
place (Role role_rule.DesignatedForward) = 35
place (Role role_rule.Block) = 36
place (Role role_rule.Alternate) = 37
place (Role role_rule.AlternateProposed) = 38
place (Role role_rule.AlternateAgreed) = 39
place (Role role_rule.Backup) = 40
place (InState state_rule.ToLearning) = 41
place (InState state_rule.ToForwarding) = 42
place (InState state_rule.ToDiscarding) = 43
place (Topology topology_rule.TcLearning) = 44
place (Topology topology_rule.Detected) = 45
place (Topology topology_rule.TcClear) = 46
place (Topology topology_rule.TcInactive) = 47
place (Topology topology_rule.TcBack) = 48
place (Topology topology_rule.NotifiedTcn) = 49
place (Topology topology_rule.NotifiedTc) = 50
place (Topology topology_rule.Propagating) = 51
place (Topology topology_rule.Acknowledged) = 52
place (Topology topology_rule.Flush) = 53
place (Transmit transmit_rule.Periodic) = 0
place (Transmit transmit_rule.SendConfig) = 1
place (Transmit transmit_rule.SendTcn) = 2
place (Transmit transmit_rule.SendRst) = 3

covered : (rule : Rule) → (slice_get MAIN (place rule) ≡ Some rule) ⊎ (slice_get SENDS (place rule) ≡ Some rule)
covered (Receive receive_rule.Discard) = inl refl
covered (Migration migration_rule.Recheck) = inl refl
covered (Detection detection_rule.Edge) = inl refl
covered (Information information_rule.Disabled) = inl refl
covered (Role role_rule.Disable) = inl refl
covered (InState state_rule.ToLearning) = inl refl
covered (Topology topology_rule.TcLearning) = inl refl
covered (Transmit transmit_rule.Periodic) = inr refl
covered (Transmit _) = inr refl
covered _ = inl refl

off-at : (test : Rule → Bool) (rules : List Rule) (k : ℕ) (rule : Rule) → slice_get rules k ≡ Some rule
    → Off (list_any test rules) → Off (test rule)
off-at test rules k rule place none = elim (cases_Bool (test rule)) [
  | inl is ↦ (let any = any_passes_from_place test rules k rule place is in cc)
  | inr is ↦ is
]

guard-past : (rule : Rule) (s : Tree) (p : ℕ) → length s.ports ≤ p → Off (guard rule s p)
guard-past rule s p past = rw (slice_get_past s.ports p past) refl

off-listed : (rules : List Rule) (s : Tree) (p k : ℕ) (rule : Rule) → AreOff rules s → slice_get rules k ≡ Some rule
    → Off (guard rule s p)
off-listed rules s p k rule off place =
    elim (cases_lt p (length s.ports)) [
      | inl below ↦ off-at (λ r. guard r s p) rules k rule place (off p below)
      | inr past ↦ guard-past rule s p past
    ]

pub settled-off : (s : Tree) → AreOff MAIN s → AreOff SENDS s → IsSettled s
settled-off s main sends rule p =
    elim (covered rule) [
      | inl at ↦ off-listed MAIN s p (place rule) rule main at
      | inr at ↦ off-listed SENDS s p (place rule) rule sends at
    ]

none-off : (rules : List Rule) (s : Tree) (p : ℕ) → IsSettled s → AreOffAt rules p s
none-off [] s p settled = refl
none-off (rule ∷ rules) s p settled = rw (settled rule p) (none-off rules s p settled)

module _ (rules : List Rule) (s : Tree) where
  pub off-settled : IsSettled s → AreOff rules s
  off-settled settled p below = none-off rules s p settled

  one_more : (n : ℕ) (b : Bool) → list_any (λ rule. guard rule s n) rules ≡ b
      → AreOffBelow rules n s
      → AreOffBelow rules (suc n) s ⊎ (AreOffBelow rules (suc n) s → ⊥)
  one_more n true is below = inr (λ all. (let within : n < suc n = omega arith in
      let off : AreOffAt rules n s = all n within in cc))
  one_more n false is below = inl (λ p within. below_more (λ q. AreOffAt rules q s) n below is p (omega arith))

  off_or_not : (n : ℕ) → AreOffBelow rules n s ⊎ (AreOffBelow rules n s → ⊥)
  off_or_not zero = inl (λ p below. (let f : ⊥ = omega arith in absurd f))
  off_or_not (suc n) =
      elim (off_or_not n) [
        | inl below ↦ one_more n (list_any (λ rule. guard rule s n) rules) refl below
        | inr on ↦ inr (λ all. on (λ p within. all p (omega arith)))
      ]

-- a bridge is settled, or isn't
pub settled_or_not : (s : Tree) → IsSettled s ⊎ (IsSettled s → ⊥)
settled_or_not s =
    elim (off_or_not MAIN s (length s.ports)) [
      | inl main ↦ rest main (off_or_not SENDS s (length s.ports))
      | inr on ↦ inr (λ all. on (off-settled MAIN s all))
    ]
  where
    rest : AreOff MAIN s → AreOff SENDS s ⊎ (AreOff SENDS s → ⊥) → IsSettled s ⊎ (IsSettled s → ⊥)
    rest main (inl sends) = inl (settled-off s main sends)
    rest main (inr on) = inr (λ all. on (off-settled SENDS s all))

pub both-ways : {b : Bool} {P : Type 0} → (On b → P) → (Off b → P → ⊥) → IsTrue b ↔ P
both-ways {b} {P} is_so not_so = (is_so, from b not_so)
  where
    from : (d : Bool) → (Off d → P → ⊥) → P → On d
    from true h q = refl
    from false h q = absurd (h refl q)

pub found : (r b : Bool) → r ≡ b → On r → Off b → ⊥
found r b is is_so not_so = cc

pub not-false : (b : Bool) → Off (not b) → On b
not-false b h = grind arith

-- a part of the sweep keeps a fact
abbrev Keep : Claim → (Going → Going) → Type 0
Keep P f = (g : Going) → P g → P (f g)

if-keeps : (P : Claim) (b : Bool) (x y : Going) → P x → P y → P (if b then x else y)
if-keeps P true x y h k = h
if-keeps P false x y h k = k

pub until-keeps : (P : Claim) (f : Going → Going) → ((g : Going) → P g → P (f g)) → (n : ℕ) (g : Going) → P g
    → P (until_idle n f g)
until-keeps P f keeps zero g h = h
until-keeps P f keeps (suc n) g h =
    if-keeps P _ (f g) (until_idle n f (f g)) (keeps g h) (until-keeps P f keeps n (f g) (keeps g h))

-- an invariant of the rules of one port
module _ (P : Claim) (limit : ℕ) (rules : List Rule)
    (keeps : (p : ℕ) (g : Going) → P g → P (tries_all rules p limit g)) where
  below-keeps : (n : ℕ) → Keep P (tries_below rules n limit)
  below-keeps zero g h = h
  below-keeps (suc n) g h = keeps n (tries_below rules n limit g) (below-keeps n g h)

  pub pass-keeps : (g : Going) → P g → P (pass rules limit g)
  pass-keeps g = below-keeps (length g.tree.ports) g

  pub passes-keeps : (g : Going) → P g → P (passes rules limit g)
  passes-keeps = until-keeps P (pass rules limit) pass-keeps limit

module _ (P : Claim) (limit : ℕ) (main : (p : ℕ) → Keep P (tries_all main_order p limit))
    (sends : (p : ℕ) → Keep P (tries_all sending_order p limit)) where
  round-keeps : Keep P (round limit)
  round-keeps g h =
      passes-keeps P limit sending_order sends (passes main_order limit g)
      (passes-keeps P limit main_order main g h)

  pub swept-keeps : (s : Tree) → P (record { tree = s; firings = [] }) → P (swept limit s)
  swept-keeps s = until-keeps P (round limit) round-keeps limit (record { tree = s; firings = [] })

-- an invariant of each rule
pub all-keeps : (P : Claim) (limit : ℕ) → ((rule : Rule) (p : ℕ) (g : Going) → P g → P (tries rule p limit g))
    → (rules : List Rule) (p : ℕ) (g : Going) → P g → P (tries_all rules p limit g)
all-keeps P limit keeps [] p g h = h
all-keeps P limit keeps (rule ∷ rules) p g h =
    all-keeps P limit keeps rules p (tries rule p limit g) (keeps rule p g h)

-- the rule fires, or nothing changes
pub tries-cases : (Q : Claim) (rule : Rule) (p limit : ℕ) (g : Going)
    → (length g.firings < limit → On (guard rule g.tree p) → Q (fired rule p g)) → Q g → Q (tries rule p limit g)
tries-cases Q rule p limit g fires stays = elim (cases_lt (length g.firings) limit) [
  | inl below ↦ elim (cases_Bool (guard rule g.tree p)) [
    | inl on ↦ rw (tries-on rule p limit g below on) (fires below on)
    | inr off ↦ rw (tries-off rule p limit g off) stays
  ]
  | inr full ↦ rw (tries-full rule p limit g full) stays
]

-- ---- a run of at most limit firings

abbrev IsRun : ℕ → Tree → Claim
IsRun limit s g = Run g.firings s g.tree × (length g.firings ≤ limit)

tries-run : (limit : ℕ) (s : Tree) (rule : Rule) (p : ℕ) (g : Going) → IsRun limit s g
    → IsRun limit s (tries rule p limit g)
tries-run limit s rule p g h =
    tries-cases (IsRun limit s) rule p limit g (λ below on. ((g.tree, h.0, (on, refl)), below)) h

pub swept-run : (limit : ℕ) (s : Tree)
    → Run (swept limit s).firings s (swept limit s).tree × (length (swept limit s).firings ≤ limit)
swept-run limit s =
    let keeps = all-keeps (IsRun limit s) limit (tries-run limit s) in
    swept-keeps (IsRun limit s) limit (keeps main_order) (keeps sending_order) s (refl, omega arith)

-- ---- parts of the sweep that fire nothing

module _ (limit m : ℕ) where
  abbrev Grown : Claim
  Grown g = m ≤ length g.firings

  all-grows : (rules : List Rule) (p : ℕ) → Keep Grown (tries_all rules p limit)
  all-grows = all-keeps Grown limit (λ rule p g h. tries-cases Grown rule p limit g (λ below on. omega arith) h)

  below-grows : (rules : List Rule) (n : ℕ) → Keep Grown (tries_below rules n limit)
  below-grows rules = below-keeps Grown limit rules (all-grows rules)

  pub pass-grows : (rules : List Rule) (g : Going) → m ≤ length g.firings → m ≤ length (pass rules limit g).firings
  pass-grows rules = pass-keeps Grown limit rules (all-grows rules)

  passes-grows : (rules : List Rule) → Keep Grown (passes rules limit)
  passes-grows rules = passes-keeps Grown limit rules (all-grows rules)

  round-grows : Keep Grown (round limit)
  round-grows = round-keeps Grown limit (all-grows main_order) (all-grows sending_order)

abbrev IsIdleBy : (Going → Going) → Claim
IsIdleBy f g = length (f g).firings ≡ length g.firings

tries-idle : (rule : Rule) (p limit : ℕ) (g : Going) → length g.firings < limit → IsIdleBy (tries rule p limit) g
    → Off (guard rule g.tree p)
tries-idle rule p limit g below idle = elim (cases_Bool (guard rule g.tree p)) [
  | inl on ↦ absurd (omega (arith, rw (tries-on rule p limit g below on) at idle))
  | inr off ↦ off
]

all-idle : (rules : List Rule) (p limit : ℕ) (g : Going) → length g.firings < limit
    → IsIdleBy (tries_all rules p limit) g → AreOffAt rules p g.tree
all-idle [] p limit g below idle = refl
all-idle (rule ∷ rules) p limit g below idle =
    let next : Going = tries rule p limit g in
    let first = all-grows limit (length g.firings) (rule ∷ []) p g (omega arith) in
    let rest = all-grows limit (length next.firings) rules p next (omega arith) in
    let off = tries-idle rule p limit g below (omega arith) in
    rw off (all-idle rules p limit g below (rw (tries_all, tries-off rule p limit g off) at idle))

below-idle : (rules : List Rule) (n limit : ℕ) (g : Going) → length g.firings < limit
    → IsIdleBy (tries_below rules n limit) g → AreOffBelow rules n g.tree
below-idle rules zero limit g below idle = λ p within. absurd (omega arith)
below-idle rules (suc n) limit g below idle =
    let earlier : Going = tries_below rules n limit g in
    let first = below-grows limit (length g.firings) rules n g (omega arith) in
    let rest = all-grows limit (length earlier.firings) rules n earlier (omega arith) in
    let before = below-idle rules n limit g below (omega arith) in
    let here = all-idle rules n limit g below (rw (tries_below-off rules n limit g before) at idle) in
    λ p within. below_more (λ q. AreOffAt rules q g.tree) n before here p (omega arith)

pub pass-idle : (rules : List Rule) (limit : ℕ) (g : Going) → length g.firings < limit → IsIdleBy (pass rules limit) g
    → AreOff rules g.tree
pass-idle rules limit g below idle = below-idle rules (length g.tree.ports) limit g below idle

-- ---- the end of a repetition: its last time is idle, or each time fires something up to the greatest number of times

abbrev EndsIdle : (Going → Going) → Claim
EndsIdle f r = (g : Going) × (r ≡ f g) × IsIdleBy f g

until-ends : (f : Going → Going) → ((g : Going) → length g.firings ≤ length (f g).firings) → (n : ℕ) (g : Going)
    → (n + length g.firings ≤ length (until_idle n f g).firings) ⊎ EndsIdle f (until_idle n f g)
until-ends f grows zero g = inl (omega arith)
until-ends f grows (suc n) g = elim (cases_lt (length g.firings) (length (f g).firings)) [
  | inl more ↦ rw (until-more n f g more) (elim (until-ends f grows n (f g)) [
    | inl many ↦ inl (omega arith)
    | inr ends ↦ inr ends
  ])
  | inr less ↦ (let same : length (f g).firings ≡ length g.firings = omega (arith, grows g) in
      rw (until-once n f g (eq-eqb (length (f g).firings) (length g.firings) same)) (inr (g, refl, same)))
]

-- if passes fire nothing, their rules are off
passes-idle : (rules : List Rule) (limit : ℕ) (g : Going) → length g.firings < limit → IsIdleBy (passes rules limit) g
    → AreOff rules g.tree
passes-idle rules zero g below idle = absurd (omega arith)
passes-idle rules (suc n) g below idle =
    let next : Going = pass rules (suc n) g in
    elim (cases_lt (length g.firings) (length next.firings)) [
      | inl more ↦ (let is = rw (until-more n (pass rules (suc n)) g more) at idle in
          let grown = until-keeps (λ x. length next.firings ≤ length x.firings) (pass rules (suc n))
          (pass-grows (suc n) (length next.firings) rules) n next (omega arith) in
          absurd (omega arith))
      | inr less ↦ (let grown = pass-grows (suc n) (length g.firings) rules g (omega arith) in
          pass-idle rules (suc n) g below (omega arith))
    ]

-- the sweep ends at a settled bridge, or at the limit
pub swept-ends : (limit : ℕ) (s : Tree) → (limit ≤ length (swept limit s).firings) ⊎ IsSettled (swept limit s).tree
swept-ends limit s =
    elim (until-ends (round limit) (λ x. round-grows limit (length x.firings) x (omega arith)) limit
    (record { tree = s; firings = [] })) [
      | inl many ↦ inl (omega arith)
      | inr ends ↦ go ends.0 ends.1 ends.2 (cases_lt (length ends.0.firings) limit)
    ]
  where
    go : (x : Going) → swept limit s ≡ round limit x → IsIdleBy (round limit) x
        → (length x.firings < limit) ⊎ (limit ≤ length x.firings)
        → (limit ≤ length (swept limit s).firings) ⊎ IsSettled (swept limit s).tree
    go x is idle (inr full) = inl (rw is (omega arith))
    go x is idle (inl below) =
        let mid : Going = passes main_order limit x in
        let first = passes-grows limit (length x.firings) main_order x (omega arith) in
        let second = passes-grows limit (length mid.firings) sending_order mid (omega arith) in
        let main = passes-idle main_order limit x below (omega arith) in
        let same = passes-off main_order limit x main in
        let sends = passes-idle sending_order limit x below (rw same at idle) in
        inr (rw (is, same, passes-off sending_order limit x sends) (settled-off x.tree main sends))
