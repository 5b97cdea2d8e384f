-- The firings of a pass, by the cost of the rules that are left at a port, and by what each port may still cost after
-- its visit.
use Rattle.rstp_run.proofs.Basics.{Claim, clash, Fact, Number, Off, On, parts}
use Rattle.rstp_run.proofs.Each.{AtAll, at_each}
use Rattle.rstp_run.proofs.Names.{[], after, ap, arith, asks, Bool, cases_Bool, cases_lt, eq-eqb, Going, guard}
use Rattle.rstp_run.proofs.Names.{if◌then◌else◌, inl, inr, is_select, List, length, ne_eqb, no, PortState, pass}
use Rattle.rstp_run.proofs.Names.{ports_after, Rule, refl, same_Some, subst, suc, sym, Timing, Tree, timing_in, tries}
use Rattle.rstp_run.proofs.Names.{tries_all, tries_below, true, zero, ℕ, ◌&&◌, ◌+◌, ◌<◌, ◌==◌, ◌∙◌, ◌∷◌, ◌≡◌, ◌≤◌, ◌⊎◌}
use Rattle.rstp_run.proofs.Own.{own, own-each, Spread, spread_by, spread_of}
use Rattle.rstp_run.proofs.Places.{select-later}
use Rattle.rstp_run.proofs.Steps.{IsFull, length-ports_after, tries-full, tries-off, tries-on}
use Rattle.rstp_run.proofs.Totals.{tested_at}
use Rattle.rstp_run.proofs.Names.rules

-- ---- sums over places

abbrev pub sum : ℕ → (ℕ → ℕ) → ℕ
sum zero f = 0
sum (suc n) f = f n + sum n f

-- the same, but v at place p
abbrev pub put : ℕ → ℕ → (ℕ → ℕ) → ℕ → ℕ
put p v f q = if q == p then v else f q

pub put-there : (p v : ℕ) (f : ℕ → ℕ) (q : ℕ) → q ≡ p → put p v f q ≡ v
put-there p v f q e = rw (eq-eqb q p e)

pub put-apart : (p v : ℕ) (f : ℕ → ℕ) (q : ℕ) → (q ≡ p → ⊥) → put p v f q ≡ f q
put-apart p v f q apart = rw (ne_eqb q p apart)

pub sum-below : (p v : ℕ) (f : ℕ → ℕ) (n : ℕ) → n ≤ p → sum n (put p v f) ≡ sum n f
sum-below p v f zero h = refl
sum-below p v f (suc n) h =
    let first = put-apart p v f n (λ e. omega (arith, e)) in
    let rest = sum-below p v f n (omega arith) in
    omega arith

pub sum-put : (p v : ℕ) (f : ℕ → ℕ) (n : ℕ) → p < n → sum n (put p v f) + f p ≡ sum n f + v
sum-put p v f zero h = absurd (omega arith)
sum-put p v f (suc n) h = elim (cases_lt p n) [
  | inl less ↦ (let first = put-apart p v f n (λ e. omega (arith, less, e)) in
      omega (arith, first, sum-put p v f n less))
  | inr from ↦ (let same : n ≡ p = omega (arith, h, from) in
      omega (arith, put-there p v f n same, sum-below p v f n from, ap f same))
]

-- ---- a port whose rules are tried

abbrev all_are : (Rule → Bool) → List Rule → Bool
all_are only [] = true
all_are only (rule ∷ rest) = only rule && all_are only rest

-- rules of a sort to which Select doesn't belong
unselected : (only : Rule → Bool) → Off (only rules.Select) → (rule : Rule) → On (only rule) → Off (is_select rule)
unselected only none rules.Select sort = clash none sort
unselected only none rule sort = refl

-- only Select changes the values of the bridge that the rules of a port read
pub same_timing : (rule : Rule) (s : Tree) (p : ℕ) → Off (is_select rule) → timing_in (after rule s p) ≡ timing_in s
same_timing rules.Select s p other = no (sym other)
same_timing rule s p other = refl

-- The firings of a pass. R is known of every port. A port may still cost U before its visit, and V after it. Changes of
-- other ports that fit raise no cost. There are n ports, and at most `bound` firings with those that the ports may
-- still cost.
pub record Bill : Type 1 where
  pub R : Fact
  pub U : Number
  pub V : Number
  pub timing : Timing
  pub n : ℕ
  pub limit : ℕ
  pub bound : ℕ
  pub fit : Spread → Bool
  pub spreads : (k : Spread) (x : PortState) → On (fit k) → R x
      → R (spread_by k x) × (U (spread_by k x) ≤ U x) × (V (spread_by k x) ≤ V x)
  pub goes : (rule : Rule) (s : Tree) (p : ℕ) (x : PortState) → Off (is_select rule) → On (asks rule s p x) → R x
      → On (fit (spread_of rule)) × R (own rule (timing_in s) x)

-- Select isn't enabled meanwhile
module _ (bill : Bill) where
  open bill use {R, U, V, timing, n, limit, bound, fit, spreads, goes}

  abbrev Shared : (ℕ → (ℕ → ℕ) → Fact) → Claim
  Shared P g =
      IsFull limit g
      ⊎ ((f : ℕ → ℕ) × AtAll (λ q x. R x × P q f x) g.tree.ports × (length g.firings + sum n f ≤ bound)
      × (timing_in g.tree ≡ timing))

  abbrev Bounded : (ℕ → (ℕ → ℕ) → Fact) → Claim
  Bounded P g = (length g.firings ≤ bound) × (length g.tree.ports ≡ n) × Shared P g

  -- before the visit of the port at place p
  abbrev Shares : ℕ → ℕ → (ℕ → ℕ) → Fact
  Shares p q f x = (q < p → V x ≤ f q) × (p ≤ q → U x ≤ f q)

  abbrev pub Within : ℕ → Claim
  Within p = Bounded (Shares p)

  -- while its rules are tried
  abbrev Due : Number → ℕ → ℕ → (ℕ → ℕ) → Fact
  Due c p q f x = (q < p → V x ≤ f q) × (q ≡ p → c x ≤ f q) × (p < q → U x ≤ f q)

  abbrev pub Paid : Number → ℕ → Claim
  Paid c p = Bounded (Due c p)

  bounded_as : (P Q : ℕ → (ℕ → ℕ) → Fact) (g : Going) → ((q : ℕ) (f : ℕ → ℕ) (x : PortState) → R x → P q f x → Q q f x)
      → Bounded P g → Bounded Q g
  bounded_as P Q g by h = (
    h.0,
    h.1,
    elim h.2 [
      | inl full ↦ inl full
      | inr s ↦ inr (s.0, λ q x at. (let d = s.1 q x at in (d.0, by q s.0 x d.0 d.1)), s.2, s.3)
    ],
  )

  pub paid-as : (c d : Number) (p : ℕ) (g : Going) → ((x : PortState) → R x → d x ≤ c x) → Paid c p g → Paid d p g
  paid-as c d p g less =
      bounded_as (Due c p) (Due d p) g (λ q f x r k. (k.0, λ e. omega (arith, less x r, k.1 e), k.2))

  module _ (p : ℕ) (within : p < n) where
    -- the cost before the rule, and after it
    pub one : (rule : Rule) → Off (is_select rule) → (c d : Number)
        → ((s : Tree) (x : PortState) → timing_in s ≡ timing → On (asks rule s p x) → R x
        → d (own rule (timing_in s) x) < c x)
        → ((s : Tree) (x : PortState) → Off (asks rule s p x) → R x → d x ≤ c x)
        → (g : Going) → Paid c p g → Paid d p (tries rule p limit g)
    one rule other c d fires rests g h = elim (cases_lt (length g.firings) limit) [
      | inr full ↦ subst (Paid d p) (sym (tries-full rule p limit g full)) (h.0, h.1, inl full)
      | inl below ↦ elim h.2 [
        | inl full ↦ absurd (omega (arith, below, full))
        | inr s ↦ elim (cases_Bool (guard rule g.tree p)) [
          | inl is ↦ fire s.0 s.1 s.2 s.3 below is
          | inr is ↦ subst (Paid d p) (sym (tries-off rule p limit g is))
              (h.0, h.1, inr (s.0, off s.0 is s.1, s.2, s.3))
        ]
      ]
    ]
      where
        off : (f : ℕ → ℕ) → Off (guard rule g.tree p) → AtAll (λ q x. R x × Due c p q f x) g.tree.ports
            → AtAll (λ q x. R x × Due d p q f x) g.tree.ports
        off f is all q x at =
            let k = all q x at in
            let less : q ≡ p → d x ≤ c x = λ e. (let here = rw e at at in rests g.tree x (rw here at is) k.0) in
            (k.0, (k.1.0, λ e. omega (arith, less e, k.1.1 e), k.1.2))

        fire : (f : ℕ → ℕ) → AtAll (λ q x. R x × Due c p q f x) g.tree.ports → length g.firings + sum n f ≤ bound
            → timing_in g.tree ≡ timing → length g.firings < limit → On (guard rule g.tree p)
            → Paid d p (tries rule p limit g)
        fire f all few same below is =
            let (port, at, asked) = tested_at (asks rule g.tree p) g.tree.ports p is in
            let k = all p port at in
            let fits = (goes rule g.tree p port other asked k.0).0 in
            let v : ℕ = d (own rule (timing_in g.tree) port) in
            let less = fires g.tree port same asked k.0 in
            let spent : length g.firings + 1 + sum n (put p v f) ≤ bound =
            omega (arith, few, less, k.1.1 refl, sum-put p v f n within) in
            subst (Paid d p) (sym (tries-on rule p limit g below is)) (
              omega (arith, spent),
              length-ports_after rule g.tree p ∙ h.1,
              inr (
                put p v f,
                at_each (λ q x. R x × Due c p q f x) (λ q x. R x × Due d p q (put p v f) x) g.tree.ports
                    (ports_after rule g.tree p)
                    (own-each (λ q x y. R x × Due c p q f x → R y × Due d p q (put p v f) y) rule g.tree p other is
                    (λ q x apart k. (let (kept, before, after) = spreads (spread_of rule) x fits k.0 in
                    let e = put-apart p v f q apart in (
                      kept,
                      (
                        λ less. omega (arith, after, k.1.0 less, e),
                        λ equal. absurd (apart equal),
                        λ more. omega (arith, before, k.1.2 more, e),
                      ),
                    )))
                    (λ x there j k. (
                      (goes rule g.tree p x other j k.0).1,
                      (
                        λ less. absurd (omega (arith, less)),
                        λ e. rw (same_Some x port (sym there ∙ at)) (omega (arith, put-there p v f p refl)),
                        λ more. absurd (omega (arith, more)),
                      ),
                    ))) all,
                omega (arith, spent),
                same_timing rule g.tree p other ∙ same,
              ),
            )

    -- The rules of a list are of one sort.
    pub many : (cost : List Rule → Number) (only : Rule → Bool) → Off (only rules.Select)
        → ((rule : Rule) (rest : List Rule) (s : Tree) (x : PortState) → On (only rule) → timing_in s ≡ timing
        → On (asks rule s p x) → R x → cost rest (own rule (timing_in s) x) < cost (rule ∷ rest) x)
        → ((rule : Rule) (rest : List Rule) (s : Tree) (x : PortState) → On (only rule) → Off (asks rule s p x) → R x
        → cost rest x ≤ cost (rule ∷ rest) x)
        → (list : List Rule) → On (all_are only list) → (g : Going) → Paid (cost list) p g
        → Paid (cost []) p (tries_all list p limit g)
    many cost only none fires rests [] sort g h = h
    many cost only none fires rests (rule ∷ rest) sort g h =
        let (first, later) = parts sort in
        many cost only none fires rests rest later (tries rule p limit g)
        (one rule (unselected only none rule first) (cost (rule ∷ rest)) (cost rest)
        (λ s x. fires rule rest s x first) (λ s x. rests rule rest s x first) g h)

  -- the visit of a port
  pub visit : (first last : Number) (list : List Rule) (p : ℕ) (g : Going)
      → (Paid first p g → Paid last p (tries_all list p limit g)) → ((x : PortState) → R x → first x ≤ U x)
      → ((x : PortState) → R x → V x ≤ last x) → Within p g → Within (suc p) (tries_all list p limit g)
  visit first last list p g walk begins ends h =
      bounded_as (Due last p) (Shares (suc p)) (tries_all list p limit g)
      (λ q f x r k. (
        λ below. elim (cases_lt q p) [
          | inl less ↦ k.0 less
          | inr from ↦ (omega (arith, ends x r, k.1 (omega (arith, below, from))))
        ],
        λ from. k.2 (omega (arith, from)),
      ))
      (walk (bounded_as (Shares p) (Due first p) g
      (λ q f x r k. (
        k.0,
        λ e. omega (arith, begins x r, k.1 (omega (arith, e))),
        λ less. k.1 (omega (arith, less)),
      )) h))

  -- a pass over all ports, if there is one
  pub pass-within : (list : List Rule)
      → ((p : ℕ) (g : Going) → p < n → Within p g → Within (suc p) (tries_all list p limit g)) → (g : Going)
      → length g.tree.ports ≡ n → 1 ≤ n → Within 0 (tries rules.Select 0 limit g)
      → Within n (pass (rules.Select ∷ list) limit g)
  pass-within list visits g count some start = go n refl
    where
      below : (m : ℕ) → suc m ≤ n → Within (suc m) (tries_below (rules.Select ∷ list) (suc m) limit g)
      below zero within = visits 0 (tries rules.Select 0 limit g) within start
      below (suc m) within =
          let x : Going = tries_below (rules.Select ∷ list) (suc m) limit g in
          visits (suc m) (tries rules.Select (suc m) limit x) within
          (rw (select-later m limit x) (below m (omega (arith, within))))

      go : (m : ℕ) → n ≡ m → Within n (pass (rules.Select ∷ list) limit g)
      go zero is = absurd (omega (arith, some, is))
      go (suc m) is =
          let Q : ℕ → Type 0 = λ k. Within k (tries_below (rules.Select ∷ list) k limit g) in
          rw count (subst Q (sym is) (below m (omega (arith, is))))
