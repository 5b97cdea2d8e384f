-- Facts of all ports of a bridge by their places during a sweep, and the number of selections so far.
use Rattle.rstp_run.proofs.Basics.{Claim, Fact, Facts, Off, On, parts}
use Rattle.rstp_run.proofs.Each.{AtAll, at_selected, chosen}
use Rattle.rstp_run.proofs.Names.{[], arith, asks, Bool, cases_Bool, cases_lt, drop, false, Going, guard, inl, inr}
use Rattle.rstp_run.proofs.Names.{is_select, List, length, list_any, main_order, None, ne_eqb, not-true, option_map_or}
use Rattle.rstp_run.proofs.Names.{or_parts, PortState, pass, ports_after, Rule, refl, Settings, Some, selections}
use Rattle.rstp_run.proofs.Names.{slice_get, slice_get_within, some_is, suc, Tree, take, test_at, timing_in, tries}
use Rattle.rstp_run.proofs.Names.{tries_all, tries_below, true, wants_selection, zero, ℕ, ◌&&◌, ◌+◌, ◌<◌, ◌==◌, ◌∙◌}
use Rattle.rstp_run.proofs.Names.{◌∷◌, ◌≡◌, ◌≤◌, ◌⊎◌}
use Rattle.rstp_run.proofs.Own.{after-at, all_keep, own, Spread, spread_by, spread_of}
use Rattle.rstp_run.proofs.Steps.{IsFull, length-ports_after, tries-full, tries-off, tries-on}
use Rattle.rstp_run.proofs.Totals.{tested_at}
use Rattle.rstp_run.proofs.Names.rules

none_wants : (ports : List PortState) → AtAll (λ q x. Off x.reselect) ports → Off (list_any wants_selection ports)
none_wants [] all = refl
none_wants (x ∷ xs) all = rw (all zero x refl) (none_wants xs (λ q. all (suc q)))

pub none-asks : (ports : List PortState) → Off (list_any wants_selection ports) → AtAll (λ q x. Off x.reselect) ports
none-asks [] none q y at = cc
none-asks (x ∷ xs) none zero y at = rw (← some_is x y at) (or_parts x.reselect (list_any wants_selection xs) none).0
none-asks (x ∷ xs) none (suc q) y at =
    none-asks xs (or_parts x.reselect (list_any wants_selection xs) none).1 q y at

-- the first port exists, and its test is whether any port requests selection
pub first_asked : (ports : List PortState) (b : Bool) → Off (test_at 0 (λ x. b) ports) → AtAll (λ q x. Off b) ports
first_asked [] b h q x at = cc
first_asked (x ∷ xs) b h q y at = h

select_off : (s : Tree) (p : ℕ) → Off (p == 0 && list_any wants_selection s.ports) → Off (guard rules.Select s p)
select_off s p h =
    elim (slice_get s.ports p) as (λ o. Off (option_map_or (asks rules.Select s p) o false))
    [ None ↦ refl | Some x ↦ h ]

-- if no port requests selection, Select isn't enabled
pub select-rests : (s : Tree) (p : ℕ) → AtAll (λ q x. Off x.reselect) s.ports → Off (guard rules.Select s p)
select-rests s p all = select_off s p (rw (none_wants s.ports all) (off_too (p == 0)))
  where
    off_too : (b : Bool) → Off (b && false)
    off_too b = grind arith

-- At most c selections so far, n ports, and a fact of each port, unless the limit of firings is reached.
abbrev pub Stage : ℕ → ℕ → Facts → ℕ → Claim
Stage c n P limit g =
    (selections g.firings ≤ c) × (length g.tree.ports ≡ n) × (IsFull limit g ⊎ AtAll P g.tree.ports)

-- Select isn't enabled at later ports
pub select-later : (p limit : ℕ) (g : Going) → tries rules.Select (suc p) limit g ≡ g
select-later p limit g =
    tries-off rules.Select (suc p) limit g (select_off g.tree (suc p) (rw (ne_eqb (suc p) 0 (λ e. omega arith))))

tries_all-split : (m : ℕ) (list : List Rule) (p limit : ℕ) (g : Going)
    → tries_all list p limit g ≡ tries_all (drop m list) p limit (tries_all (take m list) p limit g)
tries_all-split zero list p limit g = refl
tries_all-split (suc m) [] p limit g = refl
tries_all-split (suc m) (rule ∷ rest) p limit g = tries_all-split m rest p limit (tries rule p limit g)

-- at most c selections so far, n ports, and this limit of firings
module _ (c n limit : ℕ) where
  -- a weaker fact of each port
  pub stage-as : (P Q : Facts) (g : Going) → ((q : ℕ) (x : PortState) → slice_get g.tree.ports q ≡ Some x → q < n
      → P q x → Q q x) → Stage c n P limit g → Stage c n Q limit g
  stage-as P Q g by h = (
    h.0,
    h.1,
    elim h.2 [
      | inl full ↦ inl full
      | inr all ↦ inr (λ q x at. by q x at (omega (arith, slice_get_within g.tree.ports q x at, h.1)) (all q x at))
    ],
  )

  -- a rule other than Select is reached
  pub stage-tries : (P Q : Facts) (rule : Rule) (p : ℕ) (g : Going) → Off (is_select rule)
      → (Off (guard rule g.tree p) → AtAll P g.tree.ports → AtAll Q g.tree.ports)
      → (On (guard rule g.tree p) → AtAll P g.tree.ports → AtAll Q (ports_after rule g.tree p))
      → Stage c n P limit g → Stage c n Q limit (tries rule p limit g)
  stage-tries P Q rule p g other stays fires h = elim (cases_lt (length g.firings) limit) [
    | inr full ↦ rw (tries-full rule p limit g full) (h.0, h.1, inl full)
    | inl below ↦ elim h.2 [
      | inl full ↦ absurd (omega arith)
      | inr all ↦ elim (cases_Bool (guard rule g.tree p)) [
        | inl on ↦ rw (tries-on rule p limit g below on)
            (rw other h.0, length-ports_after rule g.tree p ∙ h.1, inr (fires on all))
        | inr off ↦ rw (tries-off rule p limit g off) (h.0, h.1, inr (stays off all))
      ]
    ]
  ]

  -- Select is reached at the first port
  pub stage-select : (P Q : Facts) (g : Going)
      → ((s : Settings) (ports : List PortState) (q : ℕ) (x : PortState) → P q x → Q q (chosen s ports q x))
      → ((q : ℕ) (x : PortState) → Off x.reselect → P q x → Q q x)
      → Stage c n P limit g → Stage (c + 1) n Q limit (tries rules.Select 0 limit g)
  stage-select P Q g choice stays h = elim (cases_lt (length g.firings) limit) [
    | inr full ↦ rw (tries-full rules.Select 0 limit g full) (omega (arith, h.0), h.1, inl full)
    | inl below ↦ elim h.2 [
      | inl full ↦ absurd (omega arith)
      | inr all ↦ elim (cases_Bool (guard rules.Select g.tree 0)) [
        | inl on ↦ rw (tries-on rules.Select 0 limit g below on) (
          omega (arith, h.0),
          length-ports_after rules.Select g.tree 0 ∙ h.1,
          inr (at_selected P Q g.tree.settings g.tree.ports
              (λ q x at. choice g.tree.settings g.tree.ports q x) all),
        )
        | inr off ↦ rw (tries-off rules.Select 0 limit g off) (
          omega (arith, h.0),
          h.1,
          inr (λ q x at. stays q x (none-asks g.tree.ports (first_asked g.tree.ports
              _ off q x at) q x at) (all q x at)),
        )
      ]
    ]
  ]

  -- Select isn't enabled, since no port requests selection
  pub stage-rests : (P : Facts) (p : ℕ) (g : Going) → ((q : ℕ) (x : PortState) → P q x → Off x.reselect)
      → Stage c n P limit g → Stage c n P limit (tries rules.Select p limit g)
  stage-rests P p g none h = elim h.2 [
    | inl full ↦ rw (tries-full rules.Select p limit g full) h
    | inr all ↦
        rw (tries-off rules.Select p limit g (select-rests g.tree p (λ q x at. none q x (all q x at)))) h
  ]

-- ---- a port whose rules are being tried, earlier ports, and later ports

abbrev pub Zone : Fact → Fact → Fact → ℕ → Facts
Zone V H U p q x = (q < p → V x) × (q ≡ p → H x) × (p < q → U x)

abbrev Half : Fact → Fact → ℕ → Facts
Half V U p q x = (q < p → V x) × (p ≤ q → U x)

-- V is known of the earlier ports, U of the later ones.
module _ (V U : Fact) (c n limit p : ℕ) where
  abbrev Now : Fact → Claim
  Now H = Stage c n (Zone V H U p) limit

  -- the rules of this list lead from one fact of the port to another
  pub record Leads (H : Fact) (list : List Rule) (E : Fact) : Type 0 where
    pub walk : (g : Going) → Now H g → Now E (tries_all list p limit g)

  -- from a stronger fact of the port
  pub leads-as : {H E : Fact} (K : Fact) {list : List Rule} → ((x : PortState) → H x → K x) → Leads K list E
      → Leads H list E
  leads-as {H} K by later = record {
    walk = λ g h. later.walk g (stage-as c n limit (Zone V H U p) (Zone V K U p) g
        (λ q x at within z. (z.0, λ e. by x (z.1 e), z.2)) h);
  }

  pub leads-end : {E : Fact} → Leads E [] E
  leads-end = record { walk = λ g h. h }

  -- Only changes of other ports that fit come about.
  module _ (fit : Spread → Bool) (early : (k : Spread) (x : PortState) → On (fit k) → V x → V (spread_by k x))
      (late : (k : Spread) (x : PortState) → On (fit k) → U x → U (spread_by k x)) where
    step : (H K : Fact) (rule : Rule) → Off (is_select rule)
        → ((s : Tree) (x : PortState) → Off (asks rule s p x) → H x → K x)
        → ((s : Tree) (x : PortState) → On (asks rule s p x) → H x
        → On (fit (spread_of rule)) × K (own rule (timing_in s) x))
        → (g : Going) → Now H g → Now K (tries rule p limit g)
    step H K rule other rests fires g h = stage-tries c n limit (Zone V H U p) (Zone V K U p) rule p g other off on h
      where
        off : Off (guard rule g.tree p) → AtAll (Zone V H U p) g.tree.ports → AtAll (Zone V K U p) g.tree.ports
        off is all q x at =
            let z = all q x at in
            (z.0, λ e. (let there = rw e at at in rests g.tree x (rw there at is) (z.1 e)), z.2)

        on : On (guard rule g.tree p) → AtAll (Zone V H U p) g.tree.ports
            → AtAll (Zone V K U p) (ports_after rule g.tree p)
        on is all =
            let (port, at, asked) = tested_at (asks rule g.tree p) g.tree.ports p is in
            let fits = (fires g.tree port asked ((all p port at).1 refl)).0 in
            after-at (Zone V H U p) (Zone V K U p) rule g.tree p other is
            (λ q x apart z. (
              λ less. early (spread_of rule) x fits (z.0 less),
              λ e. absurd (apart e),
              λ more. late (spread_of rule) x fits (z.2 more),
            ))
            (λ x asked z. (
              λ less. absurd (omega arith),
              λ e. (fires g.tree x asked (z.1 refl)).1,
              λ less. absurd (omega arith),
            )) all

    -- a rule, and the rules after it
    pub next : {H E : Fact} (K : Fact) {rule : Rule} {rest : List Rule} → Off (is_select rule)
        → ((s : Tree) (x : PortState) → Off (asks rule s p x) → H x → K x)
        → ((s : Tree) (x : PortState) → On (asks rule s p x) → H x
        → On (fit (spread_of rule)) × K (own rule (timing_in s) x)) → Leads K rest E → Leads H (rule ∷ rest) E
    next {H} K {rule} other rests fires later =
        record { walk = λ g h. later.walk (tries rule p limit g) (step H K rule other rests fires g h) }

    -- m rules of a sort that keeps the fact, and the rules after them
    pub keep : {E : Fact} (H : Fact) (sort : Rule → Bool)
        → ((rule : Rule) (s : Tree) (x : PortState) → Off (is_select rule) → On (sort rule) → On (asks rule s p x)
        → H x → On (fit (spread_of rule)) × H (own rule (timing_in s) x))
        → (m : ℕ) {list : List Rule} → On (all_keep sort (take m list)) → Leads H (drop m list) E → Leads H list E
    keep H sort fires m {list} ok later = record {
      walk = λ g h. rw (tries_all-split m list p limit g)
          (later.walk (tries_all (take m list) p limit g) (steps (take m list) ok g h));
    }
      where
        steps : (list : List Rule) → On (all_keep sort list) → (g : Going) → Now H g → Now H (tries_all list p limit g)
        steps [] ok g h = h
        steps (rule ∷ rest) ok g h =
            let (first, kept) = parts ok in
            let (selects, is) = parts first in
            let other = not-true (is_select rule) selects in
            steps rest kept (tries rule p limit g)
            (step H H rule other (λ s x off k. k) (λ s x. fires rule s x other is) g h)

  -- Any change of another port comes about.
  module _ (early : (k : Spread) (x : PortState) → V x → V (spread_by k x))
      (late : (k : Spread) (x : PortState) → U x → U (spread_by k x)) where
    pub next-any : {H E : Fact} (K : Fact) {rule : Rule} {rest : List Rule} → Off (is_select rule)
        → ((s : Tree) (x : PortState) → Off (asks rule s p x) → H x → K x)
        → ((s : Tree) (x : PortState) → On (asks rule s p x) → H x → K (own rule (timing_in s) x)) → Leads K rest E
        → Leads H (rule ∷ rest) E
    next-any K other rests fires later =
        next (λ k. true) (λ k x fit. early k x) (λ k x fit. late k x) K other rests (λ s x on h. (refl, fires s x on h))
        later

    pub keep-any : {E : Fact} (H : Fact) (sort : Rule → Bool)
        → ((rule : Rule) (s : Tree) (x : PortState) → Off (is_select rule) → On (sort rule) → On (asks rule s p x)
        → H x → H (own rule (timing_in s) x))
        → (m : ℕ) {list : List Rule} → On (all_keep sort (take m list)) → Leads H (drop m list) E → Leads H list E
    keep-any H sort fires m ok later =
        keep (λ k. true) (λ k x fit. early k x) (λ k x fit. late k x) H sort
        (λ rule s x other is on h. (refl, fires rule s x other is on h)) m ok later

-- the rules after Select
abbrev pub main_rest : List Rule
main_rest = drop 1 main_order

-- Select is reached once, and then each port is visited
pub pass-by : (rest : List Rule) (c d n limit : ℕ) (B U V : Fact)
    → ((p : ℕ) (g : Going) → Stage d n (Zone V U U p) limit g → Stage d n (Zone V V U p) limit
    (tries_all rest p limit g))
    → c ≤ d → (g : Going) → Stage d n (λ q. U) limit (tries rules.Select 0 limit g) → Stage c n (λ q. B) limit g
    → Stage d n (λ q. V) limit (pass (rules.Select ∷ rest) limit g)
pass-by rest c d n limit B U V visit less g first h = go (length g.tree.ports) refl
  where
    enter : (p : ℕ) (x : Going) → Stage d n (Half V U p) limit x
        → Stage d n (Half V U (suc p)) limit (tries_all rest p limit x)
    enter p x k =
        stage-as d n limit (Zone V V U p) (Half V U (suc p)) (tries_all rest p limit x)
        (λ q y at within z. (
          λ below. elim (cases_lt q p) [
            | inl less ↦ z.0 less
            | inr from ↦ z.1 (omega arith)
          ],
          λ from. z.2 (omega arith),
        ))
        (visit p x (stage-as d n limit (Half V U p) (Zone V U U p) x
        (λ q y at within z. (z.0, λ e. z.1 (omega arith), λ less. z.1 (omega arith))) k))

    below : (m : ℕ) → Stage d n (Half V U (suc m)) limit (tries_below (rules.Select ∷ rest) (suc m) limit g)
    below zero =
        enter 0 (tries rules.Select 0 limit g)
        (stage-as d n limit (λ q. U) (Half V U 0) (tries rules.Select 0 limit g)
        (λ q y at within u. (λ none. absurd (omega arith), λ from. u)) first)
    below (suc m) =
        let x : Going = tries_below (rules.Select ∷ rest) (suc m) limit g in
        enter (suc m) (tries rules.Select (suc m) limit x) (rw (select-later m limit x) (below m))

    go : (m : ℕ) → length g.tree.ports ≡ m → Stage d n (λ q. V) limit (pass (rules.Select ∷ rest) limit g)
    go zero is =
        rw is (stage-as d n limit (λ q. B) (λ q. V) g (λ q y at within b. absurd (omega (arith, h.1)))
        (omega (arith, h.0), h.1, h.2))
    go (suc m) is =
        rw is (stage-as d n limit (Half V U (suc m)) (λ q. V) (tries_below (rules.Select ∷ rest) (suc m) limit g)
        (λ q y at within z. z.0 (omega (arith, h.1))) (below m))
