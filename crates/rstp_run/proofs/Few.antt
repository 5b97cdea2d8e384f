-- A bound of the firings at an event of a settled bridge: the costs of the first five passes, and then a number that
-- each firing lowers.
use Rattle.rstp_run.proofs.Basics.{Claim, clash, Fact, Facts, Number, Off, On, parts}
use Rattle.rstp_run.proofs.Caps.{early-pass, fresh-goes, IsFresh, late-pass, left_due, taken-goes}
use Rattle.rstp_run.proofs.Costs.{sum}
use Rattle.rstp_run.proofs.Dues.{late-few}
use Rattle.rstp_run.proofs.Each.{AtAll}
use Rattle.rstp_run.proofs.Falls.{IsAfterDiscard}
use Rattle.rstp_run.proofs.Fixed.{IsFixed}
use Rattle.rstp_run.proofs.Flags.{after_roles, Bits, core1, core2, due, FlagTest, first_visit, second_visit, shut}
use Rattle.rstp_run.proofs.Gates.{Begun, Ended, lit, visit-ends}
use Rattle.rstp_run.proofs.Inputs.{owed, update-costs}
use Rattle.rstp_run.proofs.Kept.{IsKept, Keeps, kept_walks, OneRoot}
use Rattle.rstp_run.proofs.Late.{IsLate, late-after, late-bound, late-falls, remains}
use Rattle.rstp_run.proofs.Names.{[], arith, Bool, cases_Bool, direct, fired, Going, guard, IsOrderly, inl, inr}
use Rattle.rstp_run.proofs.Names.{is_select, length, length-map, main_order, map, most_firings, no, PortState, pass}
use Rattle.rstp_run.proofs.Names.{Rule, refl, sending_order, subst, suc, swept, sym, Tree, timing_in, tries, tries_all}
use Rattle.rstp_run.proofs.Names.{true, without_slot, zero, ℕ, ◌*◌, ◌+◌, ◌<◌, ◌||◌, ◌∙◌, ◌≡◌, ◌≤◌, ◌⊎◌}
use Rattle.rstp_run.proofs.Orderly.{at_place, orderly-after, orderly-direct}
use Rattle.rstp_run.proofs.Own.{Nothing, Spread, spread_by}
use Rattle.rstp_run.proofs.Places.{main_rest, pass-by, Stage, select-rests, stage-as, stage-rests}
use Rattle.rstp_run.proofs.Poses.{work}
use Rattle.rstp_run.proofs.Quiet.{spread_stays}
use Rattle.rstp_run.proofs.Reached.{reached}
use Rattle.rstp_run.proofs.Ready.{AreReady, comes-ready, Readies, ready_walks, starts}
use Rattle.rstp_run.proofs.Selects.{first-pass, Passed, passed-first, second-pass, second-select, sweep-reaches}
use Rattle.rstp_run.proofs.Selects.{third-select}
use Rattle.rstp_run.proofs.Settling.{length-direct, main-holds, sends-hold}
use Rattle.rstp_run.proofs.Shares.{Held, held-as}
use Rattle.rstp_run.proofs.Spans.{at_work, fits-nothing, fits-work, nothing}
use Rattle.rstp_run.proofs.Steady.{IsBase, IsSteady}
use Rattle.rstp_run.proofs.Steps.{IsFull, length-ports_after, pass-full, tries-off, tries_all-full}
use Rattle.rstp_run.proofs.Takes.{IsRested, IsTakenUp, visit-takes}
use Rattle.rstp_run.proofs.Visits.{IsCalm, IsChosen, IsFirst, IsTaken, IsTakenOf, IsYoung}
use Rattle.rstp_run.proofs.Walk.{direct_holds, rule_holds}
use Rattle.rstp_run.proofs.Whole.{all-keeps, pass-keeps, tries-cases}
use Rattle.rstp_run.specs.Firings.{EventsAreShort}
use Rattle.rstp_run.proofs.Names.info
use Rattle.rstp_run.proofs.Names.rules

-- ---- facts of the whole sweep

module _ (n limit : ℕ) where
  abbrev IsWell : Claim
  IsWell g =
      IsKept g.tree.ports × AreReady g.tree × AtAll (λ q. IsOrderly) g.tree.ports × (length g.tree.ports ≡ n)
      × (1 ≤ g.tree.settings.hello)

  well_fires : (rule : Rule) (p : ℕ) (g : Going) → On (guard rule g.tree p) → IsWell g → IsWell (fired rule p g)
  well_fires rule p g on h = (
    rule_holds (λ s. IsKept s.ports) (λ s. Keeps) kept_walks rule g.tree p on h.0,
    rule_holds AreReady (λ s. Readies) ready_walks rule g.tree p on h.1,
    orderly-after rule g.tree p on h.2,
    length-ports_after rule g.tree p ∙ h.3,
    h.4,
  )

  well_pass : (g : Going) → IsWell g → IsWell (pass main_order limit g)
  well_pass g h =
      pass-keeps IsWell limit main_order
      (all-keeps IsWell limit (λ rule p x k. tries-cases IsWell rule p limit x (λ below on. well_fires rule p x on k) k)
      main_order) g h

  -- ---- after five passes

  abbrev Spends : Claim
  Spends g =
      IsWell g × AtAll (λ q. IsLate) g.tree.ports × (length g.firings + remains n g.tree ≤ 63 * n + 55)

  spends : (rule : Rule) (p : ℕ) (g : Going) → IsAfterDiscard rule g.tree p → On (guard rule g.tree p) → Spends g
      → Spends (fired rule p g)
  spends rule p g rest on h = elim (cases_Bool (is_select rule)) [
    | inl is ↦ clash (select-rests g.tree p (λ q x at. (h.1 q x at).0.0.0.1)) (rw (selects rule is) at on)
    | inr is ↦ ((
      well_fires rule p g on h.0,
      late-after rule g.tree p is on h.1,
      omega (arith, late-falls n rule g.tree p is h.0.4 h.0.3 h.1 rest on, h.2),
    ))
  ]
    where
      selects : (r : Rule) → On (is_select r) → r ≡ rules.Select
      selects rules.Select e = refl
      selects r e = no e

  abbrev IsLast : Claim
  IsLast g = (IsFull limit g × (length g.firings ≤ 63 * n + 55)) ⊎ Spends g

  -- the cost of a port after the third pass, at most
  abbrev after_third : Number
  after_third x = owed x + (8 + work x.learn x.forward x.learning x.forwarding)

  abbrev Counted : Number → ℕ → ℕ → Claim
  Counted V a b g = IsWell g × Held V n limit (a * n + b) g

  abbrev Spent : ℕ → Claim
  Spent zero g = Passed n limit 0 g × Counted owed 11 36 g
  Spent (suc zero) g = Passed n limit 1 g × Counted owed 20 41 g
  Spent (suc (suc zero)) g = Passed n limit 2 g × Counted owed 31 46 g
  Spent (suc (suc (suc zero))) g = Stage 2 n (λ q x. IsSteady x × IsRested x) limit g × Counted after_third 52 51 g
  Spent (suc (suc (suc (suc zero)))) g =
      Stage 2 n (λ q. Ended core1) limit g × Counted (left_due (timing_in g.tree)) 54 52 g
  Spent (suc (suc (suc (suc (suc k))))) g = IsLast g

  facts_of : (P : Facts) (R : Fact) → ((q : ℕ) (x : PortState) → P q x → R x) → (g : Going)
      → IsFull limit g ⊎ AtAll P g.tree.ports → IsFull limit g ⊎ AtAll (λ q. R) g.tree.ports
  facts_of P R by g (inl full) = inl full
  facts_of P R by g (inr all) = inr (λ q x at. by q x (all q x at))

  -- one root port, after Select
  selected_well : (g : Going) → IsWell g → IsWell (tries rules.Select 0 limit g)
  selected_well g h = tries-cases IsWell rules.Select 0 limit g (λ below on. well_fires rules.Select 0 g on h) h

  roots : (g : Going) → IsWell g → OneRoot (tries rules.Select 0 limit g).tree.ports
  roots g h = (selected_well g h).0.roots

  -- the first pass: nothing is to be taken over
  resting : (x : PortState) → Off x.update_info → On (info.update_guard x) → owed (info.update_effect x) < owed x + 0
  resting x r on = clash r (parts on).1

  count_first : (g : Going) → Spent 0 g → Counted owed 20 41 (pass main_order limit g)
  count_first g h = (
    well_pass g h.1.0,
    held-as (λ x. owed x + 0) owed n limit (20 * n + 41) (pass main_order limit g)
        (early-pass IsFresh (spread_stays (λ y. Off y.known.update_info)) fresh-goes 0
        resting nothing 0 4 fits-nothing (λ x. 0) (λ x. refl) (λ k x. refl) (λ x. refl) n
        limit (11 * n + 36) g h.1.0.3 (facts_of (λ q. IsFirst) IsFresh (λ q x k. k.3) (tries rules.Select 0 limit g)
        (stage-rests 0 n limit (λ q. IsFirst) 0 g (λ q y f. f.1) h.0).2) (roots g h.1.0) h.1.1) (λ x. omega arith)
        (omega arith),
  )

  taken_spreads : (k : Spread) (x : PortState) → IsTaken x → IsTaken (spread_by k x)
  taken_spreads = spread_stays IsTakenOf

  -- Update at a port at which no message is pending
  updating : (x : PortState) → IsTaken x → On (info.update_guard x) → owed (info.update_effect x) < owed x + 2
  updating x r on = omega (arith, update-costs x r.2 on)

  count_second : (g : Going) → Spent 1 g → Counted owed 31 46 (pass main_order limit g)
  count_second g h = (
    well_pass g h.1.0,
    held-as (λ x. owed x + 0) owed n limit (31 * n + 46) (pass main_order limit g)
        (early-pass IsTaken taken_spreads taken-goes 2 updating nothing 0 4 fits-nothing (λ x. 0) (λ x. refl)
        (λ k x. refl) (λ x. refl) n limit (20 * n + 41) g h.1.0.3
        (facts_of (λ q. IsChosen) IsTaken (λ q x k. k.0) (tries rules.Select 0 limit g) (second-select n limit g h.0).2)
        (roots g h.1.0) h.1.1) (λ x. omega arith) (omega arith),
  )

  abbrev works : Number
  works x = 8 + work x.learn x.forward x.learning x.forwarding

  calm : (k : Spread) (x : PortState) → works (spread_by k x) ≡ works x
  calm Nothing x = refl
  calm k x = refl

  count_third : (g : Going) → Spent 2 g → Counted after_third 52 51 (pass main_order limit g)
  count_third g h = (
    well_pass g h.1.0,
    held-as after_third after_third n limit (52 * n + 51) (pass main_order limit g)
        (early-pass IsTaken taken_spreads taken-goes 2 updating at_work 8 14 fits-work works (λ x. refl) calm
        (λ x. refl)
        n limit (31 * n + 46) g h.1.0.3
        (facts_of (λ q. IsCalm) IsTaken (λ q x k. k.0.0) (tries rules.Select 0 limit g) (third-select n limit g h.0).2)
        (roots g h.1.0) h.1.1) (λ x. omega arith) (omega arith),
  )

  -- a pass in which each port has its role
  counts : (P : Facts) → ((q : ℕ) (x : PortState) → P q x → IsFixed x) → (a b : ℕ) (g : Going)
      → Stage 2 n P limit g → Counted (left_due (timing_in g.tree)) a b g
      → Counted (left_due (timing_in (pass main_order limit g).tree)) (a + 2) (b + 1) (pass main_order limit g)
  counts P fixed a b g stage h = (
    well_pass g h.0,
    (let due = left_due (timing_in (pass main_order limit g).tree) in
        held-as due due n limit ((a + 2) * n + (b + 1)) (pass main_order limit g) (go stage.2) (λ x. omega arith)
        (omega arith)),
  )
    where
      reselects : (q : ℕ) (x : PortState) → P q x → Off x.reselect
      reselects q x k = (fixed q x k).0.0.1

      go : IsFull limit g ⊎ AtAll P g.tree.ports
          → Held (left_due (timing_in (pass main_order limit g).tree)) n limit (a * n + b + 1 + 2 * n)
          (pass main_order limit g)
      go (inl full) =
          subst (λ (z : Going). Held (left_due (timing_in z.tree)) n limit (a * n + b + 1 + 2 * n) z)
          (sym (pass-full main_order limit g full)) (omega (arith, h.1.0), inl full)
      go (inr all) =
          let off : tries rules.Select 0 limit g ≡ g =
          tries-off rules.Select 0 limit g (select-rests g.tree 0 (λ q x at. reselects q x (all q x at))) in
          late-pass n limit (a * n + b) g h.0.3 off
          (facts_of P IsFixed fixed (tries rules.Select 0 limit g) (stage-rests 2 n limit P 0 g reselects stage).2) h.1

  -- Select is reached in the third pass, and then information rests, and each port takes its role
  third : (g : Going) → Spent 2 g → Stage 2 n (λ q x. IsSteady x × IsRested x) limit (pass main_order limit g)
  third g h =
      let well = selected_well g h.1.0 in
      pass-by main_rest 1 2 n limit IsYoung IsBase IsTakenUp (visit-takes 2 n limit) (omega arith) g
      (stage-as 2 n limit (λ q. IsCalm) (λ q. IsBase) (tries rules.Select 0 limit g)
      (λ q y at within k. (k, well.0.sound q y at, well.1 q y at)) (third-select n limit g h.0)) h.0

  begins : (core : FlagTest) (start : Bool → Bool → FlagTest)
      → ((dark inactive active : Bool) (b : Bits) → On (b.learn || dark) → On (start inactive active b)
      → On (after_roles dark (due core inactive active) b)) → (g : Going)
      → Stage 2 n (λ q. Begun start) limit g → Stage 2 n (λ q. Ended core) limit (pass main_order limit g)
  begins core start visits g h =
      pass-by main_rest 2 2 n limit (Begun start) (Begun start) (Ended core) (visit-ends core start visits 2 n limit)
      (omega arith) g (stage-rests 2 n limit (λ q. Begun start) 0 g (λ q x z. z.0.0.0.1) h) h

  fourth : (g : Going) → Spent 3 g → Stage 2 n (λ q. Ended core1) limit (pass main_order limit g)
  fourth g h =
      begins core1 (λ inactive active b. true) (λ dark inactive active b k any. first_visit dark inactive active b k) g
      (stage-as 2 n limit (λ q x. IsSteady x × IsRested x) (λ q. Begun (λ inactive active b. true)) g
      (λ q x at within z. ((z.0, z.1.0), (z.1.1, lit x (h.1.0.2 q x at) z.1.2, λ e. refl))) h.0)

  fifth : (g : Going) → Spent 4 g → Stage 2 n (λ q. Ended core2) limit (pass main_order limit g)
  fifth g h =
      begins core2 (shut core1) second_visit g
      (stage-as 2 n limit (λ q. Ended core1) (λ q. Begun (shut core1)) g
      (λ q x at within z. (z.0, (z.1.0, lit x (h.1.0.2 q x at) z.1.1, z.1.2))) h.0)

  last_of : (g : Going) → Counted (left_due (timing_in g.tree)) 56 53 g
      → Stage 2 n (λ q. Ended core2) limit g → IsLast g
  last_of g h stage = go stage.2 h.1.1
    where
      go : IsFull limit g ⊎ AtAll (λ q. Ended core2) g.tree.ports
          → IsFull limit g
          ⊎ ((f : ℕ → ℕ) × AtAll (λ q x. left_due (timing_in g.tree) x ≤ f q) g.tree.ports
          × (length g.firings + sum n f ≤ 56 * n + 53)) → IsLast g
      go (inl full) held = inl (full, omega (arith, h.1.0))
      go (inr all) (inl full) = inl (full, omega (arith, h.1.0))
      go (inr all) (inr s) =
          let late : AtAll (λ q. IsLate) g.tree.ports =
          λ q x at. (let k = all q x at in (k.0, k.1.2, k.1.3)) in
          inr (h.0, late, omega (arith, late-bound n g.tree s.0 h.0.3 h.0.0.roots s.1, s.2))

  -- the third pass ends with the cost of each port in later passes
  begins_late : (g : Going) → Counted after_third 52 51 g → Counted (left_due (timing_in g.tree)) 52 51 g
  begins_late g h = (
    h.0,
    held-as after_third (left_due (timing_in g.tree)) n limit (52 * n + 51) g h.1
        (λ x. omega (arith, late-few (timing_in g.tree) x)) (omega arith),
  )

  next : (k : ℕ) (g : Going) → Spent k g → Spent (suc k) (pass main_order limit g)
  next zero g h = (first-pass n limit g h.0, count_first g h)
  next (suc zero) g h = (second-pass n limit g h.0, count_second g h)
  next (suc (suc zero)) g h = (third g h, count_third g h)
  next (suc (suc (suc zero))) g h =
      (fourth g h, counts (λ q x. IsSteady x × IsRested x) (λ q x k. (k.0, k.1.0)) 52 51 g h.0 (begins_late g h.1))
  next (suc (suc (suc (suc zero)))) g h =
      last_of (pass main_order limit g) (counts (λ q. Ended core1) (λ q x k. k.0) 54 52 g h.0 h.1)
      (fifth g h)
  next (suc (suc (suc (suc (suc k))))) g (inl h) = subst IsLast (sym (pass-full main_order limit g h.0)) (inl h)
  next (suc (suc (suc (suc (suc k))))) g (inr h) =
      inr (pass-keeps Spends limit main_order (λ p. main-holds Spends spends p limit) g h)

  full : (k : ℕ) (g : Going) → IsFull limit g → Spent k g → Spent 5 g
  full (suc (suc (suc (suc (suc k))))) g all h = h
  full k g all h = inl (all, omega (arith, h.1.1.0))

  sends : (p : ℕ) (g : Going) → Spent 5 g → Spent 5 (tries_all sending_order p limit g)
  sends p g (inl h) = subst IsLast (sym (tries_all-full sending_order p limit g h.0)) (inl h)
  sends p g (inr h) = inr (sends-hold Spends spends p limit g h)

  count : (g : Going) → Spent 0 g ⊎ Spent 5 g → length g.firings ≤ 63 * n + 55
  count g (inl h) = omega (arith, h.1.1.0)
  count g (inr (inl h)) = omega (arith, h.1)
  count g (inr (inr h)) = omega (arith, h.2)

  few-firings : (s : Tree) → Spent 0 (record { tree = s; firings = [] })
      → length (swept limit s).firings ≤ 63 * n + 55
  few-firings s h = count (swept limit s) (sweep-reaches limit 5 Spent next full (λ k g z. z) sends s h)

-- ---- events of a settled bridge

pub events_are_short : EventsAreShort
events_are_short event limit s t settled mask can rests some h =
    let same : length (direct event s).ports ≡ length s.ports =
    length-direct event (map without_slot s.ports) ∙ length-map s.ports without_slot in
    let all = reached can.0 can.1 s can.2 in
    let ready = comes-ready can.2.0 can.0 can.1 s can.2.1 in
    let kept = direct_holds (λ v. IsKept v.ports) (λ v. Keeps) kept_walks.moves event s all.kept in
    let each = direct_holds AreReady (λ s. Readies) ready_walks.moves event s ready in
    subst (λ (g : Going). length g.firings ≤ most_firings (length s.ports)) h.order
    (few-firings (length s.ports) limit (direct event s) (
      subst (λ (k : ℕ). Passed k limit 0 (record { tree = direct event s; firings = [] })) same
          (passed-first event limit s can rests),
      (
        (kept, each, at_place IsOrderly (direct event s).ports (orderly-direct event s all.orderly), same, some),
        starts event s (length s.ports) limit all ready rests,
      ),
    ))
