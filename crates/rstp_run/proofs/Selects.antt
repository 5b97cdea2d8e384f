-- At an event of a settled bridge Select fires at most twice: in the second pass and in the third.
use Rattle.rstp_run.proofs.Basics.{Claim, Fact, On, parts}
use Rattle.rstp_run.proofs.Names.{[], arith, cases_lt, direct, Event, eq-eqb, Going, IsReached, IsSettled, inl, inr}
use Rattle.rstp_run.proofs.Names.{is_select, List, length, main_order, not-true, pass, passes, Rule, refl, round}
use Rattle.rstp_run.proofs.Names.{selections, sending_order, suc, swept, Tree, timing_in, tries, tries_all, until_idle}
use Rattle.rstp_run.proofs.Names.{zero, ℕ, ◌+◌, ◌∷◌, ◌≡◌, ◌≤◌, ◌⊎◌}
use Rattle.rstp_run.proofs.Own.{after-at, all_keep, spread_of}
use Rattle.rstp_run.proofs.Places.{main_rest, pass-by, Stage, stage-rests, stage-select, stage-tries}
use Rattle.rstp_run.proofs.Quiet.{is_plain, own_stays, spread_stays}
use Rattle.rstp_run.proofs.Reached.{reached}
use Rattle.rstp_run.proofs.Ready.{comes-ready, direct-first}
use Rattle.rstp_run.proofs.Steps.{pass-full, pass-off, until-more, until-once}
use Rattle.rstp_run.proofs.Visits.{IsCalm, IsCalmOf, IsChosen, IsFirst, IsTaken, IsYoung, visit-first, visit-later}
use Rattle.rstp_run.proofs.Visits.{visit-second}
use Rattle.rstp_run.proofs.Whole.{pass-grows, pass-idle, passes-keeps, until-keeps}
use Rattle.rstp_run.specs.Firings.{SelectsTwice}
use Rattle.rstp_run.proofs.Names.rules

-- the facts after this many passes
abbrev pub Passed : ℕ → ℕ → ℕ → Claim
Passed n limit zero g = Stage 0 n (λ q. IsFirst) limit g
Passed n limit (suc zero) g = Stage 0 n (λ q. IsTaken) limit g
Passed n limit (suc (suc zero)) g = Stage 1 n (λ q. IsYoung) limit g
Passed n limit (suc (suc (suc k))) g = Stage 2 n (λ q. IsCalm) limit g

module _ (n limit : ℕ) (g : Going) where
  pub first-pass : Stage 0 n (λ q. IsFirst) limit g
      → Stage 0 n (λ q. IsTaken) limit (pass main_order limit g)
  first-pass h =
      pass-by main_rest 0 0 n limit IsFirst IsFirst IsTaken (visit-first n limit) (omega arith) g
      (stage-rests 0 n limit (λ q. IsFirst) 0 g (λ q y f. f.1) h) h

  -- Select is reached in the second pass
  pub second-select : Stage 0 n (λ q. IsTaken) limit g
      → Stage 1 n (λ q. IsChosen) limit (tries rules.Select 0 limit g)
  second-select h =
      stage-select 0 n limit (λ q. IsTaken) (λ q. IsChosen) g
      (λ s ports q y t. ((t.0, t.1, t.2, refl, t.4), refl)) (λ q y none t. (t, none)) h

  pub second-pass : Stage 0 n (λ q. IsTaken) limit g
      → Stage 1 n (λ q. IsYoung) limit (pass main_order limit g)
  second-pass h =
      pass-by main_rest 0 1 n limit IsTaken IsChosen IsYoung (visit-second n limit) (omega arith) g
      (second-select h) h

  -- Select is reached in the third pass
  pub third-select : Stage 1 n (λ q. IsYoung) limit g
      → Stage 2 n (λ q. IsCalm) limit (tries rules.Select 0 limit g)
  third-select h =
      stage-select 1 n limit (λ q. IsYoung) (λ q. IsCalm) g
      (λ s ports q y t. (((t.0.0, t.0.1, t.0.2, refl, t.0.4), t.1), refl)) (λ q y none t. (t, none)) h

-- a pass after that
calm-pass : (c d n limit : ℕ) (B : Fact) (g : Going) → c ≤ d
    → Stage d n (λ q. IsCalm) limit (tries rules.Select 0 limit g) → Stage c n (λ q. B) limit g
    → Stage d n (λ q. IsCalm) limit (pass main_order limit g)
calm-pass c d n limit B g less first h =
    pass-by main_rest c d n limit B IsCalm IsCalm (visit-later d n limit) less g first h

later-pass : (c n limit : ℕ) (g : Going) → Stage c n (λ q. IsCalm) limit g
    → Stage c n (λ q. IsCalm) limit (pass main_order limit g)
later-pass c n limit g h =
    calm-pass c c n limit IsCalm g (omega arith) (stage-rests c n limit (λ q. IsCalm) 0 g (λ q y t. t.1) h) h

sends-calm : (c n limit p : ℕ) (g : Going) → Stage c n (λ q. IsCalm) limit g
    → Stage c n (λ q. IsCalm) limit (tries_all sending_order p limit g)
sends-calm c n limit p g h = go sending_order refl g h
  where
    go : (list : List Rule) → On (all_keep is_plain list) → (g : Going) → Stage c n (λ q. IsCalm) limit g
        → Stage c n (λ q. IsCalm) limit (tries_all list p limit g)
    go [] plain g h = h
    go (rule ∷ rest) plain g h =
        let (first, later) = parts plain in
        let (selects, is) = parts first in
        let other = not-true (is_select rule) selects in
        go rest later (tries rule p limit g) (stage-tries c n limit (λ q. IsCalm) (λ q. IsCalm) rule p g other
        (λ off all. all) (λ on. after-at (λ q. IsCalm) (λ q. IsCalm) rule g.tree p other on
        (λ q x apart. spread_stays IsCalmOf (spread_of rule) x)
        (λ x asked. own_stays IsCalmOf rule (timing_in g.tree) x is)) h)

next_pass : (n limit k : ℕ) (g : Going) → Passed n limit k g → Passed n limit (suc k) (pass main_order limit g)
next_pass n limit zero g h = first-pass n limit g h
next_pass n limit (suc zero) g h = second-pass n limit g h
next_pass n limit (suc (suc zero)) g h =
    calm-pass 1 2 n limit IsYoung g (omega arith) (third-select n limit g h) h
next_pass n limit (suc (suc (suc k))) g h = later-pass 2 n limit g h

-- at the limit nothing is claimed of the ports
at_limit : (n limit k : ℕ) (g : Going) → limit ≤ length g.firings → Passed n limit k g → Passed n limit 3 g
at_limit n limit (suc (suc (suc k))) g full h = h
at_limit n limit _ g full h = (omega (arith, h.0), h.1, inl full)

idle_same : (limit : ℕ) (g : Going) → length (pass main_order limit g).firings ≡ length g.firings
    → pass main_order limit g ≡ g
idle_same limit g idle = elim (cases_lt (length g.firings) limit) [
  | inl below ↦ pass-off main_order limit g (pass-idle main_order limit g below idle)
  | inr full ↦ pass-full main_order limit g full
]

-- ---- facts that change with each pass up to the one of this number, and then stay

abbrev plus : ℕ → ℕ → ℕ
plus zero k = k
plus (suc j) k = suc (plus j k)

module _ (limit end : ℕ) (F : ℕ → Claim)
    (next : (k : ℕ) (g : Going) → F k g → F (suc k) (pass main_order limit g))
    (full : (k : ℕ) (g : Going) → limit ≤ length g.firings → F k g → F end g)
    (last : (k : ℕ) (g : Going) → F (plus end k) g → F end g)
    (sends : (p : ℕ) (g : Going) → F end g → F end (tries_all sending_order p limit g)) where
  -- a pass that fires nothing changes nothing, so the facts after later passes hold too
  idle_on : (j k : ℕ) (g : Going) → pass main_order limit g ≡ g → F k g → F (plus j k) g
  idle_on zero k g same h = h
  idle_on (suc j) k g same h = rw same at (next (plus j k) g (idle_on j k g same h))

  until_calm : (m k : ℕ) (g : Going) → limit ≤ m + length g.firings → F k g
      → F end (until_idle m (pass main_order limit) g)
  until_calm zero k g enough h = full k g (omega arith) h
  until_calm (suc m) k g enough h =
      let later : Going = pass main_order limit g in
      elim (cases_lt (length g.firings) (length later.firings)) [
        | inl more ↦ rw (until-more m (pass main_order limit) g more)
            (until_calm m (suc k) later (omega arith) (next k g h))
        | inr less ↦ (let grown = pass-grows limit (length g.firings) main_order g (omega arith) in
            let idle : length later.firings ≡ length g.firings = omega arith in
            let same = idle_same limit g idle in
            rw (until-once m (pass main_order limit) g (eq-eqb (length later.firings) (length g.firings) idle), same)
            (last k g (idle_on end k g same h)))
      ]

  round_calm : (k : ℕ) (g : Going) → F k g → F end (round limit g)
  round_calm k g h =
      passes-keeps (F end) limit sending_order sends (passes main_order limit g)
      (until_calm limit k g (omega arith) h)

  round_begun : (g : Going) → F 0 g ⊎ F end g → F 0 (round limit g) ⊎ F end (round limit g)
  round_begun g (inl h) = inr (round_calm 0 g h)
  round_begun g (inr h) = inr (round_calm end g h)

  -- the whole sweep
  pub sweep-reaches : (s : Tree) → F 0 (record { tree = s; firings = [] })
      → F 0 (swept limit s) ⊎ F end (swept limit s)
  sweep-reaches s h =
      until-keeps (λ g. F 0 g ⊎ F end g) (round limit) round_begun limit (record { tree = s; firings = [] }) (inl h)

-- the facts right after the event
pub passed-first : (event : Event) (limit : ℕ) (s : Tree) → IsReached s → IsSettled s
    → Passed (length (direct event s).ports) limit 0 (record { tree = direct event s; firings = [] })
passed-first event limit s can rests =
    let ready = comes-ready can.2.0 can.0 can.1 s can.2.1 in
    (omega arith, refl, inr (direct-first event s (reached can.0 can.1 s can.2) ready rests))

few : (n limit : ℕ) (g : Going) → Passed n limit 0 g ⊎ Passed n limit 3 g → selections g.firings ≤ 2
few n limit g (inl h) = omega (arith, h.0)
few n limit g (inr h) = h.0

pub selects-twice : SelectsTwice
selects-twice event limit s t settled mask can rests h =
    let n : ℕ = length (direct event s).ports in
    let reached_end = sweep-reaches limit 3 (Passed n limit) (next_pass n limit) (at_limit n limit) (λ k g z. z)
    (sends-calm 2 n limit) (direct event s) (passed-first event limit s can rests) in
    rw h.order at (few n limit (swept limit (direct event s)) reached_end)
