-- Each firing lowers the measure, if Edge fires only at a port at which Discard isn't enabled.
-- The measure of a bridge as one number, and its bound.
use Rattle.rstp_run.proofs.Basics.{Number, Off, On, parts}
use Rattle.rstp_run.proofs.LowersPorts.{edge_lowers, informs_select, migration_lowers, not_edge_lowers, receive_lowers}
use Rattle.rstp_run.proofs.LowersPorts.{receive_stays, transmit_lowers, update_lowers, update_stays}
use Rattle.rstp_run.proofs.LowersRoles.{raises, role_lowers, state_lowers, topology_lowers}
use Rattle.rstp_run.proofs.Measure.{acting, changing-le, going_on-le, Lowers, migrating-le, raise, selecting}
use Rattle.rstp_run.proofs.Measure.{selecting_of, stepping-le, waiting-le}
use Rattle.rstp_run.proofs.Names.{[], after, ap, arith, asks, best_path, enough_firings, guard, InformationRule}
use Rattle.rstp_run.proofs.Names.{information_asks, inl, inr, is_select, is_through, List, length, list_any, PortState}
use Rattle.rstp_run.proofs.Names.{ports_after, Rule, refl, Some, selected_root, slice_get, Timing, Tree, timing_in}
use Rattle.rstp_run.proofs.Names.{wants_selection, with_choice, ℕ, ◌*◌, ◌+◌, ◌<◌, ◌∷◌, ◌≡◌, ◌≤◌, ◌⊎◌}
use Rattle.rstp_run.proofs.Own.{Nothing, own, Spread, spread_by, spread_of, total-after}
use Rattle.rstp_run.proofs.Quiet.{is_plain, own_still, spread_still}
use Rattle.rstp_run.proofs.Steps.{length-ports_after}
use Rattle.rstp_run.proofs.Totals.{if_so-le, if_so-on, tested_at, total, total-marks}
use Rattle.rstp_state.specs.Selection.{selected_ports}
use Rattle.std.proofs.Math.Nat.{mul-le-mul_right}
use Rattle.rstp_run.proofs.Names.detection_rule
use Rattle.rstp_run.proofs.Names.information_rule
use Rattle.rstp_run.proofs.Names.receive_rule
use Rattle.rstp_run.proofs.Names.rules

-- the first level falls, or the second level falls and the first one doesn't rise
abbrev FallsTo : Tree → Tree → Type 0
FallsTo s t =
    (total selecting t.ports < total selecting s.ports)
    ⊎ ((total selecting t.ports ≤ total selecting s.ports)
    × (total (acting (length s.ports) (timing_in t)) t.ports < total (acting (length s.ports) (timing_in s)) s.ports))

select_falls : (s : Tree) (p : ℕ) → On (guard rules.Select s p)
    → total selecting (ports_after rules.Select s p) < total selecting s.ports
unfolding selected_ports
select_falls s p h =
    let (port, at, on) = tested_at (asks rules.Select s p) s.ports p h in
    omega (
      arith,
      total-marks selecting wants_selection
          (λ e. with_choice s.settings (selected_root s.settings s.ports)
          (is_through (best_path s.settings s.ports) e.0) e.1)
          (λ e. omega arith) 0 s.ports,
      if_so-on 1 (list_any wants_selection s.ports) (parts on).1,
    )

module _ (s : Tree) (p : ℕ) where
  -- the first level doesn't rise at other ports
  spread_stays : (k : Spread) (x : PortState) → selecting (spread_by k x) ≤ selecting x + 0
  spread_stays k x = omega (arith, ap selecting_of (spread_still k x))

  acts : (rule : Rule) → Off (is_select rule) → On (guard rule s p)
      → ((x : PortState) → slice_get s.ports p ≡ Some x → On (asks rule s p x)
      → (selecting (own rule (timing_in s) x) ≤ selecting x) × Lowers (length s.ports) (timing_in s) x rule)
      → (total selecting (ports_after rule s p) ≤ total selecting s.ports)
      × (total (acting (length s.ports) (timing_in s)) (ports_after rule s p)
      < total (acting (length s.ports) (timing_in s)) s.ports)
  acts rule other h acting_at =
      let (port, at, on) = tested_at (asks rule s p) s.ports p h in
      let (stays, lowers) = acting_at port at on in (
        omega (arith, total-after selecting 0 rule s p port other h at (spread_stays (spread_of rule))),
        omega (
          arith,
          total-after (acting (length s.ports) (timing_in s)) (raise (length s.ports) (spread_of rule)) rule s
              p port other h at (λ x. raises (length s.ports) (timing_in s) x (spread_of rule)),
          lowers,
        ),
      )

  plainly : (rule : Rule) → On (is_plain rule) → Off (is_select rule) → On (guard rule s p)
      → ((x : PortState) → slice_get s.ports p ≡ Some x → On (asks rule s p x)
      → Lowers (length s.ports) (timing_in s) x rule)
      → (total selecting (ports_after rule s p) ≤ total selecting s.ports)
      × (total (acting (length s.ports) (timing_in s)) (ports_after rule s p)
      < total (acting (length s.ports) (timing_in s)) s.ports)
  plainly rule plain other h lowers =
      acts rule other h
      (λ x at on. (omega (arith, ap selecting_of (own_still rule (timing_in s) x plain)), lowers x at on))

  information_falls : (rule : InformationRule) → On (guard (rules.Information rule) s p)
      → FallsTo s (after (rules.Information rule) s p)
  information_falls information_rule.Update h =
      inr (acts (rules.Information information_rule.Update) refl h
      (λ x at on. (update_stays x on, update_lowers (length s.ports) (timing_in s) x on)))
  information_falls rule h =
      let (port, at, on) = tested_at (information_asks rule) s.ports p h in
      inl (omega (
        arith,
        total-after selecting 0 (rules.Information rule) s p port refl h at (spread_stays Nothing),
        informs_select rule port refl on,
      ))

-- Discard isn't enabled where Edge fires
abbrev pub IsAfterDiscard : Rule → Tree → ℕ → Type 0
IsAfterDiscard (rules.Detection detection_rule.Edge) s p = Off (guard (rules.Receive receive_rule.Discard) s p)
IsAfterDiscard _ s p = Unit {0}

pub falls : (rule : Rule) (s : Tree) (p : ℕ) → 1 ≤ s.settings.hello → IsAfterDiscard rule s p → On (guard rule s p)
    → FallsTo s (after rule s p)
falls rules.Select s p some rest h = inl (select_falls s p h)
falls (rules.Receive rule) s p some rest h =
    inr (acts s p (rules.Receive rule) refl h
    (λ x at on. (receive_stays rule x on, receive_lowers (length s.ports) (timing_in s) x rule on)))
falls (rules.Migration rule) s p some rest h =
    inr (plainly s p (rules.Migration rule) refl refl h
    (λ x at. migration_lowers (length s.ports) (timing_in s) x rule))
falls (rules.Detection detection_rule.Edge) s p some rest h =
    inr (plainly s p (rules.Detection detection_rule.Edge) refl refl h
    (λ x at. edge_lowers (length s.ports) (timing_in s) x (rw at at rest)))
falls (rules.Detection detection_rule.NotEdge) s p some rest h =
    inr (plainly s p (rules.Detection detection_rule.NotEdge) refl refl h
    (λ x at. not_edge_lowers (length s.ports) (timing_in s) x))
falls (rules.Information rule) s p some rest h = information_falls s p rule h
falls (rules.Role rule) s p some rest h =
    inr (plainly s p (rules.Role rule) refl refl h
    (λ x at. role_lowers (length s.ports) (timing_in s) x rule s.ports p))
falls (rules.State rule) s p some rest h =
    inr (plainly s p (rules.State rule) refl refl h (λ x at. state_lowers (length s.ports) (timing_in s) x rule))
falls (rules.Topology rule) s p some rest h =
    inr (plainly s p (rules.Topology rule) refl refl h
    (λ x at. topology_lowers (length s.ports) (timing_in s) x rule))
falls (rules.Transmit rule) s p some rest h =
    inr (plainly s p (rules.Transmit rule) refl refl h
    (λ x at. transmit_lowers (length s.ports) (timing_in s) x some rule))

-- ---- bounds of the two levels

selecting-le : (port : PortState) → selecting port ≤ 13
selecting-le port = omega (arith, if_so-le)

-- the most that the second level of one port can be
abbrev pub most : ℕ → ℕ
most n = 24 * n * n + 122 * n + 168

acting-le : (n : ℕ) (timing : Timing) (port : PortState) → acting n timing port ≤ most n
acting-le n timing port =
    omega (arith, if_so-le, changing-le, stepping-le, going_on-le, waiting-le, migrating-le)

total-le : (f : Number) (c : ℕ) → ((port : PortState) → f port ≤ c) → (ports : List PortState)
    → total f ports ≤ length ports * c
total-le f c bound [] = omega arith
total-le f c bound (x ∷ xs) = omega (arith, bound x, total-le f c bound xs)

-- ---- one number for both levels

abbrev measure_of : ℕ → Timing → List PortState → ℕ
measure_of n timing ports = total selecting ports * (n * most n + 1) + total (acting n timing) ports

pub measure : Tree → ℕ
measure s = measure_of (length s.ports) (timing_in s) s.ports

-- the first level counts for more than all of the second
smaller : (b f g k l : ℕ) → g < f → l ≤ b → g * (b + 1) + l < f * (b + 1) + k
smaller b f g k l less few = omega (arith, mul-le-mul_right (b + 1) less)

no_more : (b f g k l : ℕ) → g ≤ f → l < k → g * (b + 1) + l < f * (b + 1) + k
no_more b f g k l less few = omega (arith, mul-le-mul_right (b + 1) less)

-- a bridge with this number of ports, before and after
falls_as_one : (n : ℕ) (timing timing' : Timing) (a b : List PortState) → length b ≡ n
    → (total selecting b < total selecting a)
    ⊎ ((total selecting b ≤ total selecting a) × (total (acting n timing') b < total (acting n timing) a))
    → measure_of n timing' b < measure_of n timing a
falls_as_one n timing timing' a b same (inl less) =
    smaller (n * most n) (total selecting a) (total selecting b) (total (acting n timing) a)
    (total (acting n timing') b) less (rw same at (total-le (acting n timing') (most n) (acting-le n timing') b))
falls_as_one n timing timing' a b same (inr no_less) =
    no_more (n * most n) (total selecting a) (total selecting b) (total (acting n timing) a)
    (total (acting n timing') b) no_less.0 no_less.1

pub measure-falls : (rule : Rule) (s : Tree) (p : ℕ) → 1 ≤ s.settings.hello → IsAfterDiscard rule s p
    → On (guard rule s p) → measure (after rule s p) < measure s
unfolding measure
measure-falls rule s p some rest on =
    let same = length-ports_after rule s p in
    rw same (falls_as_one (length s.ports) (timing_in s) (timing_in (after rule s p)) s.ports (ports_after rule s p)
    same (falls rule s p some rest on))

under : (b n g l : ℕ) → g ≤ n * 13 → l ≤ b → g * (b + 1) + l < (13 * n + 1) * (b + 1)
under b n g l less few = omega (arith, mul-le-mul_right (b + 1) less)

pub measure-bound : (s : Tree) → measure s < enough_firings (length s.ports)
unfolding measure
measure-bound s =
    let n : ℕ = length s.ports in
    let first = total-le selecting 13 selecting-le s.ports in
    let second = total-le (acting n (timing_in s)) (most n) (acting-le n (timing_in s)) s.ports in
    under (n * most n) n (total selecting s.ports) (total (acting n (timing_in s)) s.ports) first second
