-- The invariant of the quotas of ports.
use Rattle.std.proofs.Common.{◌≡◌, ℕ, zero, suc, ◌+◌, ◌-◌, ◌≤◌, Bool, true, false, not, Option, Some, None, List}
use Rattle.std.proofs.Common.{[], ◌∷◌, length}
use Rattle.std.proofs.Common.{refl, sym, ap, arith}
use Rattle.std.specs.Prelude.{◌&&◌, is_some, slice_set}
use Rattle.std.proofs.Math.Seq.{set_out}
use Rattle.std.proofs.lemmas.Bool.Decides.{nat_tests}
use Rattle.std.proofs.lemmas.Bool.{cases_Bool}
use Rattle.std.proofs.Common.{inl, inr}
use Rattle.ether_wire.specs.Ports.{place_of_port}
use Rattle.mac_arena.specs.declared.station.Station.{Station}
use Rattle.ev_edge.specs.declared.config.PortConfig.{PortConfig}
use Rattle.ev_edge.specs.declared.limits.Quota.{Quota}
use Rattle.ev_edge.specs.Limits.{is_met, quotas_of, quota_in, quota_at, runs, count_in, counting, with_counted}
use Rattle.ev_edge.specs.Limits.{IsKept, AreKept}
use Rattle.ev_edge.specs.Edge.{Edge}
use Rattle.ev_edge.specs.Learning.{needs_register, limits_at, is_busy, is_counted, quotas_with}

-- as time passes
pub later_kept : (qs : List Quota) (second later : ℕ) → second ≤ later → AreKept qs second → AreKept qs later
later_kept qs second later less h = λ port. record {
  started = let s = (h port).started in omega (arith, s, less);
  within = (h port).within;
}

-- at the opening
kept_at : (ports : List PortConfig) (n : ℕ) → IsKept (quota_in (quotas_of ports) n) 0
kept_at [] n = record { started = omega arith; within = λ most e. omega arith }
kept_at (p ∷ ports) zero = record { started = omega arith; within = λ most e. omega arith }
kept_at (p ∷ ports) (suc n) = kept_at ports n

pub opened_kept : (ports : List PortConfig) → AreKept (quotas_of ports) 0
opened_kept ports = λ port. kept_at ports (place_of_port port)

-- nothing is counted at a port that isn't there
pub counted_out : (qs : List Quota) (l : ℕ) (q : Quota) → length qs ≤ l → slice_set qs l q ≡ qs
counted_out qs l q past = set_out qs l q past

-- a station that isn't at the port
pub met_elsewhere : (met there : Bool) → there ≡ false → met ≡ (met && not there)
met_elsewhere true there away = sym (ap not away)
met_elsewhere false there away = refl

-- ---- one more new station

pub met_above : (limit : Option ℕ) (n most : ℕ) → is_met limit n ≡ false → limit ≡ Some most → n + 1 ≤ most
met_above None n most free is = cc
met_above (Some m) n most free is = let same : m ≡ most = cc in
    let less : m ≤ n → ⊥ = (λ h. grind (arith, nat_tests)) in
    rw (← same) (grind (arith, nat_tests))

counting_kept : (q : Quota) (second : ℕ) → IsKept q second
    → is_met q.limits.new_stations (count_in q second) ≡ false → IsKept (counting q second) second
counting_kept q second h free = record {
  started = elim (cases_Bool (runs q second)) [
    | inl on ↦ rw on h.started
    | inr off ↦ rw off (omega arith)
  ];
  within = λ most is. met_above q.limits.new_stations (count_in q second) most free is;
}

set_kept : (qs : List Quota) (l : ℕ) (q : Quota) (second : ℕ) → IsKept q second
    → ((n : ℕ) → IsKept (quota_in qs n) second) → (n : ℕ) → IsKept (quota_in (slice_set qs l q) n) second
set_kept [] l q second new old n = old n
set_kept (x ∷ xs) zero q second new old zero = new
set_kept (x ∷ xs) zero q second new old (suc n) = old (suc n)
set_kept (x ∷ xs) (suc l) q second new old zero = old zero
set_kept (x ∷ xs) (suc l) q second new old (suc n) = set_kept xs l q second new (λ k. old (suc k)) n

-- by index, as the ports are counted from 1
by_index : (qs : List Quota) (second : ℕ) → AreKept qs second → (n : ℕ) → IsKept (quota_in qs n) second
by_index qs second h n = let is : suc n - 1 ≡ n = omega arith in
    rw is at (h (suc n))

pub counted_kept : (qs : List Quota) (port second : ℕ) → AreKept qs second
    → is_met (quota_at qs port).limits.new_stations (count_in (quota_at qs port) second) ≡ false
    → AreKept (with_counted qs port second) second
counted_kept qs port second h free = λ p.
    set_kept qs (place_of_port port) (counting (quota_at qs port) second) second
    (counting_kept (quota_at qs port) second (h port) free) (by_index qs second h) (place_of_port p)

-- a station that is counted and not one too many
pub room_for_one : (some needs met : Bool) → (met && needs) ≡ false → (some && needs) ≡ true → met ≡ false
room_for_one some needs met calm counted = grind (arith, calm, counted)

pub quotas_kept : (e : Edge) (s : Station) (port : ℕ) → AreKept e.quotas e.clock → is_busy e s port ≡ false
    → AreKept (quotas_with e s port) e.clock
quotas_kept e s port h calm = elim (cases_Bool (is_counted e s port)) [
  | inl counted ↦ rw counted (counted_kept e.quotas port e.clock h
      (room_for_one (is_some (limits_at e port).new_stations) (needs_register e s) _ calm counted))
  | inr uncounted ↦ rw uncounted h
]
