-- the ports of a VNI, one port more at a time
use Rattle.std.proofs.Common.{◌≡◌, ◌≢◌, inl, inr, ℕ, zero, suc, ◌+◌, ◌≤◌, Bool, true, false, eqb, Some, List, length}
use Rattle.std.proofs.Common.{refl, arith}
use Rattle.std.specs.Prelude.{slice_get, nat_le, ◌&&◌, ◌||◌}
use Rattle.std.proofs.lemmas.Bool.{eq-eqb, ne_eqb, cases_eq, cases_lt}
use Rattle.std.proofs.lemmas.Bool.Decides.{nat_tests}
use Rattle.std.proofs.lemmas.Option.{slice_get_past}
use Rattle.ev_claims.specs.LocalRoutes.{is_member}

abbrev pub Counted : List ℕ → ℕ → ℕ → ℕ → Bool
Counted ports vni place p = nat_le p place && is_member ports vni p

le_step : {p : ℕ} (place : ℕ) → place + 1 ≢ p → nat_le p (place + 1) ≡ nat_le p place
le_step place ne = grind (arith, nat_tests)

member_at : (ports : List ℕ) (vni place : ℕ) {item : ℕ} → slice_get ports place ≡ Some item
    → is_member ports vni (place + 1) ≡ eqb item vni
member_at ports vni place there = (let one : place + 1 ≡ suc place = omega arith in rw (one, there))

pub with_member : (ports : List ℕ) (vni place : ℕ) {item : ℕ} → slice_get ports place ≡ Some item → eqb item vni ≡ true
    → (p : ℕ) (b : Bool) → b ≡ Counted ports vni place p → (eqb (place + 1) p || b) ≡ Counted ports vni (place + 1) p
with_member ports vni place {item} there here p b is = elim (cases_eq (place + 1) p) [
  | inl same ↦ (let le : nat_le p (place + 1) ≡ true = grind (arith, nat_tests) in
      rw (eq-eqb (place + 1) p same, le, ← same, member_at ports vni place there, here))
  | inr ne ↦ rw (ne_eqb (place + 1) p ne, is, le_step place ne)
]

pub without_member : (ports : List ℕ) (vni place : ℕ) {item : ℕ} → slice_get ports place ≡ Some item → eqb item vni ≡
    false
    → (p : ℕ) (b : Bool) → b ≡ Counted ports vni place p → b ≡ Counted ports vni (place + 1) p
without_member ports vni place {item} there here p b is = elim (cases_eq (place + 1) p) [
  | inl same ↦
      let le : nat_le p place ≡ false = grind (arith, nat_tests) in
      let le_next : nat_le p (place + 1) ≡ true = grind (arith, nat_tests) in
      rw (is, le, le_next, ← same, member_at ports vni place there, here)
  | inr ne ↦ rw (is, le_step place ne)
]

pub none_counted : (ports : List ℕ) (vni p : ℕ) → Counted ports vni 0 p ≡ false
none_counted ports vni zero = refl
none_counted ports vni (suc p) = (let le : nat_le (suc p) 0 ≡ false = grind (arith, nat_tests) in rw le)

pub all_counted : (ports : List ℕ) (vni : ℕ) {place : ℕ} (p : ℕ) → length ports ≤ place
    → Counted ports vni place p ≡ is_member ports vni p
all_counted ports vni {place} zero all = (let le : nat_le 0 place ≡ true = grind (arith, nat_tests) in rw le)
all_counted ports vni {place} (suc p) all = elim (cases_lt place (suc p)) [
  | inl more ↦ (let le : nat_le (suc p) place ≡ false = grind (arith, nat_tests) in
      rw (le, slice_get_past ports p (omega (arith, all, more))))
  | inr less ↦ (let le : nat_le (suc p) place ≡ true = grind (arith, nat_tests) in rw le)
]
