-- Ports that are there are ports.
use Rattle.std.proofs.Common.{◌≡◌, ℕ, zero, suc, ◌≤◌, ◌<◌, Bool, false, eqb, Some, List, [], ◌∷◌, length}
use Rattle.std.proofs.Common.{Contains, refl, sym, arith}
use Rattle.std.proofs.lemmas.Bool.{eq-eqb}
use Rattle.std.proofs.lemmas.Bool.Decides.{nat_tests}
use Rattle.std.proofs.lemmas.Bool.{or_cases}
use Rattle.std.specs.List.{list_any}
use Rattle.ether_wire.specs.Ports as ports_of_sets
use Rattle.std.specs.Prelude.{slice_get, is_some, true, ◌↔◌}
use Rattle.std.proofs.lemmas.Bool.{cases_Bool, or_right}
use Rattle.std.proofs.Common.{inl, inr, ◌∙◌}
use Rattle.rstp_run.specs.Events.{IsPort}
use Rattle.ev_claims.specs.LocalRoutes.{vni_at}

get_within : {X : Type 0} (xs : List X) (n : ℕ) → is_some (slice_get xs n) ≡ true → n < length xs
get_within [] n h = cc
get_within (x ∷ xs) zero h = omega arith
get_within (x ∷ xs) (suc n) h = let less = get_within xs n h in omega (arith, less)

pub there_port : (ports : List ℕ) (p : ℕ) → is_some (vni_at ports p) ≡ true → IsPort p (length ports)
there_port ports zero h = cc
there_port ports (suc l) h = let less = get_within ports l h in (omega arith, omega (arith, less))

pub some_port : (ports : List ℕ) (p v : ℕ) → vni_at ports p ≡ Some v → 0 < p
some_port ports p v is = (there_port ports p (rw is)).0

-- ports of an edge are ports of sets, too
pub set_port : (ports : List ℕ) (p v : ℕ) → length ports ≤ 64 → vni_at ports p ≡ Some v → ports_of_sets.IsPort p
set_port ports p v few is = let there = there_port ports p (rw is) in
    record { least = there.0; most = (let low = there.1 in omega (arith, low, few)) }

-- ---- whether a number is in a list
any_contains : (xs : List ℕ) (q : ℕ) → list_any (λ v. eqb v q) xs ≡ true → Contains xs q
any_contains [] q e = cc
any_contains (x ∷ xs) q e = elim (or_cases (eqb x q) (list_any (λ v. eqb v q) xs) e) [
  | inl t ↦ (0, omega arith, grind (arith, nat_tests))
  | inr later ↦ (let h = any_contains xs q later in (suc h.0, omega (arith, h.1), h.2))
]

contains_any : (xs : List ℕ) (q : ℕ) → Contains xs q → list_any (λ v. eqb v q) xs ≡ true
contains_any [] q c = let less = c.1 in absurd (omega (arith, less))
contains_any (x ∷ xs) q (zero, less, is) = rw (eq-eqb x q is)
contains_any (x ∷ xs) q (suc k, less, is) = or_right (eqb x q) (list_any (λ v. eqb v q) xs)
    (contains_any xs q (k, omega (arith, less), is))

pub any_is : (b : Bool) (xs : List ℕ) (q : ℕ) → (b ≡ true) ↔ Contains xs q → b ≡ list_any (λ v. eqb v q) xs
any_is true xs q h = sym (contains_any xs q (h.0 refl))
any_is false xs q h = elim (cases_Bool (list_any (λ v. eqb v q) xs)) [
  | inl there ↦ h.1 (any_contains xs q there) ∙ sym there
  | inr away ↦ sym away
]
