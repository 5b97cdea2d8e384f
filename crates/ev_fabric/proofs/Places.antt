-- Places of lists, and one edge of a list.
use Rattle.std.proofs.Common.{subst, ◌≡◌, ◌≢◌, ◌⊎◌, inl, inr, ℕ, zero, suc, ◌-◌, ◌<◌, ◌≤◌, Some, List, []}
use Rattle.std.proofs.Common.{◌∷◌, ◌++◌, length, take, get_or, refl, sym, ap, ◌∙◌, arith}
use Rattle.std.specs.Prelude.{Contains, slice_get, slice_set}
use Rattle.std.proofs.lemmas.Option.{slice_get-get_or, slice_get_within, get_or_from_slice_get, slice_get_cases}
use Rattle.ev_fabric.specs.Fabric.{nth}
use Rattle.route_join.proofs.WinnerTrees.{set_here, set_there}

-- ---- one element of a list is replaced
pub set_cases : {A : Type 0} (xs : List A) (i : ℕ) (b : A) (j : ℕ) (c : A) → slice_get (slice_set xs i b) j ≡ Some c
    → ((j ≡ i) × (c ≡ b)) ⊎ ((j ≢ i) × (slice_get xs j ≡ Some c))
set_cases [] i b j c is = cc
set_cases (x ∷ xs) zero b zero c is = inl (refl, cc)
set_cases (x ∷ xs) zero b (suc j) c is = inr (omega arith, is)
set_cases (x ∷ xs) (suc i) b zero c is = inr (omega arith, is)
set_cases (x ∷ xs) (suc i) b (suc j) c is = elim (set_cases xs i b j c is) [
  | inl h ↦ inl (ap suc h.0, h.1)
  | inr h ↦ inr (omega (arith, h.0), h.1)
]

-- a property of each element still holds after one of them becomes another with it
pub each_set : {A : Type 0} (P : A → Type 0) (xs : List A) (i : ℕ) (b : A) → P b
    → ((j : ℕ) (c : A) → slice_get xs j ≡ Some c → P c) → (j : ℕ) (c : A) → slice_get (slice_set xs i b) j ≡ Some c
    → P c
each_set P xs i b here others j c at = elim (set_cases xs i b j c at) [
  | inl p ↦ subst P (sym p.1) here
  | inr p ↦ others j c p.1
]

pub set_same : {A : Type 0} (xs : List A) (i : ℕ) {a : A} (b : A) → slice_get xs i ≡ Some a
    → slice_get (slice_set xs i b) i ≡ Some b
set_same xs i {a} b is = set_here xs i b (slice_get_within xs i a is)

pub set_other : {A : Type 0} (xs : List A) (i : ℕ) (b : A) (j : ℕ) {c : A} → j ≢ i → slice_get xs j ≡ Some c
    → slice_get (slice_set xs i b) j ≡ Some c
set_other xs i b j ne is = set_there xs i j b ne ∙ is

pub contains_at : {A : Type 0} (xs : List A) (i : ℕ) {a : A} → slice_get xs i ≡ Some a → Contains xs a
contains_at xs i {a} is = (i, slice_get_within xs i a is, get_or_from_slice_get xs i a a is)

-- an element below the length is there
pub there_at : {A : Type 0} (xs : List A) (i : ℕ) → i < length xs → (a : A) × (slice_get xs i ≡ Some a)
there_at xs i less = elim (slice_get_cases xs i).1 [
  | inl x ↦ (x.0, x.2)
  | inr past ↦ absurd (omega (arith, past.0))
]

-- ---- places counted from 1
pub minus : (i : ℕ) → suc i - 1 ≡ i
minus i = omega arith

pub at_index : {A : Type 0} (xs : List A) (e : ℕ) (a d : A) → (e ≡ 0 → ⊥) → e ≤ length xs → a ≡ get_or xs (e - 1) d
    → nth xs e ≡ Some a
at_index xs zero a d pos in' at = absurd (pos refl)
at_index xs (suc i) a d pos in' at =
    let index : suc i - 1 ≡ i = omega arith in
    slice_get-get_or xs i d (omega arith) ∙ ap Some (sym (at ∙ ap (λ n. get_or xs n d) index))

pub there_nth : {A : Type 0} (xs : List A) (e : ℕ) → (e ≡ 0 → ⊥) → e ≤ length xs → (a : A) × (nth xs e ≡ Some a)
there_nth xs zero pos in' = absurd (pos refl)
there_nth xs (suc i) pos in' = there_at xs i (omega arith)

pub same_nth : {A : Type 0} (xs : List A) (e : ℕ) {a b : A} → nth xs e ≡ Some a → nth xs e ≡ Some b → a ≡ b
same_nth xs e p q = cc

-- ---- the front of a list, and one element more
pub take_get : {A : Type 0} (xs : List A) (n j : ℕ) {c : A} → slice_get (take n xs) j ≡ Some c
    → (j < n) × (slice_get xs j ≡ Some c)
take_get [] zero j is = cc
take_get [] (suc n) j is = cc
take_get (x ∷ xs) zero j is = cc
take_get (x ∷ xs) (suc n) zero is = (omega arith, is)
take_get (x ∷ xs) (suc n) (suc j) is = let h = take_get xs n j is in (omega (arith, h.0), h.1)

pub get_take : {A : Type 0} (xs : List A) (n j : ℕ) {c : A} → j < n → slice_get xs j ≡ Some c
    → slice_get (take n xs) j ≡ Some c
get_take xs zero j less is = absurd (omega arith)
get_take [] (suc n) j less is = is
get_take (x ∷ xs) (suc n) zero less is = is
get_take (x ∷ xs) (suc n) (suc j) less is = get_take xs n j (omega arith) is

pub push_get : {A : Type 0} (xs : List A) (b : A) (j : ℕ) {a : A} → slice_get (xs ++ b ∷ []) j ≡ Some a
    → (slice_get xs j ≡ Some a) ⊎ ((j ≡ length xs) × (a ≡ b))
push_get [] b zero is = inr (refl, cc)
push_get [] b (suc j) is = cc
push_get (x ∷ xs) b zero is = inl is
push_get (x ∷ xs) b (suc j) is = elim (push_get xs b j is) [
  | inl h ↦ inl h
  | inr h ↦ inr (ap suc h.0, h.1)
]

pub push_length : {A : Type 0} (xs : List A) (b : A) → length (xs ++ b ∷ []) ≡ suc (length xs)
push_length [] b = refl
push_length (x ∷ xs) b = ap suc (push_length xs b)
