-- Sums and counts over a list of which one element is replaced.
use Rattle.std.proofs.Common.{◌≡◌, ◌≢◌, ℕ, zero, suc, ◌+◌, ◌≤◌, Bool, true, false, cond, Some, List, [], ◌∷◌, ◌++◌}
use Rattle.std.proofs.Common.{refl, sym, ap, arith, length}
use Rattle.std.proofs.lemmas.List.Sums.{sum_by-cons, sum_by_push, get_or-le-sum_by}
use Rattle.std.proofs.lemmas.Option.{slice_get_within, slice_get_read, get_or_from_slice_get}
use Rattle.std.specs.Prelude.{Contains, slice_get, slice_set}
use Rattle.std.specs.List.{count_by, sum_by}

sum_le : {X : Type 0} (f g : X → ℕ) (xs : List X) → ((j : ℕ) (x : X) → slice_get xs j ≡ Some x → g x ≤ f x)
    → sum_by g xs ≤ sum_by f xs
sum_le f g [] le = omega arith
sum_le f g (x ∷ xs) le =
    omega (arith, sum_le f g xs (λ j y at. le (suc j) y at), le 0 x refl, sum_by-cons f x xs, sum_by-cons g x xs)

-- one element gives at least d less, and no other more
pub sum_set : {X : Type 0} (f g : X → ℕ) (d : ℕ) (xs : List X) (i : ℕ) (a b : X) → slice_get xs i ≡ Some a
    → g b + d ≤ f a → ((j : ℕ) (x : X) → j ≢ i → slice_get xs j ≡ Some x → g x ≤ f x)
    → sum_by g (slice_set xs i b) + d ≤ sum_by f xs
sum_set f g d [] i a b at less le = cc
sum_set f g d (x ∷ xs) zero a b at less le =
    let same : x ≡ a = cc in
    let here : g b + d ≤ f x = rw same less in
    omega (
      arith,
      sum_le f g xs (λ j y at. le (suc j) y (omega arith) at),
      sum_by-cons f x xs,
      sum_by-cons g b xs,
    )
sum_set f g d (x ∷ xs) (suc i) a b at less le = omega (
  arith,
  le 0 x (omega arith) refl,
  sum_set f g d xs i a b at less (λ j y ne at. le (suc j) y (omega arith) at),
  sum_by-cons f x xs,
  sum_by-cons g x (slice_set xs i b),
)

-- ---- elements of a list
pub later_one : {X : Type 0} (x : X) (xs : List X) (y : X) → Contains xs y → Contains (x ∷ xs) y
later_one x xs y (i, lt, is) = (suc i, omega arith, is)

pub place_of : {X : Type 0} (xs : List X) (a : X) → Contains xs a → (k : ℕ) × (slice_get xs k ≡ Some a)
place_of xs a (i, lt, is) = (i, slice_get_read xs (length xs) i a refl lt (sym is))

pub set_itself : {X : Type 0} (xs : List X) (i : ℕ) {a : X} → slice_get xs i ≡ Some a → slice_set xs i a ≡ xs
set_itself [] i at = refl
set_itself (x ∷ xs) zero at = cc
set_itself (x ∷ xs) (suc i) at = rw (set_itself xs i at)

-- ---- counts
abbrev one : Bool → ℕ
one b = cond b 1 0

one_le : (p q : Bool) → (q ≡ true → p ≡ true) → cond q 1 0 ≤ cond p 1 0
one_le true true h = omega arith
one_le true false h = omega arith
one_le false true h = let never = h refl in cc
one_le false false h = omega arith

-- fewer pass another test
pub count_le : {X : Type 0} (p q : X → Bool) (xs : List X) → ((x : X) → q x ≡ true → p x ≡ true)
    → count_by q xs ≤ count_by p xs
count_le p q xs h = sum_le (λ x. cond (p x) 1 0) (λ x. cond (q x) 1 0) xs (λ j x at. one_le (p x) (q x) (h x))

-- and one that did doesn't
pub count_less : {X : Type 0} (p q : X → Bool) (xs : List X) {u : X} → ((x : X) → q x ≡ true → p x ≡ true)
    → Contains xs u → p u ≡ true → q u ≡ false → count_by q xs + 1 ≤ count_by p xs
count_less p q xs {u} h in' is_so not =
    let place = place_of xs u in' in
    rw (set_itself xs place.0 place.1) at (sum_set (λ x. cond (p x) 1 0) (λ x. cond (q x) 1 0) 1 xs place.0 u u place.1
    (rw (is_so, not) (omega arith)) (λ j x ne at. one_le (p x) (q x) (h x)))

pub count_push : {X : Type 0} (p : X → Bool) (xs : List X) (u : X) → p u ≡ false
    → count_by p (xs ++ u ∷ []) ≡ count_by p xs
count_push p xs u not =
    let more : count_by p (xs ++ u ∷ []) ≡ count_by p xs + cond (p u) 1 0 = sum_by_push (λ y. cond (p y) 1 0) xs u in
    let none : one (p u) ≡ 0 = ap one not in
    omega arith

pub count_none : {X : Type 0} (p : X → Bool) (xs : List X) → ((x : X) → Contains xs x → p x ≡ false)
    → count_by p xs ≡ 0
count_none p [] none = refl
count_none p (x ∷ xs) none =
    let here : one (p x) ≡ 0 = ap one (none x (0, omega arith, refl)) in
    let rest = count_none p xs (λ y in'. none y (later_one x xs y in')) in
    let sum : count_by p (x ∷ xs) ≡ one (p x) + count_by p xs = sum_by-cons (λ y. one (p y)) x xs in
    omega arith

-- one that passes is counted
pub count_some : {X : Type 0} (p : X → Bool) (xs : List X) {u : X} → Contains xs u → p u ≡ true → 1 ≤ count_by p xs
count_some p xs in' is_so = let less = count_less p (λ x. false) xs (λ x never. cc) in' is_so refl in
    omega arith

pub sum_has : {X : Type 0} (f : X → ℕ) (xs : List X) (i : ℕ) {a : X} → slice_get xs i ≡ Some a → f a ≤ sum_by f xs
sum_has f xs i {a} at = rw (get_or_from_slice_get xs i a a at) at (get_or-le-sum_by f xs i a
    (slice_get_within xs i a at))

pub set_kept : {X : Type 0} (xs : List X) (i : ℕ) (b : X) (j : ℕ) {a : X} → slice_get xs j ≡ Some a
    → (c : X) × (slice_get (slice_set xs i b) j ≡ Some c)
set_kept [] i b j at = cc
set_kept (x ∷ xs) zero b zero at = (b, refl)
set_kept (x ∷ xs) zero b (suc j) {a} at = (a, at)
set_kept (x ∷ xs) (suc i) b zero at = (x, refl)
set_kept (x ∷ xs) (suc i) b (suc j) at = set_kept xs i b j at
