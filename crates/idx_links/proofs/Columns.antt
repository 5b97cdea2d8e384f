-- what writes to places make of a column
use Rattle.std.proofs.Common.{zero, suc, add-zero, add-one, ℕ, ◌+◌, ◌-◌, ◌<◌, ◌≤◌, ◌≡◌, ◌≢◌, Option, Some, None, List}
use Rattle.std.proofs.Common.{[], ◌∷◌, ◌++◌, length, map, replicate, take, drop, append_assoc, get_or, set, refl, ap}
use Rattle.std.proofs.Common.{◌∙◌, arith}
use Rattle.std.specs.List.{range_with_len}
use Rattle.std.proofs.lemmas.List.{map-set, map-append, length-append, length-map, length-drop, length-replicate}
use Rattle.std.proofs.lemmas.List.{length-take-le, get_or-map, get_or-take, get_or-drop, get_or-append_right}
use Rattle.std.proofs.lemmas.List.{get_or-set_other, set-append_right, take-set-le, drop-append-le, drop-set-lt}
use Rattle.std.proofs.lemmas.List.{drop-set-add, drop-replicate, replicate-append-replicate}
use Rattle.std.proofs.lemmas.Bool.{ne_eqb}
use Rattle.std.proofs.Math.Seq.{map-set_same, take-set-lt}
use Rattle.idx_links.specs.Inner.Columns.{list_named, owners, Fits}

pub marked_named : (mark : ℕ) → mark ≢ 0 → list_named mark ≡ Some (mark - 1)
marked_named mark some = rw (ne_eqb mark 0 some)

pub named : (l : ℕ) → list_named (l + 1) ≡ Some l
named l = (let is : l + 1 - 1 ≡ l = omega arith in marked_named (l + 1) (λ e. absurd (omega arith)) ∙ rw is)

lists_counted : {X : Type 0} (f : X → ℕ) (n : ℕ) (xs : List X) {lens : List ℕ} → Fits n (length xs)
    → take n (map f xs) ≡ lens → length lens ≡ n
lists_counted f n xs fits is = (let few : n ≤ length (map f xs) = rw length-map fits.first in
    rw (← is) (length-take-le n (map f xs) few))

-- a list's own place, and a node's
pub both_places : {X : Type 0} (f : X → ℕ) (n : ℕ) (xs : List X) {l p : ℕ} {lens : List ℕ} → Fits n (length xs)
    → take n (map f xs) ≡ lens → l < length lens → length lens ≤ p → (l < n) × (n ≤ p) × (l < length xs)
both_places f n xs fits is low high =
    let all = lists_counted f n xs fits is in (omega arith, omega arith, omega (arith, fits.first))

-- a write that the column doesn't show
unseen : {X Y : Type 0} (f : X → Y) (xs : List X) (i : ℕ) (a : X) {now : X} → now ≡ get_or xs i now → f a ≡ f now
    → map f (set xs i a) ≡ map f xs
unseen f xs i a {now} is same = map-set_same f xs i a now (same ∙ ap f is)

-- of two writes the column shows the first, the second, or none
module _ {X Y : Type 0} (f : X → Y) (xs : List X) (i j : ℕ) (a b : X) {now : X} where
  pub first_seen : now ≡ get_or (set xs i a) j now → f b ≡ f now → map f (set (set xs i a) j b) ≡ set (map f xs) i (f a)
  first_seen is same = unseen f (set xs i a) j b is same ∙ map-set f xs i a

  pub second_seen : now ≡ get_or xs i now → f a ≡ f now → map f (set (set xs i a) j b) ≡ set (map f xs) j (f b)
  second_seen is same = map-set f (set xs i a) j b ∙ rw (unseen f xs i a is same)

  pub none_seen : {then : X} → now ≡ get_or xs i now → f a ≡ f now → then ≡ get_or (set xs i a) j then → f b ≡ f then
      → map f (set (set xs i a) j b) ≡ map f xs
  none_seen is same is' same' = unseen f (set xs i a) j b is' same' ∙ unseen f xs i a is same

-- ---- marks: the first n are the lengths of lists, the others give the list of a node

length-owners : (n : ℕ) (marks : List ℕ) → n ≤ length marks → length (owners n marks) ≡ length marks
length-owners n marks low = rw (length-append, length-replicate, length-map, length-drop) (omega arith)

-- the list that a node's place p is on
pub owner_at : {X : Type 0} (f g : X → ℕ) (n : ℕ) (xs : List X) {p : ℕ} {next lens : List ℕ} {now : X}
    → Fits n (length xs) → map g xs ≡ next → take n (map f xs) ≡ lens → length lens ≤ p → p < length next
    → now ≡ get_or xs p now → list_named (f now) ≡ get_or (owners n (map f xs)) p None
owner_at f g n xs {p} {now = now} fits next_is lens_is high low is =
    let marks = map f xs in
    let all = lists_counted f n xs fits lens_is in
    let here : n + (p - n) ≡ p = omega arith in
    let inside : p < length xs = rw (← next_is, length-map) at low in
    let inside' : p - n < length (drop n marks) = rw (length-drop, length-map) (omega arith) in
    rw (
      get_or-append_right (replicate n None) (map list_named (drop n marks)) n p None (length-replicate n None)
          (omega arith),
      get_or-map list_named (drop n marks) (p - n) 0 None inside',
      get_or-drop n marks (p - n) 0,
      here,
      get_or-map f xs p now 0 inside,
      ← is,
    )

-- a node's place i is written, and then a list's own place j
module _ {X : Type 0} (f : X → ℕ) (xs : List X) (n i j : ℕ) (a b : X) (low : j < n) (high : n ≤ i) where
  pub owners_changed : owners n (map f (set (set xs i a) j b)) ≡ set (owners n (map f xs)) i (list_named (f a))
  owners_changed =
      let marks = map f xs in
      let here : n + (i - n) ≡ i = omega arith in
      let nodes = rw here at (drop-set-add n marks (i - n) (f a)) in
      rw (
        map-set f (set xs i a) j b,
        map-set f xs i a,
        drop-set-lt n (set marks i (f a)) j (f b) low,
        nodes,
        map-set list_named (drop n marks) (i - n) (f a),
        set-append_right (replicate n None) (map list_named (drop n marks)) n i (list_named (f a))
            (length-replicate n None) high,
      )

  pub lens_changed : {then : X} (change : ℕ → ℕ) → then ≡ get_or (set xs i a) j then → f b ≡ change (f then)
      → j < length xs
      → take n (map f (set (set xs i a) j b)) ≡ set (take n (map f xs)) j (change (get_or (take n (map f xs)) j 0))
  lens_changed {then} change is made inside =
      let marks = map f xs in
      let other : j ≢ i = λ e. absurd (omega arith) in
      let was : f then ≡ get_or (take n marks) j 0 = rw (get_or-take n marks j 0 low, get_or-map f xs j then 0 inside)
      (ap f (is ∙ get_or-set_other xs i j a then other)) in
      rw (
        map-set f (set xs i a) j b,
        map-set f xs i a,
        take-set-lt n (set marks i (f a)) j (f b) low,
        take-set-le n marks i (f a) high,
        made,
        was,
      )

-- ---- more places

pub range-more : (a n : ℕ) → range_with_len a n ++ (a + n) ∷ [] ≡ range_with_len a (n + 1)
range-more a zero = rw (add-zero a)
range-more a (suc n) = (let e : a + suc n ≡ a + 1 + n = omega arith in
    rw (add-one (suc n), e, range-more (a + 1) n, add-one n))

-- a column of numbers in order has one more
pub range_step : {X : Type 0} (f : X → ℕ) (start : List ℕ) (xs : List X) (x : X) {new : List X} (a p : ℕ) → a ≤ p
    → map f xs ≡ start ++ range_with_len a (p - a) → new ≡ xs ++ x ∷ [] → f x ≡ p
    → map f new ≡ start ++ range_with_len a (p + 1 - a)
range_step f start xs x a p low so_far more is =
    let here : a + (p - a) ≡ p = omega arith in
    let count : p - a + 1 ≡ p + 1 - a = omega arith in
    let tail = rw (here, count) at (range-more a (p - a)) in
    rw (more, map-append, so_far, is, append_assoc, tail)

-- a column of the same value has one more
pub same_step : {X Y : Type 0} (f : X → Y) (start : List Y) (xs : List X) (x : X) {new : List X} (y : Y) (a p : ℕ)
    → a ≤ p → map f xs ≡ start ++ replicate (p - a) y → new ≡ xs ++ x ∷ [] → f x ≡ y
    → map f new ≡ start ++ replicate (p + 1 - a) y
same_step f start xs x y a p low so_far more is =
    let count : p - a + 1 ≡ p + 1 - a = omega arith in
    let tail = rw count at (replicate-append-replicate (p - a) 1 y) in
    rw (more, map-append, so_far, is, append_assoc, tail)

map-replicate : {X Y : Type 0} (f : X → Y) (n : ℕ) (x : X) → map f (replicate n x) ≡ replicate n (f x)
map-replicate f zero x = refl
map-replicate f (suc n) x = rw (map-replicate f n x)

-- places of which none is on a list
pub owners-none : (n nodes : ℕ) → owners n (replicate (n + nodes) 0) ≡ replicate (n + nodes) None
owners-none n nodes = (let all : n + (n + nodes - n) ≡ n + nodes = omega arith in
    rw (drop-replicate {X = ℕ} n (n + nodes) 0, map-replicate list_named (n + nodes - n) 0)
    (replicate-append-replicate n (n + nodes - n) None ∙ rw all))

pub owners_more : (n : ℕ) (marks : List ℕ) {owner : List (Option ℕ)} (places : ℕ) → n ≤ length marks
    → owners n marks ≡ owner → owners n (marks ++ replicate (places - length marks) 0) ≡ owner
    ++ replicate (places - length owner) None
owners_more n marks {owner} places low is =
    let more = places - length marks in
    let all : length owner ≡ length marks = rw (← is) (length-owners n marks low) in
    rw (
      drop-append-le n marks (replicate more 0) low,
      map-append,
      map-replicate list_named more 0,
      ← append_assoc (replicate n None) (map list_named (drop n marks)) (replicate more None),
      is,
      all,
    )
