-- paths and rings, before and after a link changes
use Rattle.std.proofs.Common.{ℕ, zero, suc, ◌≡◌, ◌≢◌, ◌+◌, inl, inr, true, false, cond, ◌||◌, eqb, Option, Some, None}
use Rattle.std.proofs.Common.{slice_get, List, [], ◌∷◌, ◌++◌, length, map, replicate, get_or, refl, ap, sym, ◌∙◌, arith}
use Rattle.std.specs.Option.{option_map}
use Rattle.std.proofs.lemmas.Bool.{cases_eq, eq-eqb, ne_eqb, false≢true, or_parts, or_right}
use Rattle.std.proofs.lemmas.Bool.Decides.{nat_tests}
use Rattle.std.proofs.lemmas.Option.{slice_get-map}
use Rattle.idx_links.specs.Links.{has, without, Apart}
use Rattle.idx_links.specs.Inner.Ring.{walk, Path}

-- the node after the node
abbrev pub after : List ℕ → ℕ → Option ℕ
after [] n = None
after (x ∷ xs) n = cond (eqb x n) (slice_get xs 0) (after xs n)

pub has-at : (xs : List ℕ) (i n : ℕ) → slice_get xs i ≡ Some n → has xs n ≡ true
has-at [] i n h = cc
has-at (x ∷ xs) zero n h = (let e : x ≡ n = cc in rw (eq-eqb x n e))
has-at (x ∷ xs) (suc i) n h = or_right (eqb x n) (has xs n) (has-at xs i n h)

-- by place: the successor of place i is at place i + 1
pub after-at : (xs : List ℕ) (i n : ℕ) → Apart xs → slice_get xs i ≡ Some n → after xs n ≡ slice_get xs (suc i)
after-at [] i n h is = refl
after-at (x ∷ xs) zero n h is = (let e : x ≡ n = cc in rw (eq-eqb x n e))
after-at (x ∷ xs) (suc i) n h is = (let x_n : x ≢ n = λ e. cc (h.0, has-at xs i n is) in
    rw (ne_eqb x n x_n) (after-at xs i n h.1 is))

-- the first is on the list, and what is not on it is neither the first nor on the rest
pub first_on : (x : ℕ) (xs : List ℕ) → has (x ∷ xs) x ≡ true
first_on x xs = rw (eq-eqb x x refl)

not_on : (x : ℕ) (xs : List ℕ) (n : ℕ) → has (x ∷ xs) n ≡ false → (x ≢ n) × (has xs n ≡ false)
not_on x xs n out = (λ e. cc (first_on x xs, ap (has (x ∷ xs)) e), (or_parts (eqb x n) (has xs n) out).1)

-- ---- a list's numbers, each changed, if only m becomes n

module _ (f : ℕ → ℕ) (n m : ℕ) (is : f m ≡ n) where
  abbrev IsOnly : List ℕ → Type 0
  IsOnly xs = (x : ℕ) → has xs x ≡ true → f x ≡ n → x ≡ m

  rest_only : (x : ℕ) (xs : List ℕ) → IsOnly (x ∷ xs) → IsOnly xs
  rest_only x xs only y e = only y (or_right (eqb x y) (has xs y) e)

  same_test : (x : ℕ) (xs : List ℕ) → IsOnly (x ∷ xs) → eqb (f x) n ≡ eqb x m
  same_test x xs only = elim (cases_eq x m) [
    | inl e ↦ rw (eq-eqb x m e) (eq-eqb (f x) n (ap f e ∙ is))
    | inr e ↦ rw (ne_eqb x m e) (ne_eqb (f x) n (λ s. e (only x (first_on x xs) s)))
  ]

  pub has-map : (xs : List ℕ) → IsOnly xs → has (map f xs) n ≡ has xs m
  has-map [] only = refl
  has-map (x ∷ xs) only = rw (same_test x xs only, has-map xs (rest_only x xs only))

  pub without-map : (xs : List ℕ) → IsOnly xs → map f (without m xs) ≡ without n (map f xs)
  without-map [] only = refl
  without-map (x ∷ xs) only = grind (arith, same_test x xs only, without-map xs (rest_only x xs only))

  pub after-map : (xs : List ℕ) → IsOnly xs → after (map f xs) n ≡ option_map f (after xs m)
  after-map [] only = refl
  after-map (x ∷ xs) only =
      grind (arith, same_test x xs only, after-map xs (rest_only x xs only), slice_get-map f xs 0)

pub apart-map : (f : ℕ → ℕ) (xs : List ℕ) → ((x y : ℕ) → has xs x ≡ true → has xs y ≡ true → f x ≡ f y → x ≡ y)
    → Apart xs → Apart (map f xs)
apart-map f [] one h = tt
apart-map f (x ∷ xs) one h =
    let later : (y : ℕ) → has xs y ≡ true → has (x ∷ xs) y ≡ true = λ y e. or_right (eqb x y) (has xs y) e in (
      has-map f (f x) x refl xs (λ y e s. one y x (later y e) (first_on x xs) s) ∙ h.0,
      apart-map f xs (λ y z ey ez s. one y z (later y ey) (later z ez) s) h.1,
    )

-- the value at a place came from the old value there
pub at-map : (f : ℕ → ℕ) (xs : List ℕ) (i n : ℕ) → slice_get (map f xs) i ≡ Some n
    → (m : ℕ) × (slice_get xs i ≡ Some m) × (f m ≡ n)
at-map f [] i n h = cc
at-map f (x ∷ xs) zero n h = (x, refl, cc)
at-map f (x ∷ xs) (suc i) n h = at-map f xs i n h

-- ---- lists with one more or one less

pub has-append : (xs ys : List ℕ) (n : ℕ) → has (xs ++ ys) n ≡ (has xs n || has ys n)
has-append [] ys n = refl
has-append (x ∷ xs) ys n = grind (arith, has-append xs ys n)

pub has-without : (xs : List ℕ) (n y : ℕ) → Apart xs → has (without n xs) y ≡ cond (eqb y n) false (has xs y)
has-without [] n y h = grind arith
has-without (x ∷ xs) n y h = grind (arith, nat_tests, has-without xs n y h.1)

pub length-without : (xs : List ℕ) (n : ℕ) → has xs n ≡ true → length (without n xs) + 1 ≡ length xs
length-without [] n h = cc
length-without (x ∷ xs) n h = grind (arith, nat_tests, length-without xs n)

pub apart-without : (xs : List ℕ) (n : ℕ) → Apart xs → Apart (without n xs)
apart-without [] n h = tt
apart-without (x ∷ xs) n h =
    elim (cases_eq x n) as (λ _. Apart (without n (x ∷ xs))) [
      | inl e ↦ rw (eq-eqb x n e) h.1
      | inr e ↦ rw (ne_eqb x n e) (has-without xs n x h.1 ∙ rw (ne_eqb x n e) h.0, apart-without xs n h.1)
    ]

pub apart-push : (xs : List ℕ) (n : ℕ) → Apart xs → has xs n ≡ false → Apart (xs ++ n ∷ [])
apart-push [] n h e = (refl, tt)
apart-push (x ∷ xs) n h e = (
  grind (arith, nat_tests, has-append xs (n ∷ []) x),
  apart-push xs n h.1 (not_on x xs n e).1,
)

pub without-absent : (xs : List ℕ) (n : ℕ) → has xs n ≡ false → without n xs ≡ xs
without-absent [] n h = refl
without-absent (x ∷ xs) n h = (let no = not_on x xs n h in rw (ne_eqb x n no.0, without-absent xs n no.1))

-- the remaining ones were there before
pub has-left : (xs : List ℕ) (n y : ℕ) → has (without n xs) y ≡ true → has xs y ≡ true
has-left [] n y h = h
has-left (x ∷ xs) n y h = grind (arith, nat_tests, has-left xs n y)

pub all_same : {X : Type 0} (n i : ℕ) (a : X) → get_or (replicate n a) i a ≡ a
all_same zero i a = refl
all_same (suc n) zero a = refl
all_same (suc n) (suc i) a = all_same n i a

-- ---- paths by f to b

module _ (f : ℕ → ℕ) (b : ℕ) where
  pub walk-path : (a : ℕ) (xs : List ℕ) → Path f a xs b → walk (length xs) f (f a) ≡ xs
  walk-path a [] h = refl
  walk-path a (x ∷ xs) h = rw (h.0, walk-path x xs h.1)

  -- a link stays on the path, or leads to its end
  pub link_on : (a : ℕ) (xs : List ℕ) (y : ℕ) → Path f a xs b → has (a ∷ xs) y ≡ true → has (b ∷ xs) (f y) ≡ true
  link_on a [] y h on = elim (cases_eq a y) [
    | inl e ↦ rw (← e, h) (first_on b [])
    | inr e ↦ absurd (false≢true (grind (arith, nat_tests)))
  ]
  link_on a (x ∷ xs) y h on = elim (cases_eq a y) [
    | inl e ↦ rw (← e, h.0) (or_right (eqb b x) (has (x ∷ xs) x) (first_on x xs))
    | inr e ↦ (let later = link_on x xs y h.1 (grind (arith, nat_tests)) in grind (arith, later))
  ]

  -- a place whose link leads to itself is on no path that comes from elsewhere
  pub never : (a : ℕ) (xs : List ℕ) (n : ℕ) → Path f a xs b → a ≢ n
      → ((y : ℕ) → has (a ∷ xs) y ≡ true → f y ≡ n → y ≡ n) → has xs n ≡ false
  never a [] n h a_n only = refl
  never a (x ∷ xs) n h a_n only = (let x_n : x ≢ n = λ e. a_n (only a (first_on a (x ∷ xs)) (h.0 ∙ e)) in
      rw (ne_eqb x n x_n) (never x xs n h.1 x_n (λ y e. only y (or_right (eqb a y) (has (x ∷ xs) y) e))))

  pub first-path : (a : ℕ) (xs : List ℕ) → Path f a xs b → has xs b ≡ false
      → slice_get xs 0 ≡ cond (eqb (f a) b) None (Some (f a))
  first-path a [] h out = rw (h, eq-eqb b b refl)
  first-path a (x ∷ xs) h out = rw (h.0, ne_eqb x b (not_on x xs b out).0)

  -- what follows a place on a path is what its link says
  pub after-path : (a : ℕ) (xs : List ℕ) (n : ℕ) → Path f a xs b → has xs n ≡ true → has xs b ≡ false
      → after xs n ≡ cond (eqb (f n) b) None (Some (f n))
  after-path a [] n h on out = absurd (false≢true on)
  after-path a (x ∷ xs) n h on out =
      let out' = (not_on x xs b out).1 in
      elim (cases_eq x n) as (λ _. after (x ∷ xs) n ≡ cond (eqb (f n) b) None (Some (f n))) [
        | inl e ↦ rw (eq-eqb x n e, ← e) (first-path x xs h.1 out')
        | inr x_n ↦ rw (ne_eqb x n x_n) (after-path x xs n h.1 (grind (arith, nat_tests)) out')
      ]

  -- the path is the same where the links on it are, from x or from what leads where x led
  pub path_jump : (g : ℕ → ℕ) (a x : ℕ) (xs : List ℕ) → Path f x xs b → g a ≡ f x
      → ((y : ℕ) → has xs y ≡ true → g y ≡ f y) → Path g a xs b
  path_jump g a x [] h jump same = jump ∙ h
  path_jump g a x (y ∷ ys) h jump same = (
    jump ∙ h.0,
    path_jump g y y ys h.1 (same y (first_on y ys)) (λ z e. same z (or_right (eqb y z) (has ys z) e)),
  )

  -- the links of p and n change
  module _ (g : ℕ → ℕ) (p n : ℕ) (same : (y : ℕ) → y ≢ p → y ≢ n → g y ≡ f y) where
    -- p led to b, and leads to n now, and n to b
    pub path_push : (a : ℕ) (xs : List ℕ) → Path f a xs b → has xs b ≡ false → has (a ∷ xs) n ≡ false → f p ≡ b
        → g p ≡ n → g n ≡ b → ((y : ℕ) → has (a ∷ xs) y ≡ true → f y ≡ b → y ≡ p) → Path g a (xs ++ n ∷ []) b
    path_push a [] h out off to there back before = (rw (before a (first_on a []) h) there, back)
    path_push a (x ∷ xs) h out off to there back before =
        let x_b = not_on x xs b out in
        let a_n = not_on a (x ∷ xs) n off in (
          same a (λ e. x_b.0 (sym h.0 ∙ ap f e ∙ to)) a_n.0 ∙ h.0,
          path_push x xs h.1 x_b.1 a_n.1 to there back
              (λ y e. before y (or_right (eqb a y) (has (x ∷ xs) y) e)),
        )

    -- p led to n, and leads past it now
    pub path_without : (a : ℕ) (xs : List ℕ) → Path f a xs b → Apart (a ∷ xs) → a ≢ n → b ≢ n → f p ≡ n → g p ≡ f n
        → ((y : ℕ) → has (a ∷ xs) y ≡ true → f y ≡ n → y ≡ p) → Path g a (without n xs) b
    path_without a [] h apart a_n b_n to past before = same a (λ e. b_n (sym h ∙ ap f e ∙ to)) a_n ∙ h
    path_without a (x ∷ xs) h apart a_n b_n to past before =
        elim (cases_eq x n) as (λ _. Path g a (without n (x ∷ xs)) b) [
          | inl e ↦
              let a_p = before a (first_on a (x ∷ xs)) (h.0 ∙ e) in
              rw (eq-eqb x n e) (path_jump g a x xs h.1 (rw (a_p, e) past) (λ y on. same y
              (λ s. cc (apart.0, or_right (eqb x y) (has xs y) on))
              (λ s. cc (apart.1.0))))
          | inr x_n ↦ rw (ne_eqb x n x_n) (
            same a (λ e. x_n (sym h.0 ∙ ap f e ∙ to)) a_n ∙ h.0,
            path_without x xs h.1 apart.1 x_n b_n to past
                (λ y e. before y (or_right (eqb a y) (has (x ∷ xs) y) e)),
          )
        ]
