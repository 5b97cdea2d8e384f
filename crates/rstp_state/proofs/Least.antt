-- The least element of a list by a total order, as one pass finds it.
use Rattle.std.proofs.Common.{◌≡◌, zero, suc, Bool, true, false, not, ◌&&◌, cond, List, [], ◌∷◌, Some, unwrap_or, find}
use Rattle.std.proofs.Common.{Contains, refl, sym, ap, ◌∙◌, arith}
use Rattle.std.specs.Cmp.{IsTotalOrder}
use Rattle.std.specs.List.{list_all}
use Rattle.std.specs.Ordering.{is_lt, ord_min, ordering_reverse}
use Rattle.std.specs.declared.cmp.Ordering.{Ordering}
use Rattle.std.specs.declared.cmp.Ordering.TheVariants.{Less, Equal, Greater}
use Rattle.std.proofs.lemmas.Bool.{not-true as not_true, and_from as of_both, and_parts as both}

abbrev pub least : {X : Type 0} → (X → X → Ordering) → X → List X → X
least R best [] = best
least R best (x ∷ xs) = least R (ord_min R best x) xs

-- ---- lists

contains_first : {X : Type 0} (x : X) (xs : List X) → Contains (x ∷ xs) x
contains_first x xs = (0, omega arith, refl)

contains_later : {X : Type 0} (y : X) (xs : List X) (x : X) → Contains xs x → Contains (y ∷ xs) x
contains_later y xs x (k, within, at) = (suc k, omega arith, at)

contains_past_second : {X : Type 0} (y z : X) (xs : List X) (x : X) → Contains (y ∷ xs) x → Contains (y ∷ z ∷ xs) x
contains_past_second y z xs x (zero, within, at) = (0, omega arith, at)
contains_past_second y z xs x (suc k, within, at) = (suc (suc k), omega arith, at)

true_not : (b : Bool) → b ≡ false → not b ≡ true
true_not b h = ap not h

all_at : {X : Type 0} (test : X → Bool) (xs : List X) (x : X) → list_all test xs ≡ true → Contains xs x → test x ≡ true
all_at test [] x h (k, within, at) = absurd (omega arith)
all_at test (y ∷ xs) x h (zero, within, at) = ap test (sym at) ∙ (both (test y) (list_all test xs) h).0
all_at test (y ∷ xs) x h (suc k, within, at) = all_at test xs x (both (test y) (list_all test xs) h).1 (
  k,
  omega arith,
  at,
)

-- if the first element passes, it is the only one; otherwise the rest decides
find_after : {X : Type 0} (test : X → Bool) (y : X) (xs : List X) (x d : X) (b : Bool) → b ≡ test y
    → Contains (y ∷ xs) x → test x ≡ true
    → (test y ≡ true → y ≡ x) → (Contains xs x → unwrap_or (find test xs) d ≡ x)
    → unwrap_or (cond b (Some y) (find test xs)) d ≡ x
find_after test y xs x d true e among passes only rest = only (sym e)
find_after test y xs x d false e (zero, within, at) passes only rest = let no : false ≡ true = e ∙ ap test at
    ∙ passes in cc
find_after test y xs x d false e (suc k, within, at) passes only rest = rest (k, omega arith, at)

-- the test finds the only element that passes
pub find_only : {X : Type 0} (test : X → Bool) (xs : List X) (x d : X) → Contains xs x → test x ≡ true
    → ((y : X) → Contains xs y → test y ≡ true → y ≡ x) → unwrap_or (find test xs) d ≡ x
find_only test [] x d (k, within, at) passes only = absurd (omega arith)
find_only test (y ∷ xs) x d among passes only =
    find_after test y xs x d (test y) refl among passes (only y (contains_first y xs))
    (λ later. find_only test xs x d later passes (λ z in_rest z_passes. only z (contains_later y xs z in_rest)
    z_passes))

-- ---- a total order

module _ {X : Type 0} {R : X → X → Ordering} (o : IsTotalOrder R) where
  less_along : (a b c : X) (s : Ordering) → s ≡ R a b → is_lt s ≡ false → R a c ≡ Less → R b c ≡ Less
  less_along a b c Less e h l = cc
  less_along a b c Equal e h l = sym (o.congr a b c (sym e)) ∙ l
  less_along a b c Greater e h l = o.trans b a c (o.antisymm b a ∙ ap ordering_reverse (sym e)) l

  along_at : (a b c : X) (r : Ordering) → r ≡ R a c → is_lt (R a b) ≡ false → is_lt (R b c) ≡ false → is_lt r ≡ false
  along_at a b c Less e h k = sym (ap is_lt (less_along a b c (R a b) refl h (sym e))) ∙ k
  along_at a b c Equal e h k = refl
  along_at a b c Greater e h k = refl

  not_less_along : (a b c : X) → is_lt (R a b) ≡ false → is_lt (R b c) ≡ false → is_lt (R a c) ≡ false
  not_less_along a b c = along_at a b c (R a c) refl

  itself_at : (a : X) (r : Ordering) → r ≡ R a a → is_lt r ≡ false
  itself_at a Less e = let back : Less ≡ Greater = e ∙ o.antisymm a a ∙ ap ordering_reverse (sym e) in cc
  itself_at a Equal e = refl
  itself_at a Greater e = refl

  not_less_itself : (a : X) → is_lt (R a a) ≡ false
  not_less_itself a = itself_at a (R a a) refl

  reversed_at : (a b : X) (r : Ordering) → r ≡ R a b → is_lt r ≡ true → is_lt (R b a) ≡ false
  reversed_at a b Less e h = ap is_lt (o.antisymm b a ∙ ap ordering_reverse (sym e))
  reversed_at a b Equal e h = cc
  reversed_at a b Greater e h = cc

  -- neither of two is less than the lesser one
  first_at : (a b : X) (s : Bool) → s ≡ is_lt (R b a) → is_lt (R a (cond s b a)) ≡ false
  first_at a b true e = reversed_at b a (R b a) refl (sym e)
  first_at a b false e = not_less_itself a

  second_at : (a b : X) (s : Bool) → s ≡ is_lt (R b a) → is_lt (R b (cond s b a)) ≡ false
  second_at a b true e = not_less_itself b
  second_at a b false e = sym e

  pub least_all : (best : X) (xs : List X) → list_all (λ y. not (is_lt (R y (least R best xs)))) (best ∷ xs) ≡ true
  least_all best [] = ap (λ b. not b && true) (not_less_itself best)
  least_all best (x ∷ xs) =
      let m = least R (ord_min R best x) xs in
      let earlier = both _ _ (least_all (ord_min R best x) xs) in
      let bound = not_true (is_lt (R (ord_min R best x) m)) earlier.0 in
      let first = not_less_along best (ord_min R best x) m (first_at best x (is_lt (R x best)) refl) bound in
      let second = not_less_along x (ord_min R best x) m (second_at best x (is_lt (R x best)) refl) bound in
      of_both _ _ (true_not _ first) (of_both _ _ (true_not _ second) earlier.1)

  pick : (s : Bool) (best x : X) (xs : List X) (z : X) → Contains (cond s x best ∷ xs) z → Contains (best ∷ x ∷ xs) z
  pick true best x xs z h = contains_later best (x ∷ xs) z h
  pick false best x xs z h = contains_past_second best x xs z h

  pub least_among : (best : X) (xs : List X) → Contains (best ∷ xs) (least R best xs)
  least_among best [] = contains_first best []
  least_among best (x ∷ xs) = pick (is_lt (R x best)) best x xs (least R (ord_min R best x) xs)
      (least_among (ord_min R best x) xs)

  tie_at : (a b : X) (r : Ordering) → r ≡ R a b → is_lt r ≡ false → is_lt (R b a) ≡ false → r ≡ Equal
  tie_at a b Less e h k = cc
  tie_at a b Equal e h k = refl
  tie_at a b Greater e h k = let less : true ≡ false = sym (ap is_lt (o.antisymm b a ∙ ap ordering_reverse (sym e)))
      ∙ k in cc

  -- two elements are equally good if no element is less than either of them
  pub tie : (xs : List X) (a b : X) → Contains xs a → list_all (λ y. not (is_lt (R y a))) xs ≡ true
      → Contains xs b → list_all (λ y. not (is_lt (R y b))) xs ≡ true → R a b ≡ Equal
  tie xs a b in_a least_a in_b least_b =
      tie_at a b (R a b) refl (not_true _ (all_at (λ y. not (is_lt (R y b))) xs a least_b in_a))
      (not_true _ (all_at (λ y. not (is_lt (R y a))) xs b least_a in_b))
