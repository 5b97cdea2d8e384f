-- Elements of lists: of a list's images, of a list from its end, and of one element.
use Rattle.std.proofs.Common.{◌≡◌, ◌<◌, ℕ, zero, suc, Bool, true, false, true≢false, List, [], ◌∷◌, map, reverse}
use Rattle.std.proofs.Common.{Contains, get_or, Option, Some, None, refl, ap, sym, subst, ⊎_elim, arith}
use Rattle.std.proofs.lemmas.List.{reverse-append, reverse-reverse}
use Rattle.std.proofs.lemmas.List.Elements.{Contains-append_left, Contains-append_right, Contains-append_cases}

module _ {A : Type 0} where
  pub none_in : (x : A) → Contains [] x → ⊥
  none_in x h = let below = h.1 in omega (arith, below)

  one_at : (y x : A) (k : ℕ) → k < 1 → get_or (y ∷ []) k x ≡ x → y ≡ x
  one_at y x zero below e = e
  one_at y x (suc k) below e = absurd (omega (arith, below))

  pub one_is : (y x : A) → Contains (y ∷ []) x → y ≡ x
  one_is y x h = one_at y x h.0 h.1 h.2

  pub here : (y x : A) (es : List A) → y ≡ x → Contains (y ∷ es) x
  here y x es is = (zero, omega arith, is)

  pub in_reverse : (xs : List A) (x : A) → Contains xs x → Contains (reverse xs) x
  in_reverse [] x h = absurd (none_in x h)
  in_reverse (y ∷ ys) x h =
      subst (λ l. Contains l x) (sym (reverse-append (y ∷ []) ys))
      (⊎_elim (λ first. Contains-append_right (reverse ys) (y ∷ []) x first)
      (λ there. Contains-append_left (reverse ys) (y ∷ []) x (in_reverse ys x there))
      (Contains-append_cases (y ∷ []) ys x h))

  pub from_reverse : (xs : List A) (x : A) → Contains (reverse xs) x → Contains xs x
  from_reverse xs x h = subst (λ l. Contains l x) (reverse-reverse xs) (in_reverse (reverse xs) x h)

  abbrev value_or : A → Option A → A
  value_or other None = other
  value_or other (Some x) = x

  abbrev is_there : Option A → Bool
  is_there None = false
  is_there (Some x) = true

  pub same_value : (x y : A) → Some x ≡ Some y → x ≡ y
  same_value x y e = ap (value_or x) e

  pub never_none : (y : A) → None ≡ Some y → ⊥
  never_none y e = true≢false (sym (ap is_there e))

module _ {A B : Type 0} where
  pub in_map : (f : A → B) (xs : List A) (x : A) → Contains xs x → Contains (map f xs) (f x)
  in_map f [] x h = absurd (none_in x h)
  in_map f (y ∷ ys) x h =
      ⊎_elim (λ first. here (f y) (f x) (map f ys) (ap f (one_is y x first)))
      (λ there. Contains-append_right (f y ∷ []) (map f ys) (f x) (in_map f ys x there))
      (Contains-append_cases (y ∷ []) ys x h)

  pub from_map : (f : A → B) (xs : List A) (y : B) → Contains (map f xs) y
      → (x : A) × Contains xs x × (f x ≡ y)
  from_map f [] y h = absurd (none_in y h)
  from_map f (x ∷ xs) y h =
      ⊎_elim (λ first. (x, here x x xs refl, one_is (f x) y first))
      (λ there. let r = from_map f xs y there in (r.0, Contains-append_right (x ∷ []) xs r.0 r.1, r.2))
      (Contains-append_cases (f x ∷ []) (map f xs) y h)
