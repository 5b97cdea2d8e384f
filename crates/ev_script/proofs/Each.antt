-- The texts of the elements of a list, in order.
use Rattle.std.proofs.Common.{◌≡◌, ℕ, ◌+◌, ◌<◌, List, [], ◌∷◌, ◌++◌, take, length, get_or, append-nil}
use Rattle.std.proofs.Common.{suc, Some, None, inl, inr, sym, ap, subst, ◌∙◌, arith}
use Rattle.std.proofs.lemmas.List.{take_more}
use Rattle.std.proofs.lemmas.Option.{get_or_from_slice_get, slice_get_cases}
use Rattle.std.specs.List.{flat_map}
use Rattle.std.proofs.lemmas.Grind.{flat_map-append}
use Rattle.ev_fabric.specs.Fabric.{nth}

-- the element at a place that is counted from 1
pub at_next : {X : Type 0} (xs : List X) (i n : ℕ) (x d : X) → n ≡ suc i → nth xs n ≡ Some x → get_or xs i d ≡ x
at_next xs i n x d is at = get_or_from_slice_get xs i x d (subst (λ m. nth xs m ≡ Some x) is at)

-- one more element
pub one_more : {X A : Type 0} (f : X → List A) (xs : List X) (x : X) → flat_map f (xs ++ x ∷ []) ≡ flat_map f xs ++ f x
one_more f xs x = flat_map-append f xs (x ∷ []) ∙ ap (λ t. flat_map f xs ++ t) (append-nil (f x))

-- one more element, if its text doesn't depend on its place
pub one_behind : {X : Type 0} (text : X → List ℕ) (all : List X) (place : ℕ) (d : X) → place < length all
    → flat_map text (take (place + 1) all) ≡ flat_map text (take place all) ++ text (get_or all place d)
one_behind text all place d within = ap (flat_map text) (take_more all place d within)
    ∙ one_more text (take place all) (get_or all place d)

-- there is an element at each place below the length
pub some_within : {X : Type 0} (xs : List X) (i n : ℕ) → n ≡ suc i → i < length xs → nth xs n ≡ None → ⊥
some_within xs i n is within none = elim (slice_get_cases xs i).1 [
  | inl there ↦ (let no : None ≡ Some there.0 = sym (subst (λ m. nth xs m ≡ None) is none) ∙ there.2 in cc)
  | inr past ↦ (let no : ⊥ = omega (arith, within, past.0) in no)
]
