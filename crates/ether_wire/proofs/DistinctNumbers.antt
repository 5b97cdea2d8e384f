-- Numbers that all differ.
use Rattle.std.proofs.Common.{◌≡◌, ℕ, Bool, true, false, ◌||◌, List, [], ◌∷◌, ◌++◌, refl, sym, ap, ◌∙◌}
use Rattle.std.specs.Prelude.{eqb}
use Rattle.std.specs.List.{list_any, IsDistinct}
use Rattle.std.proofs.lemmas.Bool.{eqb-true, eq-eqb}
use Rattle.std.proofs.lemmas.Map.Keys.{IsDistinct-push}
use Rattle.std.specs.Cmp.{IsEquivalence}

either : (x y : ℕ) → eqb x y ≡ eqb y x
either x y = go (eqb x y) (eqb y x) refl refl
  where
    go : (a b : Bool) → eqb x y ≡ a → eqb y x ≡ b → a ≡ b
    go true true p q = refl
    go true false p q = let e = eq-eqb y x (sym (eqb-true x y p)) in cc
    go false true p q = let e = eq-eqb x y (sym (eqb-true y x q)) in cc
    go false false p q = refl

pub eqb_equiv : IsEquivalence eqb
eqb_equiv = record {
  refl = λ x. eq-eqb x x refl;
  symm = either;
  congr = λ x y z e. ap (λ n. eqb n z) (eqb-true x y e);
}

pub same_tests : (y : ℕ) (xs : List ℕ) → list_any (λ x. eqb x y) xs ≡ list_any (eqb y) xs
same_tests y [] = refl
same_tests y (x ∷ xs) = ap (λ b. b || list_any (λ z. eqb z y) xs) (eqb_equiv.symm x y)
    ∙ ap (λ b. eqb y x || b) (same_tests y xs)

-- one more number that differs from all numbers before it
pub distinct_more : (xs : List ℕ) (y : ℕ) → IsDistinct eqb xs → list_any (λ x. eqb x y) xs ≡ false
    → IsDistinct eqb (xs ++ y ∷ [])
distinct_more xs y d n = IsDistinct-push eqb_equiv xs y d (sym (same_tests y xs) ∙ n)

pub distinct_none : IsDistinct eqb []
unfolding IsDistinct
distinct_none = tt
