-- the three families after a node is put on a list, or taken off one
use Rattle.std.proofs.Common.{ℕ, zero, suc, ◌+◌, ◌≡◌, ◌≢◌, false, List, [], ◌∷◌, ◌++◌, length, map, get_or, set, refl}
use Rattle.std.proofs.Common.{ap, ◌∙◌, arith}
use Rattle.std.specs.List.{range_with_len}
use Rattle.std.proofs.lemmas.Bool.{ne_eqb}
use Rattle.idx_links.proofs.Columns.{range-more}
use Rattle.idx_links.specs.Links.{has, without, list_at, IsFree}
use Rattle.idx_links.specs.Families.{Families, lists_of}
use Rattle.mac_arena.specs.Orders.{Orders}
use Rattle.mac_arena.specs.Inner.Orders.{orders_of, IsOrders, joined}

-- the families of chains, ports, ageing list and free list
abbrev pub four : List (List ℕ) → List (List ℕ) → List ℕ → List ℕ → List (List (List ℕ))
four a b x y = a ∷ b ∷ (x ∷ y ∷ []) ∷ []

three_parts : (fs : List (List (List ℕ))) → length fs ≡ 3 → fs ≡ get_or fs 0 [] ∷ get_or fs 1 [] ∷ get_or fs 2 [] ∷ []
three_parts [] e = absurd (omega arith)
three_parts (x ∷ []) e = absurd (omega arith)
three_parts (x ∷ y ∷ []) e = absurd (omega arith)
three_parts (x ∷ y ∷ z ∷ []) e = refl
three_parts (x ∷ y ∷ z ∷ w ∷ rest) e = absurd (omega arith)

two_parts : (xs : List (List ℕ)) → length xs ≡ 2 → xs ≡ get_or xs 0 [] ∷ get_or xs 1 [] ∷ []
two_parts [] e = absurd (omega arith)
two_parts (x ∷ []) e = absurd (omega arith)
two_parts (x ∷ y ∷ []) e = refl
two_parts (x ∷ y ∷ z ∷ rest) e = absurd (omega arith)

pub shape : (f : Families) → IsOrders f → f.families ≡ four (lists_of f 0) (lists_of f 1) (list_at (lists_of f 2) 0)
    (list_at (lists_of f 2) 1)
shape f good = three_parts f.families good.three
    ∙ ap (λ xs. lists_of f 0 ∷ lists_of f 1 ∷ xs ∷ []) (two_parts (lists_of f 2) good.two)

pub freed : (f g : Families) (n : ℕ) (a b : List (List ℕ)) (x y : List ℕ) → f.families ≡ four a b x y
    → g.families ≡ set f.families 2 (joined 1 n (lists_of f 2)) → g.families ≡ four a b x (y ++ n ∷ [])
freed f g n a b x y e is = rw (is, e)

-- the ports' lists after a node was taken off one
pub ports_off : (f g : Families) (o : Orders) (n : ℕ) → IsOrders f → orders_of f ≡ o
    → g.families ≡ set f.families 1 (map (without n) (lists_of f 1)) → lists_of g 1 ≡ map (without n) o.ports
ports_off f g o n good seen is = rw (is, ← seen, shape f good)

above_range : (a n k : ℕ) → a + n ≡ k → has (range_with_len a n) k ≡ false
above_range a zero k e = refl
above_range a (suc n) k e = (let ne : a ≢ k = λ s. absurd (omega arith) in
    rw (ne_eqb a k ne) (above_range (a + 1) n k (omega arith)))

pub new_free : (f : Families) (a b : List (List ℕ)) (n : ℕ) → f.families ≡ four a b [] (range_with_len 0 n)
    → IsFree (lists_of f 2) n
new_free f a b n e = rw e (go n)
  where
    go : (n : ℕ) (l : ℕ) → has (list_at ([] ∷ range_with_len 0 n ∷ []) l) n ≡ false
    go n zero = refl
    go n (suc zero) = above_range 0 n n (omega arith)
    go n (suc (suc l)) = refl

pub more_free : (n : ℕ) → range_with_len 0 n ++ n ∷ [] ≡ range_with_len 0 (n + 1)
more_free n = ap (λ k. range_with_len 0 n ++ k ∷ []) (let e : n ≡ 0 + n = omega arith in e) ∙ range-more 0 n
