-- A loop that overwrites each element of a list, by its place.
use Rattle.std.proofs.Common.{◌≡◌, ℕ, zero, suc, ◌+◌, ◌<◌, List, [], ◌∷◌, ◌++◌, length, get_or, take, drop, map}
use Rattle.std.proofs.Common.{length-take, ap, ◌∙◌, arith}
use Rattle.std.proofs.Math.ListN.{set}
use Rattle.std.specs.List.{enumerate_from}
use Rattle.std.proofs.lemmas.List.{drop_more, get_or_at, length-map}
use Rattle.std.proofs.lemmas.List.FromFn.{length-enumerate_from}

by_suc : {X : Type 0} (f : ℕ × X → X) (n : ℕ) (xs : List X) (i : ℕ) (d : X) → i < length xs
    → set (map f (enumerate_from n (take i xs)) ++ drop i xs) i (f (n + i, get_or xs i d))
    ≡ map f (enumerate_from n (take (suc i) xs)) ++ drop (suc i) xs
by_suc f n [] i d lt = absurd (omega arith)
by_suc f n (x ∷ xs) zero d lt = let e : n + 0 ≡ n = omega arith in ap (λ k. f (k, x) ∷ xs) e
by_suc f n (x ∷ xs) (suc i) d lt =
    let e : n + suc i ≡ n + 1 + i = omega arith in
    ap (λ l. f (n, x) ∷ l)
    (ap (λ k. set (map f (enumerate_from (n + 1) (take i xs)) ++ drop i xs) i (f (k, get_or xs i d))) e
    ∙ by_suc f (n + 1) xs i d (omega arith))

-- writes one more element
enumerate_over_more : {X : Type 0} (f : ℕ × X → X) (xs : List X) (i : ℕ) (d : X) → i < length xs
    → set (map f (enumerate_from 0 (take i xs)) ++ drop i xs) i (f (i, get_or xs i d))
    ≡ map f (enumerate_from 0 (take (i + 1) xs)) ++ drop (i + 1) xs
enumerate_over_more f xs i d lt =
    let e : i ≡ 0 + i = omega arith in
    let s : suc i ≡ i + 1 = omega arith in
    ap (λ k. set (map f (enumerate_from 0 (take i xs)) ++ drop i xs) i (f (k, get_or xs i d))) e
    ∙ by_suc f 0 xs i d lt ∙ ap (λ k. map f (enumerate_from 0 (take k xs)) ++ drop k xs) s

-- writes one more element, in the form of a loop: ys is the list so far, and x its element at i
pub places_more : {X : Type 0} (f : ℕ × X → X) (xs ys : List X) (i : ℕ) (x : X) → i < length xs
    → ys ≡ map f (enumerate_from 0 (take i xs)) ++ drop i xs → x ≡ get_or ys i x
    → set ys i (f (i, x)) ≡ map f (enumerate_from 0 (take (i + 1) xs)) ++ drop (i + 1) xs
places_more f xs ys i x lt h is =
    let front = map f (enumerate_from 0 (take i xs)) in
    let long : length front ≡ i = length-map (enumerate_from 0 (take i xs)) f ∙ length-enumerate_from 0 (take i xs)
    ∙ omega (arith, length-take i xs) in
    let parts : ys ≡ front ++ get_or xs i x ∷ drop (i + 1) xs = h ∙ ap (λ l. front ++ l) (drop_more xs i x lt) in
    let read : x ≡ get_or xs i x = is ∙ ap (λ l. get_or l i x) parts ∙ get_or_at front _ _ x i long in
    ap (λ l. set l i (f (i, x))) h ∙ ap (λ y. set (front ++ drop i xs) i (f (i, y))) read
    ∙ enumerate_over_more f xs i x lt
