-- The octets between two places of a list.
use Rattle.std.proofs.Common.{◌≡◌, ℕ, ◌+◌, ◌-◌, ◌≤◌, List, ◌++◌, length, take, drop, sym, ap, ◌∙◌, arith}
use Rattle.std.proofs.lemmas.List.{drop-take, drop-drop, drop-append-le, length-take-le}

-- the octets from place `s` to place `e`
window : (s e : ℕ) (xs : List ℕ) → s ≤ e → take (e - s) (drop s xs) ≡ drop s (take e xs)
window s e xs before =
    let all : s + (e - s) ≡ e = omega (arith, before) in
    sym (drop-take s (e - s) xs) ∙ ap (λ (n : ℕ). drop s (take n xs)) all

-- these octets without the first `n` of them
pub window_left : (s e n : ℕ) (xs : List ℕ) → s + n ≤ e
    → take (e - (s + n)) (drop (s + n) xs) ≡ drop n (take (e - s) (drop s xs))
window_left s e n xs before =
    window (s + n) e xs before ∙ sym (drop-drop n s (take e xs))
    ∙ ap (drop n) (sym (window s e xs (omega (arith, before))))

-- these octets with `more` appended
pub window_more : (s e : ℕ) (xs ys more : List ℕ) → s ≤ e → e ≤ length xs
    → take (e + length more) ys ≡ take e xs ++ more
    → take (e + length more - s) (drop s ys) ≡ take (e - s) (drop s xs) ++ more
window_more s e xs ys more before within written =
    let long = length-take-le e xs within in
    window s (e + length more) ys (omega (arith, before)) ∙ ap (drop s) written
    ∙ drop-append-le s (take e xs) more (omega (arith, before, long))
    ∙ ap (λ (zs : List ℕ). zs ++ more) (sym (window s e xs before))
