-- The concatenation of the texts of a list's elements.
use Rattle.std.proofs.Common.{◌≡◌, ℕ, ◌+◌, ◌<◌, List, [], ◌∷◌, ◌++◌, map, take, length, get_or, append-nil}
use Rattle.std.proofs.Common.{append_assoc, refl, sym, ap, ◌∙◌, arith}
use Rattle.std.proofs.lemmas.List.{take_more, length-take-le}
use Rattle.ether_wire.specs.Ends.{End, with_text}
use Rattle.ether_wire.proofs.Appending.{with_text_twice}
use Rattle.ev_view.specs.EdgeViews.{each_from}

pub each_both : {A B : Type 0} (text : ℕ → A → List B) (number : ℕ) (xs ys : List A) → each_from text number (xs ++ ys)
    ≡ each_from text number xs ++ each_from text (number + length xs) ys
each_both text number [] ys = ap (λ n. each_from text n ys) (grind arith)
each_both text number (x ∷ xs) ys =
    ap (λ more. text number x ++ more) (each_both text (number + 1) xs ys
    ∙ ap (λ n. each_from text (number + 1) xs ++ each_from text n ys) (grind arith))
    ∙ sym (append_assoc (text number x) (each_from text (number + 1) xs) (each_from text (number + length (x ∷ xs)) ys))

-- one more
pub each_more : {A B : Type 0} (text : ℕ → A → List B) (number : ℕ) (all : List A) (place : ℕ) (d : A)
    → place < length all
    → each_from text number (take (place + 1) all) ≡ each_from text number (take place all)
    ++ text (number + place) (get_or all place d)
each_more text number all place d within =
    let before = take place all in
    let one = get_or all place d in
    let count : number + length before ≡ number + place =
    ap (λ n. number + n) (length-take-le place all (omega arith)) in
    ap (each_from text number) (take_more all place d within) ∙ each_both text number before (one ∷ [])
    ∙ ap (λ n. each_from text number before ++ each_from text n (one ∷ [])) count
    ∙ ap (λ t. each_from text number before ++ t) (append-nil (text (number + place) one))

-- each of these by a function's result
pub each_of_map : {A B C : Type 0} (text : ℕ → B → List C) (f : A → B) (number : ℕ) (xs : List A)
    → each_from (λ n x. text n (f x)) number xs ≡ each_from text number (map f xs)
each_of_map text f number [] = refl
each_of_map text f number (x ∷ xs) = ap (λ more. text number (f x) ++ more) (each_of_map text f (number + 1) xs)

-- a list that has the texts of these, and gets the text of one more
pub gives_more : {A B : Type 0} (gives : ℕ → A → List B) (number : ℕ) (all : List A) (place : ℕ) (d : A)
    (start old new : List B)
    → place < length all → old ≡ start ++ each_from gives number (take place all)
    → new ≡ old ++ gives (number + place) (get_or all place d)
    → new ≡ start ++ each_from gives number (take (place + 1) all)
gives_more {B = B} gives number all place d start old new within was one =
    let more = gives (number + place) (get_or all place d) in
    one ∙ ap (λ (xs : List B). xs ++ more) was
    ∙ append_assoc start (each_from gives number (take place all)) more
    ∙ ap (λ (xs : List B). start ++ xs) (sym (each_more gives number all place d within))

-- the text of one more, written behind those of the others
pub written_from : {X : Type 0} (text : ℕ → X → List ℕ) (number : ℕ) (all : List X) (place at : ℕ) (one d : X)
    (start mid last : End)
    → at ≡ number + place → mid ≡ with_text start (each_from text number (take place all))
    → last ≡ with_text mid (text at one) → one ≡ get_or all place d → place < length all
    → last ≡ with_text start (each_from text number (take (place + 1) all))
written_from text number all place at one d start mid last next before put is within =
    let others = each_from text number (take place all) in
    put ∙ ap (λ (e : End). with_text e (text at one)) before ∙ with_text_twice start others (text at one)
    ∙ ap (λ n. with_text start (others ++ text n one)) next
    ∙ ap (λ x. with_text start (others ++ text (number + place) x)) is
    ∙ ap (with_text start) (sym (each_more text number all place d within))

-- the first of them has the number 1
pub each_written : {X : Type 0} (text : ℕ → X → List ℕ) (all : List X) (place : ℕ) (one d : X) (start mid last : End)
    → mid ≡ with_text start (each_from text 1 (take place all)) → last ≡ with_text mid (text (place + 1) one)
    → one ≡ get_or all place d → place < length all → last ≡ with_text start (each_from text 1 (take (place + 1) all))
each_written text all place one d start mid last = written_from text 1 all place (place + 1) one d start mid last
    (omega arith)
