-- A text cut at an octet, read from its front, and a list of originators.
use Rattle.std.proofs.Common.{◌≡◌, ℕ, ◌+◌, ◌<◌, Bool, true, false, cond, not, ◌||◌, ◌==◌, nat_lt, List, [], ◌∷◌}
use Rattle.std.proofs.Common.{take, drop, length, length-drop, Some, None, option_map, Result, Ok, Err, refl, sym, ap}
use Rattle.std.proofs.Common.{subst, ◌∙◌, arith}
use Rattle.std.specs.List.{onto_first, position_or_len, after_first, list_any}
use Rattle.std.proofs.lemmas.Bool.Decides.{nat_tests}
use Rattle.std.proofs.lemmas.List.Splits.{slice_split_first}
use Rattle.ether_wire.specs.Parse.{parted}
use Rattle.std.specs.Result.{IsErrAnd}
use Rattle.arrayvec.specs.ArrayVec.{ArrayVec}
use Rattle.ether_wire.specs.declared.addr.Addr.{Addr}
use Rattle.ev_report.specs.declared.originators.ListFault.{ListFault}
use Rattle.ev_report.specs.declared.originators.WrongPart.{WrongPart}
use Rattle.ev_report.specs.Originators.{Text, parts, is_zero_led, has_leading_zero, and_then, with_part}
use Rattle.ev_report.specs.Originators.{originators_from, listed}

abbrev parts_at : List ℕ → ℕ → List ℕ × List ℕ
parts_at s i = (take i s, drop (i + 1) s)

cut : (b : Bool) (i : ℕ) (s front after : List ℕ) → option_map (parts_at s) (cond b (Some i) None) ≡ Some (front, after)
    → (b ≡ true) × (take i s ≡ front) × (drop (i + 1) s ≡ after)
cut true i s front after h = let e : ◌≡◌ {A = List ℕ × List ℕ} (take i s, drop (i + 1) s) (front, after) = cc in
    (refl, ap (λ (p : List ℕ × List ℕ). p.0) e, ap (λ (p : List ℕ × List ℕ). p.1) e)
cut false i s front after h = cc

no_cut : (b : Bool) (i : ℕ) (s : List ℕ) → option_map (parts_at s) (cond b (Some i) None) ≡ None → b ≡ false
no_cut true i s h = cc
no_cut false i s h = refl

pub split_some : (octet : ℕ) (s front after : List ℕ) → parted octet s ≡ Some (front, after)
    → parts octet s ≡ front ∷ parts octet after
unfolding parted
split_some octet s front after h =
    let c = cut (nat_lt (position_or_len (λ x. x == octet) s) (length s)) (position_or_len (λ x. x == octet) s) s front
    after h in
    let b = c.0 in
    let within : position_or_len (λ x. x == octet) s < length s = grind (arith, nat_tests) in
    slice_split_first (λ x. x == octet) s 0 within ∙ ap (λ x. x ∷ parts octet (after_first (λ x. x == octet) s)) c.1
    ∙ ap (λ x. front ∷ parts octet x) c.2

pub shorter_after : (octet : ℕ) (s front after : List ℕ) → parted octet s ≡ Some (front, after)
    → length after < length s
unfolding parted
shorter_after octet s front after h =
    let c = cut (nat_lt (position_or_len (λ x. x == octet) s) (length s)) (position_or_len (λ x. x == octet) s) s front
    after h in
    let b = c.0 in
    let within : position_or_len (λ x. x == octet) s < length s = grind (arith, nat_tests) in
    let l = ap length c.2 in
    let d = length-drop (position_or_len (λ x. x == octet) s + 1) s in
    omega arith

uncut_more : (octet x : ℕ) (s : List ℕ) (b : Bool) → (x == octet) ≡ b
    → nat_lt (position_or_len (λ y. y == octet) (x ∷ s)) (length (x ∷ s)) ≡ false
    → (nat_lt (position_or_len (λ y. y == octet) s) (length s) ≡ false → parts octet s ≡ s ∷ [])
    → parts octet (x ∷ s) ≡ (x ∷ s) ∷ []
uncut_more octet x s true e h rest =
    let at : nat_lt (cond (not true) (1 + position_or_len (λ y. y == octet) s) 0) (length (x ∷ s)) ≡ false =
    subst (λ b. nat_lt (cond (not b) (1 + position_or_len (λ y. y == octet) s) 0) (length (x ∷ s)) ≡ false) e h in
    absurd (grind (arith, nat_tests))
uncut_more octet x s false e h rest =
    let at : nat_lt (1 + position_or_len (λ y. y == octet) s) (length (x ∷ s)) ≡ false =
    subst (λ b. nat_lt (cond (not b) (1 + position_or_len (λ y. y == octet) s) 0) (length (x ∷ s)) ≡ false) e h in
    let t : nat_lt (position_or_len (λ y. y == octet) s) (length s) ≡ false = grind (arith, nat_tests) in
    ap (λ b. cond b ([] ∷ parts octet s) (onto_first x (parts octet s))) e ∙ ap (onto_first x) (rest t)

uncut : (octet : ℕ) (s : List ℕ) → nat_lt (position_or_len (λ x. x == octet) s) (length s) ≡ false
    → parts octet s ≡ s ∷ []
uncut octet [] h = refl
uncut octet (x ∷ s) h = uncut_more octet x s (x == octet) refl h (uncut octet s)

pub split_none : (octet : ℕ) (s : List ℕ) → parted octet s ≡ None → parts octet s ≡ s ∷ []
unfolding parted
split_none octet s h = uncut octet s (no_cut (nat_lt (position_or_len (λ x. x == octet) s) (length s))
    (position_or_len (λ x. x == octet) s) s h)

-- ---- numbers that begin with 0

module _ (text rest : Text) (so_far : list_any is_zero_led (parts 46 rest) ≡ has_leading_zero text) where
  first_part : (number after : Text) → parted 46 rest ≡ Some (number, after)
      → (is_zero_led number || list_any is_zero_led (parts 46 after)) ≡ has_leading_zero text
  first_part number after h = ap (list_any is_zero_led) (sym (split_some 46 rest number after h)) ∙ so_far

  pub zero_here : (number after : Text) → parted 46 rest ≡ Some (number, after) → is_zero_led number ≡ true
      → true ≡ has_leading_zero text
  zero_here number after h z = ap (λ b. b || list_any is_zero_led (parts 46 after)) (sym z) ∙ first_part number after h

  pub zero_later : (number after : Text) → parted 46 rest ≡ Some (number, after) → is_zero_led number ≡ false
      → list_any is_zero_led (parts 46 after) ≡ has_leading_zero text
  zero_later number after h z = ap (λ b. b || list_any is_zero_led (parts 46 after)) (sym z) ∙ first_part number after h

  pub zero_last : parted 46 rest ≡ None → is_zero_led rest ≡ has_leading_zero text
  zero_last h = go (is_zero_led rest) ∙ ap (list_any is_zero_led) (sym (split_none 46 rest h)) ∙ so_far
    where
      go : (b : Bool) → b ≡ (b || false)
      go true = refl
      go false = refl

-- ---- one part of the list more

pub part_taken : (before next : List ℕ) (text : Text) (texts : List Text) → Ok next ≡ with_part before text
    → originators_from before (text ∷ texts) ≡ originators_from next texts
part_taken before next text texts h = ap (λ r. and_then r (λ os. originators_from os texts)) (sym h)

pub part_wrong : (before : List ℕ) (wrong : Text × ListFault) (text : Text) (texts : List Text)
    → Err wrong ≡ with_part before text → originators_from before (text ∷ texts) ≡ Err wrong
part_wrong before wrong text texts h = ap (λ r. and_then r (λ os. originators_from os texts)) (sym h)

pub part_last : (before : List ℕ) (text : Text) → originators_from before (text ∷ []) ≡ with_part before text
part_last before text = go (with_part before text)
  where
    go : (r : Result (List ℕ) (Text × ListFault)) → and_then r (λ os. Ok os) ≡ r
    go (Ok os) = refl
    go (Err wrong) = refl

pub listed_wrong : (r : Result (ArrayVec Addr) WrongPart) (w : WrongPart) → IsErrAnd r (λ x. x ≡ w)
    → listed r ≡ Err (w.part.now, w.fault)
listed_wrong (Ok originators) w h = absurd h
listed_wrong (Err x) w h = ap (λ (y : WrongPart). wrong_as y) h
  where
    wrong_as : WrongPart → Result (List ℕ) (Text × ListFault)
    wrong_as y = Err (y.part.now, y.fault)
