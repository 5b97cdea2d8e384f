-- The octets of a piece before its rest.
use Rattle.std.proofs.Common.{◌≡◌, ℕ, List, [], ◌++◌, take, drop, length, refl, sym, ap, subst, ◌∙◌, append_assoc}
use Rattle.std.proofs.lemmas.List.{append-nil, nil_from_length, take-append-drop}

pub record Front (P : List ℕ → Type 0) (piece rest : List ℕ) : Type 0 where
  pub front : List ℕ
  pub split : piece ≡ front ++ rest
  pub holds : P front

pub front_none : (P : List ℕ → Type 0) (piece : List ℕ) → P [] → Front P piece piece
front_none P piece h = record { front = []; split = refl; holds = h }

module _ (P : List ℕ → Type 0) (piece rest : List ℕ) (f : Front P piece rest) where
  -- octets more
  pub front_more : (Q : List ℕ → Type 0) (n : ℕ) → ((front : List ℕ) → P front → Q (front ++ take n rest))
      → Front Q piece (drop n rest)
  front_more Q n more = record {
    front = f.front ++ take n rest;
    split = f.split ∙ ap (λ x. f.front ++ x) (sym (take-append-drop n rest))
        ∙ sym (append_assoc f.front (take n rest) (drop n rest));
    holds = more f.front f.holds;
  }

  -- all of them, the rest too
  pub front_rest : (Q : List ℕ → Type 0) → ((front : List ℕ) → P front → Q (front ++ rest)) → Q piece
  front_rest Q all = subst Q (sym f.split) (all f.front f.holds)

  pub front_all : length rest ≡ 0 → P piece
  front_all none = subst P
      (sym (f.split ∙ ap (λ x. f.front ++ x) (nil_from_length rest none) ∙ append-nil f.front)) f.holds
