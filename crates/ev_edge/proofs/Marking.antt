-- Edges that are away are listed ones, in the order of the list.
use Rattle.std.proofs.Common.{◌≡◌, ℕ, Bool, true, false, not, eqb, ◌&&◌, List, [], ◌∷◌, refl, sym, ap, ◌∙◌}
use Rattle.std.specs.Prelude.{◌||◌, filter}
use Rattle.std.proofs.lemmas.Bool.{eq-eqb, eqb-true}
use Rattle.std.proofs.lemmas.Bool.{cases_Bool, ne_eqb, false≢true}
use Rattle.std.proofs.Common.{inl, inr}
use Rattle.ev_tunnel.specs.Decision.{is_away}
use Rattle.ev_edge.specs.Away.{with_away, with_back}

or_right : (a b : Bool) → b ≡ true → (a || b) ≡ true
or_right true b h = refl
or_right false b h = h

and_true : (b : Bool) → (b && true) ≡ b
and_true true = refl
and_true false = refl

-- ---- lists that a test leaves

kept_in : (p : ℕ → Bool) (os : List ℕ) (o : ℕ) → p o ≡ true → is_away (filter p os) o ≡ is_away os o
kept_in p [] o is = refl
kept_in p (x ∷ os) o is = (let rest = kept_in p os o is in elim (cases_Bool (p x)) [
  | inl stays ↦ rw (stays, rest)
  | inr out ↦ rw (out, rest, ne_eqb x o (λ e. false≢true (sym (rw e at out) ∙ is)))
])

left_out : (p : ℕ → Bool) (os : List ℕ) (o : ℕ) → p o ≡ false → is_away (filter p os) o ≡ false
left_out p [] o out = refl
left_out p (x ∷ os) o out = (let rest = left_out p os o out in elim (cases_Bool (p x)) [
  | inl stays ↦ rw (stays, rest, ne_eqb x o (λ e. false≢true (sym out ∙ rw e at stays)))
  | inr gone ↦ rw gone rest
])

filter_agree : (p q : ℕ → Bool) (os : List ℕ) → ((o : ℕ) → is_away os o ≡ true → p o ≡ q o)
    → filter p os ≡ filter q os
filter_agree p q [] h = refl
filter_agree p q (x ∷ os) h = rw (
  h x (rw (eq-eqb x x refl)),
  filter_agree p q os (λ o there. h o (or_right (eqb x o) (is_away os o) there)),
)

filter_twice : (p q : ℕ → Bool) (os : List ℕ) → filter q (filter p os) ≡ filter (λ o. p o && q o) os
filter_twice p q [] = refl
filter_twice p q (x ∷ os) = elim (cases_Bool (p x)) [
  | inl stays ↦ rw (stays, filter_twice p q os)
  | inr out ↦ rw (out, filter_twice p q os)
]

-- ---- in the order of the list

-- a list that a test left has those of the first list that pass it
kept_listed : (p : ℕ → Bool) (os : List ℕ) → filter p os ≡ filter (is_away (filter p os)) os
kept_listed p os = filter_agree p (is_away (filter p os)) os (λ o there. elim (cases_Bool (p o)) [
  | inl stays ↦ rw (stays, kept_in p os o stays, there)
  | inr out ↦ rw (out, left_out p os o out)
])

pub none_listed : (os : List ℕ) → [] ≡ filter (is_away []) os
none_listed [] = refl
none_listed (x ∷ os) = none_listed os

pub away_listed : (os away : List ℕ) (a : ℕ) → with_away os away a ≡ filter (is_away (with_away os away a)) os
away_listed os away a = kept_listed (λ o. eqb o a || is_away away o) os

pub back_listed : (os away : List ℕ) (a : ℕ) → away ≡ filter (is_away away) os
    → with_back away a ≡ filter (is_away (with_back away a)) os
back_listed os away a listed =
    let both : ℕ → Bool = λ o. is_away away o && not (eqb o a) in
    let same : with_back away a ≡ filter both os =
    ap (filter (λ o. not (eqb o a))) listed ∙ filter_twice (is_away away) (λ o. not (eqb o a)) os in
    same ∙ kept_listed both os ∙ ap (λ (l : List ℕ). filter (is_away l) os) (sym same)

-- away, and back again
pub back_again : (os away : List ℕ) (a : ℕ) → away ≡ filter (is_away away) os → is_away away a ≡ false
    → with_back (with_away os away a) a ≡ away
back_again os away a listed up =
    filter_twice (λ o. eqb o a || is_away away o) (λ o. not (eqb o a)) os
    ∙ (λ i. filter (λ o. each o (eqb o a) refl i) os) ∙ sym listed
  where
    each : (o : ℕ) (b : Bool) → eqb o a ≡ b
        → ((eqb o a || is_away away o) && not (eqb o a)) ≡ is_away away o
    each o true e = (λ i. (e i || is_away away o) && not (e i))
        ∙ sym (ap (is_away away) (eqb-true o a e) ∙ up)
    each o false e = (λ i. (e i || is_away away o) && not (e i)) ∙ and_true (is_away away o)
