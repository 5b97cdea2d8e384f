-- A step of a feed that holds no whole record: it takes some octets of a piece, and holds none again.
use Rattle.std.proofs.Common.{◌≡◌, ℕ, ◌<◌, ◌⊎◌, inl, inr, true, false, List, length, refl, ap, arith}
use Rattle.std.proofs.lemmas.List.{append-nil}
use Rattle.std.proofs.lemmas.Bool.{cases_lt}
use Rattle.std.specs.Bool.{OnTrue, OnFalse}
use Rattle.route_wire.specs.declared.stream.Whole.{Whole}
use Rattle.route_wire.specs.declared.stream.Whole.TheVariants.{Rest, Fault, Length}
use Rattle.route_wire.specs.Stream.{whole_up_to}
use Rattle.route_wire.specs.Record.{is_length}
use Rattle.route_wire.specs.Feed.{Held, is_rest, is_fault, shown, rest_by, after_next, Feeds, Takes}

by_shown : (w : Whole) (A B : Type 0) → is_length w ≡ false → OnTrue (is_fault w) A × OnFalse (is_fault w) B
    → ((w ≡ Rest) × B) ⊎ A
by_shown Rest A B e f = inl (refl, f.1)
by_shown (Fault n) A B e f = inr f.0
by_shown (Length n) A B e f = cc

taking : (h m : Held) (piece : List ℕ) (n : ℕ) → Takes h m piece n → shown h ≡ Rest → 0 < length piece → 0 < n
taking h m piece n t e some = elim (cases_lt 0 n) [
  | inl less ↦ less
  | inr le ↦
      let none : n ≡ 0 = omega arith in
      let taken = rw (none, append-nil) at t.taken in
      let shows : is_rest (shown m) ≡ true = cc t.version in
      let all = t.ended shows in
      omega arith
]

-- a feed that holds no whole record takes some octets
pub feeds_some : (h m : Held) (piece : List ℕ) (n : ℕ) → Feeds h m piece n → is_length (shown h) ≡ false
    → 0 < length piece → 0 < n
feeds_some h m piece n f e some = elim (by_shown (shown h) _ _ e f) [
  | inl t ↦ taking h m piece n t.1 t.0 some
  | inr s ↦ let all = s.all in omega arith
]

pub feeds_version : (h m : Held) (piece : List ℕ) (n : ℕ) → Feeds h m piece n → is_length (shown h) ≡ false
    → m.newest ≡ h.newest
feeds_version h m piece n f e = elim (by_shown (shown h) _ _ e f) [
  | inl t ↦ t.1.version
  | inr s ↦ ap (λ x. x.newest) s.unchanged
]

-- after `next` no whole record is held
pub next_holds_none : (m : Held) → is_length (shown (after_next m)) ≡ false
next_holds_none m = go (shown m) refl
  where
    go : (w : Whole) → shown m ≡ w → is_length (whole_up_to m.newest (rest_by w m.rest)) ≡ false
    go Rest e = ap is_length e
    go (Fault f) e = ap is_length e
    go (Length n) e = refl

-- if no whole record is held, `next` changes nothing
pub same_after : (h : Held) → is_length (shown h) ≡ false → after_next h ≡ h
same_after h e = ap (λ (r : List ℕ). record { newest = h.newest; rest = r }) (go (shown h) e)
  where
    go : (w : Whole) → is_length w ≡ false → rest_by w h.rest ≡ h.rest
    go Rest e = refl
    go (Fault f) e = refl
    go (Length n) e = cc
