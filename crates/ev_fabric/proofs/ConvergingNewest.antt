-- Among the adverts of one register a list has a newest one.
use Rattle.std.proofs.Common.{◌≡◌, ◌⊎◌, inl, inr, zero, suc, Bool, true, false, Option, Some, None, List, [], ◌∷◌, ◌++◌}
use Rattle.std.proofs.Common.{refl, sym, ap, ◌∙◌, arith}
use Rattle.std.proofs.lemmas.Bool.{cases_Bool, or_parts, false_from_ne_true}
use Rattle.std.proofs.lemmas.List.Folds.{list_any-append}
use Rattle.std.specs.Prelude.{Contains, is_some, not, ◌&&◌, ◌||◌}
use Rattle.std.specs.List.{list_any}
use Rattle.std.specs.Ordering.{eq_by_cmp, is_lt, ordering_reverse}
use Rattle.route_wire.specs.declared.update.Value.{Value}
use Rattle.route_wire.specs.Fields.{Fields}
use Rattle.route_wire.specs.Order.{register_cmp, is_newer}
use Rattle.route_wire.specs.Inner.Totals.{value_total}
use Rattle.route_join.specs.Table.{is_news}
use Rattle.route_join.specs.Owner.{advert_in}
use Rattle.ev_fabric.specs.ConvergenceEdge.{is_over, is_latest}
use Rattle.ev_fabric.proofs.ConvergingSums.{later_one}
use Rattle.route_join.proofs.Orders.{less}
use Rattle.route_join.proofs.Tables.{same_register, not_newer_itself}
use Rattle.route_join.proofs.Joins.{newer_trans, not_newer_trans}

any_none : {X : Type 0} (p : X → Bool) (xs : List X) → ((x : X) → Contains xs x → p x ≡ false)
    → list_any p xs ≡ false
any_none p [] h = refl
any_none p (x ∷ xs) h = both (p x) (list_any p xs) (h x (0, omega arith, refl))
    (any_none p xs (λ y in'. h y (suc in'.0, (omega (arith, in'.1)), in'.2)))
  where
    both : (a b : Bool) → a ≡ false → b ≡ false → (a || b) ≡ false
    both false false p q = refl
    both false true p q = q
    both true b p q = cc

-- a longer list that has none has none at its front
pub any_front : {X : Type 0} (p : X → Bool) (xs ys : List X) → list_any p (xs ++ ys) ≡ false → list_any p xs ≡ false
any_front p xs ys h = (or_parts (list_any p xs) (list_any p ys) (sym (list_any-append p xs ys) ∙ h)).0

pub record Newest (us : List Fields) (u : Fields) : Type 0 where
  pub update : Fields
  pub from : Contains us update ⊎ (update ≡ u)
  pub register : update.register ≡ u.register
  pub advert : is_some (advert_in update.value.content) ≡ true
  pub order : (update ≡ u) ⊎ (is_newer update.value u.value ≡ true)
  pub above : (x : Fields) → Contains us x → is_over update x ≡ false

three : (a b c : Bool) → (a && (b && c)) ≡ true → (a ≡ true) × (b ≡ true) × (c ≡ true)
three true true true e = (refl, refl, refl)
three true true false e = cc
three true false c e = cc
three false b c e = cc

not_over : (w x : Fields) → (eq_by_cmp register_cmp x.register w.register ≡ true
    → is_some (advert_in x.value.content) ≡ true → is_newer x.value w.value ≡ false) → is_over w x ≡ false
not_over w x h = go (eq_by_cmp register_cmp x.register w.register) (is_some (advert_in x.value.content))
    (is_newer x.value w.value) h
  where
    go : (a b c : Bool) → (a ≡ true → b ≡ true → c ≡ false) → (a && (b && c)) ≡ false
    go false b c h = refl
    go true false c h = refl
    go true true c h = h refl refl

pub newest : (us : List Fields) (u : Fields) → is_some (advert_in u.value.content) ≡ true → Newest us u
newest [] u some = record {
  update = u;
  from = inr refl;
  register = refl;
  advert = some;
  order = inl refl;
  above = λ x in'. absurd (omega (arith, in'.1));
}
newest (x ∷ us) u some = elim (cases_Bool (is_over u x)) [
  | inl e ↦
      let t = three (eq_by_cmp register_cmp x.register u.register) (is_some (advert_in x.value.content))
      (is_newer x.value u.value) e in
      let n = newest us x t.1 in
      more n (same_register x.register u.register t.0) (inr t.2) (inl (0, omega arith, refl))
      (λ r a. elim n.order [
        | inl same ↦ rw same (not_newer_itself x.value)
        | inr above ↦ turned n.update.value x.value above
      ])
  | inr e ↦
      let n = newest us u some in
      more n refl (inl refl) (inr refl) (λ r a.
      let low = false_from_ne_true (is_newer x.value u.value)
      (λ p. let q : eq_by_cmp register_cmp x.register u.register ≡ true = rw n.register at r in
      let over : is_over u x ≡ true = rw (q, a, p) refl in cc) in
      elim n.order [
        | inl same ↦ rw same low
        | inr above ↦ not_newer_trans n.update.value u.value x.value (turned n.update.value u.value above) low
      ])
]
  where
    -- of two values one is newer
    turned : (v w : Value) → is_newer v w ≡ true → is_newer w v ≡ false
    turned v w above = ap is_lt (value_total.antisymm v w ∙ ap ordering_reverse (less _ above))

    -- from the newest of the rest, over the element or not
    more : {w : Fields} (n : Newest us w) → w.register ≡ u.register → (w ≡ u) ⊎ (is_newer w.value u.value ≡ true)
        → Contains (x ∷ us) w ⊎ (w ≡ u) → (eq_by_cmp register_cmp x.register n.update.register ≡ true
        → is_some (advert_in x.value.content) ≡ true → is_newer x.value n.update.value ≡ false) → Newest (x ∷ us) u
    more {w} n same order inside off = record {
      update = n.update;
      from = elim n.from [
        | inl in' ↦ inl (later_one x us n.update in')
        | inr is ↦ rw is inside
      ];
      register = n.register ∙ same;
      advert = n.advert;
      order = elim n.order [
        | inl is ↦ rw is order
        | inr above ↦ inr (elim order [
          | inl is ↦ rw is at above
          | inr newer ↦ newer_trans u.value w.value n.update.value newer above
        ])
      ];
      above = above;
    }
      where
        above : (y : Fields) → Contains (x ∷ us) y → is_over n.update y ≡ false
        above y (zero, lt, is) = rw is at (not_over n.update x off)
        above y (suc i, lt, is) = n.above y (i, omega arith, is)

pub newest_is : {us : List Fields} {u : Fields} (n : Newest us u) → is_latest us n.update ≡ true
newest_is {us} n = ap not (any_none (is_over n.update) us n.above)

pub news_up : (o : Option Value) (u w : Fields) → is_news o u.value ≡ true → (w ≡ u) ⊎ (is_newer w.value u.value ≡ true)
    → is_news o w.value ≡ true
news_up None u w h order = refl
news_up (Some v) u w h order = elim order [
  | inl same ↦
      rw same h
  | inr more ↦ newer_trans v u.value w.value h more
]
