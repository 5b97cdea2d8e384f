-- Pages of tables, one after the other: their order, and the registers on them.
use Rattle.std.proofs.Common.{◌≡◌, zero, suc, true, false, inl, inr, Option, Some, None, is_some, List, [], ◌∷◌, ◌++◌}
use Rattle.std.proofs.Common.{length, take, drop, Contains, refl, sym, ap, subst, ◌∙◌, append_assoc, append-nil, arith}
use Rattle.std.specs.declared.cmp.Ordering.TheVariants.{Less}
use Rattle.std.specs.List.{AllByRecursion}
use Rattle.std.proofs.lemmas.Bool.{ltb-true}
use Rattle.std.proofs.lemmas.List.{take-append-drop, take_all, length-take}
use Rattle.std.proofs.lemmas.List.Elements.{filter_passes, All-contains}
use Rattle.std.proofs.lemmas.List.Elements.{Contains-append_left, Contains-append_right, Contains-append_cases}
use Rattle.route_wire.specs.declared.update.Register.{Register}
use Rattle.route_wire.specs.declared.update.Value.{Value}
use Rattle.route_wire.specs.Fields.{Fields}
use Rattle.route_wire.specs.Order.{register_cmp}
use Rattle.route_join.specs.Table.{Table, IsOrdered, value_at}
use Rattle.route_join.specs.Updates.{all_updates}
use Rattle.route_join.specs.After.{comes_after, updates_after, updates_from, page_at, page_len, is_last, last_from}
use Rattle.route_join.specs.After.{AreAfter, IsPage}
use Rattle.route_join.specs.PageLaws.{ArePages, IsWhole, joined, PagesAscend, PagesOfOne, RegisterStays}
use Rattle.route_join.proofs.Orders.{less}
use Rattle.route_join.proofs.Abouts.{all_updates_are}
use Rattle.route_join.proofs.Afters.{filtered, after_from, ordered_from, page_is}
use Rattle.route_join.proofs.Pages.{last_some, after_last, from_later, AreUpTo, page_ordered, page_up_to}

-- ---- the order
ascend : (after : Option Register) (us : List Fields) (ts : List Table) (ps : List (List Fields)) → IsOrdered us
    → AreUpTo after us → ArePages after ts ps → IsOrdered (us ++ joined ps)
ascend after us [] [] s u a = rw (append-nil us) s
ascend after us [] (p ∷ ps) s u a = absurd a
ascend after us (t ∷ ts) [] s u a = absurd a
ascend after us (t ∷ ts) (p ∷ ps) s u a =
    let page = subst (IsPage after) (sym a.0) (page_is after t) in
    subst IsOrdered (append_assoc us p (joined ps))
    (ascend (last_from after p) (us ++ p) ts ps (page_ordered after us p s u page) (page_up_to after us p u page) a.1)

pub pages_ascend : PagesAscend
pages_ascend ts ps a = ascend None [] ts ps refl refl a

-- ---- a page, and the updates after it
-- a page that isn't full has all that was left
last_page : (p us : List Fields) → p ≡ take page_len us → is_last p ≡ true → p ≡ us
last_page p us e h =
    let few = ltb-true (length p) page_len h in
    let same = ap length e ∙ length-take page_len us in
    e ∙ take_all page_len us (omega (arith, few, same))

-- the updates left after a full one are after its last register
next_page : (after : Option Register) (us p : List Fields) → IsOrdered us → p ≡ take page_len (updates_from after us)
    → is_last p ≡ false → p ++ updates_from (last_from after p) us ≡ updates_from after us
next_page after us [] s e h = cc
next_page after us (v ∷ vs) s e h =
    let left = updates_from after us in
    let end = drop page_len left in
    let whole : left ≡ v ∷ vs ++ end = sym (take-append-drop page_len left) ∙ ap (λ x. x ++ end) (sym e) in
    rw (
      last_some after v vs,
      from_later after v vs end us (subst (AreAfter after) whole (after_from after us)),
      whole,
      after_last v vs end (subst IsOrdered whole (ordered_from after us s)),
    )

-- ---- one table
of_one : (t : Table) (after : Option Register) (ts : List Table) (ps : List (List Fields))
    → AllByRecursion (λ s. s ≡ t) ts → ArePages after ts ps → IsWhole ps
    → joined ps ≡ updates_from after (all_updates t)
of_one t after ts [] all a w = absurd w
of_one t after [] (p ∷ ps) all a w = absurd a
of_one t after (s ∷ ts) (p ∷ []) all a w = append-nil p
    ∙ last_page p (updates_from after (all_updates t)) (a.0 ∙ ap (page_at after) all.0) w
of_one t after (s ∷ ts) (p ∷ q ∷ ps) all a w =
    rw (of_one t (last_from after p) ts (q ∷ ps) all.1 a.1 w.1)
    (next_page after (all_updates t) p (all_updates_are t).ordered (a.0 ∙ ap (page_at after) all.0) w.0)

pub pages_of_one : PagesOfOne
pages_of_one t ts ps all a w = of_one t None ts ps all a w

-- ---- a register that stays
kept_after : (r : Register) (us : List Fields) (u : Fields) → register_cmp r u.register ≡ Less → Contains us u
    → Contains (updates_after r us) u
kept_after r [] u l (k, h, e) = absurd (omega (arith, h))
kept_after r (x ∷ xs) u l (zero, h, e) =
    rw (ap (λ (y : Fields). register_cmp r y.register) e ∙ l) (0, omega arith, e)
kept_after r (x ∷ xs) u l (suc k, h, e) =
    filtered (λ ys. Contains ys u) (comes_after r) x xs (kept_after r xs u l (k, omega (arith, h), e))
    (Contains-append_right (x ∷ []) (updates_after r xs) u)

-- an update of the register is among these
abbrev IsOn : Register → List Fields → Type 0
IsOn r us = (v : Value) × Contains us (record { register = r; value = v })

in_table : (r : Register) (t : Table) → is_some (value_at t r) ≡ true → IsOn r (all_updates t)
in_table r t h = elim (value_at t r) as (λ o. value_at t r ≡ o → is_some o ≡ true → IsOn r (all_updates t)) [
  | None ↦ λ e h. cc
  | Some v ↦ λ e h. (v, (all_updates_are t).all r v e)
] refl h

-- a register that is left in one table is left in each that has it
still_left : (after : Option Register) (us : List Fields) (u : Fields) → Contains (updates_from after us) u
    → (t : Table) → is_some (value_at t u.register) ≡ true → IsOn u.register (updates_from after (all_updates t))
still_left None us u c t h = in_table u.register t h
still_left (Some r) us u c t h =
    let there = in_table u.register t h in
    let later = All-contains (λ x. comes_after r x ≡ true) (updates_after r us) u
    (filter_passes (comes_after r) us) c in
    (there.0, kept_after r (all_updates t) (record { register = u.register; value = there.0 }) (less _ later) there.1)

stays : (r : Register) (after : Option Register) (ts : List Table) (ps : List (List Fields))
    → ((t : Table) → is_some (value_at t r) ≡ true → IsOn r (updates_from after (all_updates t)))
    → AllByRecursion (λ t. is_some (value_at t r) ≡ true) ts → ArePages after ts ps → IsWhole ps → IsOn r (joined ps)
stays r after ts [] left all a w = absurd w
stays r after [] (p ∷ ps) left all a w = absurd a
stays r after (t ∷ ts) (p ∷ []) left all a w =
    rw (append-nil p, last_page p (updates_from after (all_updates t)) a.0 w) (left t all.0)
stays r after (t ∷ ts) (p ∷ q ∷ ps) left all a w =
    let us = all_updates t in
    let c = subst (IsOn r) (sym (next_page after us p (all_updates_are t).ordered a.0 w.0)) (left t all.0) in
    let update : Fields = record { register = r; value = c.0 } in
    elim (Contains-append_cases p (updates_from (last_from after p) us) update c.1) as (λ _. IsOn r
    (joined (p ∷ q ∷ ps))) [
      | inl here ↦ (c.0, Contains-append_left p (joined (q ∷ ps)) update here)
      | inr rest ↦
          let later = stays r (last_from after p) ts (q ∷ ps) (still_left (last_from after p) us update rest)
          all.1 a.1 w.1 in
          (later.0, Contains-append_right p (joined (q ∷ ps)) (record { register = r; value = later.0 }) later.1)
    ]

pub register_stays : RegisterStays
register_stays r ts ps all a w = stays r None ts ps (in_table r) all a w
