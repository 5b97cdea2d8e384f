-- Pages one after the other: their updates are in order.
use Rattle.std.proofs.Common.{◌≡◌, suc, ◌-◌, true, false, cond, Option, Some, None, List, [], ◌∷◌, ◌++◌}
use Rattle.std.proofs.Common.{length, refl, sym, ap, ◌∙◌, append-nil, arith}
use Rattle.std.specs.Prelude.{slice_get}
use Rattle.std.specs.declared.cmp.Ordering.TheVariants.{Less, Equal, Greater}
use Rattle.std.specs.Cmp.{tied_itself}
use Rattle.std.specs.Ordering.{is_lt, is_le, ordering_reverse}
use Rattle.std.specs.FinMap.Entries.{below_all}
use Rattle.std.proofs.lemmas.Bool.{cond_both, false≢true, false_from_ne_true, and_parts as both}
use Rattle.std.proofs.lemmas.List.Elements.{filter-append}
use Rattle.route_wire.specs.declared.update.Register.{Register}
use Rattle.route_wire.specs.Fields.{Fields}
use Rattle.route_wire.specs.Order.{register_cmp}
use Rattle.route_wire.specs.Inner.Totals.{register_total}
use Rattle.route_join.specs.Table.{entries_of, IsOrdered}
use Rattle.route_join.specs.After.{comes_after, updates_after, updates_from, AreAfter, IsPage, is_last}
use Rattle.route_join.specs.After.{register_or, last_from}
use Rattle.route_join.proofs.Orders.{less}
use Rattle.route_join.proofs.Afters.{below_from, kept_below}

-- ---- the last update
abbrev pub last_of : Fields → List Fields → Fields
last_of v [] = v
last_of v (w ∷ ws) = last_of w ws

pub last_some : (r : Option Register) (v : Fields) (vs : List Fields) → last_from r (v ∷ vs)
    ≡ Some (last_of v vs).register
last_some r v [] = refl
last_some r v (w ∷ ws) =
    let place : length (v ∷ w ∷ ws) - 1 ≡ suc (length (w ∷ ws) - 1) = omega arith in
    ap (λ n. register_or r (slice_get (v ∷ w ∷ ws) n)) place ∙ last_some r w ws

-- a register below all of them is below the last one
pub last_above : (r : Register) (v : Fields) (vs us : List Fields)
    → below_all register_cmp r (entries_of (v ∷ vs ++ us)) ≡ true → register_cmp r (last_of v vs).register ≡ Less
last_above r v [] us h = less _ (both _ _ h).0
last_above r v (w ∷ ws) us h = last_above r w ws us (both _ _ h).1

-- of updates in order, those after the last of the first ones are the others
pub after_last : (v : Fields) (vs us : List Fields) → IsOrdered (v ∷ vs ++ us)
    → updates_after (last_of v vs).register (v ∷ vs ++ us) ≡ us
after_last v [] us s = rw (tied_itself register_total v.register) (kept_below v.register us (both _ _ s).0)
after_last v (w ∷ ws) us s =
    let last = (last_of w ws).register in
    let parts = both _ _ s in
    rw (register_total.antisymm last v.register, last_above v.register w ws us parts.0)
    (after_last w ws us parts.1)

-- an update after a later register is also after an earlier one
pub after_later : (r q : Register) (us : List Fields) → register_cmp r q ≡ Less
    → updates_after q (updates_after r us) ≡ updates_after q us
after_later r q [] l = refl
after_later r q (u ∷ us) l =
    let rest = after_later r q us l in
    cond_both (comes_after r u) (u ∷ updates_after r us) (updates_after r us)
    (λ xs. updates_after q xs ≡ updates_after q (u ∷ us)) (λ e. rw rest)
    (λ e. rw (false_from_ne_true (comes_after q u)
    (λ h. false≢true (sym e ∙ ap is_lt (register_total.trans r q u.register l (less _ h))))) rest)

-- an update after the last of some updates after a register is after the register
pub from_later : (r : Option Register) (v : Fields) (vs us all : List Fields) → AreAfter r (v ∷ vs ++ us)
    → updates_after (last_of v vs).register all ≡ updates_after (last_of v vs).register (updates_from r all)
from_later None v vs us all b = refl
from_later (Some r) v vs us all b = sym (after_later r (last_of v vs).register all (last_above r v vs us b))

-- ---- a page more
-- none comes after the register, and if there is no register, there is none
abbrev pub AreUpTo : Option Register → List Fields → Type 0
AreUpTo r us = updates_from r us ≡ []

below_both : (r : Register) (us vs : List Fields) → below_all register_cmp r (entries_of us) ≡ true
    → below_all register_cmp r (entries_of vs) ≡ true → below_all register_cmp r (entries_of (us ++ vs)) ≡ true
below_both r [] vs a b = b
below_both r (u ∷ us) vs a b =
    let parts = both (comes_after r u) (below_all register_cmp r (entries_of us)) a in
    rw parts.0 (below_both r us vs parts.1 b)

first_up_to : (r : Register) (u : Fields) (us : List Fields) → AreUpTo (Some r) (u ∷ us)
    → (is_le (register_cmp u.register r) ≡ true) × AreUpTo (Some r) us
first_up_to r u us a = rw (register_total.antisymm u.register r) (elim (register_cmp r u.register) as (λ o.
    cond (is_lt o) (u ∷ updates_after r us) (updates_after r us) ≡ []
    → (is_le (ordering_reverse o) ≡ true) × AreUpTo (Some r) us) [
      | Less ↦ λ h. cc
      | Equal ↦ λ h. (refl, h)
      | Greater ↦ λ h. (refl, h)
    ] a)

pub page_ordered : (r : Option Register) (us vs : List Fields) → IsOrdered us → AreUpTo r us → IsPage r vs
    → IsOrdered (us ++ vs)
page_ordered r [] vs s a p = p.ordered
page_ordered None (u ∷ us) vs s a p = cc
page_ordered (Some r) (u ∷ us) vs s a p =
    let parts = both _ _ s in
    let first = first_up_to r u us a in
    rw (below_both u.register us vs parts.0 (below_from u.register r (entries_of vs) first.0 p.behind))
    (page_ordered (Some r) us vs parts.1 first.1 p)

pub page_up_to : (r : Option Register) (us vs : List Fields) → AreUpTo r us → IsPage r vs
    → AreUpTo (last_from r vs) (us ++ vs)
page_up_to r us [] a p = rw (append-nil us) a
page_up_to r us (v ∷ vs) a p =
    let last = (last_of v vs).register in
    rw (
      last_some r v vs,
      filter-append (comes_after last) us (v ∷ vs),
      from_later r v vs [] us (rw (append-nil (v ∷ vs)) p.behind),
      a,
    )
    (rw (append-nil vs) at (after_last v vs [] (rw (append-nil vs) p.ordered)))

-- a full page has a last register
pub full_end : (r : Option Register) (us : List Fields) → is_last us ≡ false
    → (q : Register) × (last_from r us ≡ Some q)
full_end r [] h = cc
full_end r (u ∷ us) h = ((last_of u us).register, last_some r u us)
