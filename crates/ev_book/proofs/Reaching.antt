-- Marks, and values that aren't older than theirs.
use Rattle.std.proofs.Common.{◌≡◌, Bool, true, false, not, ◌||◌, Option, Some, None, List, ◌++◌, Contains, refl, ap}
use Rattle.std.proofs.lemmas.Bool.{false≢true, and_parts as both}
use Rattle.std.proofs.lemmas.List.Elements.{Contains-append_left}
use Rattle.std.specs.Ordering.{eq_by_cmp}
use Rattle.route_wire.specs.Fields.{Fields}
use Rattle.route_wire.specs.Order.{register_cmp, is_newer}
use Rattle.route_wire.specs.Inner.Totals.{neither_newer}
use Rattle.route_join.specs.Table.{Table, value_at, IsTableOf}
use Rattle.route_join.proofs.Joins.{not_newer_trans}
use Rattle.route_join.proofs.Tables.{not_newer_itself, same_register}
use Rattle.ev_book.specs.declared.mark.Mark.{Mark}
use Rattle.ev_book.specs.Mark.{Holds, HoldsAt, is_same, same_mark, mark_of}

-- a table of more updates has the values of a table of some of them
pub still_holds : (us more : List Fields) (s t : Table) → IsTableOf us s → IsTableOf (us ++ more) t → (m : Mark)
    → Holds s m → Holds t m
still_holds us more s t a b m h =
    let u : Fields = record { register = m.register; value = h.value } in
    let n = b.newest u (Contains-append_left us more u (a.from m.register h.value h.there)) in
    record { value = n.0; there = n.1; no_older = not_newer_trans n.0 h.value m.value n.2 h.no_older }

pub still_holds_at : (us more : List Fields) (s t : Table) → IsTableOf us s → IsTableOf (us ++ more) t
    → (m : Option Mark) → HoldsAt s m → HoldsAt t m
still_holds_at us more s t a b None h = h
still_holds_at us more s t a b (Some m) h = still_holds us more s t a b m h

-- it has each of these updates
pub holds_update : (us : List Fields) (t : Table) (u : Fields) → IsTableOf us t → Contains us u → Holds t (mark_of u)
holds_update us t u h c =
    let n = h.newest u c in
    record { value = n.0; there = n.1; no_older = n.2 }

-- it has its own values
pub holds_there : (t : Table) (u : Fields) → value_at t u.register ≡ Some u.value → Holds t (mark_of u)
holds_there t u at = record { value = u.value; there = at; no_older = not_newer_itself u.value }

-- marks that are the same
neither : (x y : Bool) → not (x || y) ≡ true → (x ≡ false) × (y ≡ false)
neither true y h = absurd (false≢true h)
neither false true h = absurd (false≢true h)
neither false false h = (refl, refl)

pub same_marks : (a b : Mark) → is_same a b ≡ true → a ≡ b
same_marks a b h =
    let parts = both (eq_by_cmp register_cmp a.register b.register)
    (not (is_newer a.value b.value || is_newer b.value a.value)) h in
    let none = neither (is_newer a.value b.value) (is_newer b.value a.value) parts.1 in
    let r = same_register a.register b.register parts.0 in
    let v = neither_newer a.value b.value none.0 none.1 in
    (λ k. record { register = r k; value = v k })

pub same_options : (a b : Option Mark) → same_mark a b ≡ true → a ≡ b
same_options None None h = refl
same_options None (Some b) h = absurd (false≢true h)
same_options (Some a) None h = absurd (false≢true h)
same_options (Some a) (Some b) h = ap Some (same_marks a b h)
