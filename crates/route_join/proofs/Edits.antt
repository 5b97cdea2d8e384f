-- The effect of an edit of a table's updates on the table.
use Rattle.std.proofs.Common.{◌≡◌, Some, inl, inr, ℕ, zero, suc, Bool, true, false, cond, List, [], ◌∷◌, length, eqb}
use Rattle.std.proofs.Common.{◌↔◌, Result, Ok, Err, None, get_or, Contains, refl, sym, ap, subst, ◌∙◌, arith}
use Rattle.std.proofs.lemmas.Bool.{cases_Bool, and_parts as both}
use Rattle.std.proofs.lemmas.Option.{same_Some, none-some, slice_get-get_or}
use Rattle.std.specs.Ordering.{eq_by_cmp}
use Rattle.std.specs.List.{list_any, slice_get}
use Rattle.std.specs.FinMap as map
use Rattle.std.specs.FinMap.Entries.{put, find, is_sorted-put}
use Rattle.route_wire.specs.declared.update.Register.{Register}
use Rattle.route_wire.specs.declared.update.Value.{Value}
use Rattle.route_wire.specs.Fields.{Fields, IsUpdate}
use Rattle.route_wire.specs.Order.{register_cmp}
use Rattle.route_wire.specs.Inner.Totals.{register_total}
use Rattle.route_join.specs.Table.{Table, value_at, is_listed, IsListed, AreWellFormed, with_value, entries_of}
use Rattle.route_join.specs.Table.{IsOrdered, IsTableOf, table_from, AreOriginators, IsKept}
use Rattle.route_join.specs.declared.table.TakeError.{TakeError}
use Rattle.route_join.specs.declared.table.TakeError.TheVariants.{UnknownOriginator}
use Rattle.route_join.specs.Inner.Place.{place_of}
use Rattle.route_join.proofs.Orders.{to_T, from_T}
use Rattle.route_join.proofs.Tables.{same_or_other, at_same, at_other, same_register, itself_register, other_register}
use Rattle.route_join.proofs.Tables.{not_newer_itself}
use Rattle.route_join.proofs.Within.{below_at}
use Rattle.route_join.proofs.Owners.{not_less_itself}
use Rattle.route_join.proofs.Places.{IsPlace, IsGap, placed, gapped}

-- a look-up in the table is one among its updates
pub found : (os : List ℕ) (us : List Fields) (q : Register) → IsOrdered us
    → value_at (table_from os us) q ≡ find register_cmp q (entries_of us)
found os us q s = map.get-from_sorted register_cmp (entries_of us) q (to_T _ s)

-- the entries of a table are its updates
pub listed_as : (os : List ℕ) (us : List Fields) → IsOrdered us
    → map.entries (table_from os us).registers ≡ entries_of us
listed_as os us s = map.entries-from_sorted register_cmp (entries_of us) (to_T _ s)

-- an update in order is found by its register
pub find_at : (us : List Fields) (i : ℕ) (u : Fields) → IsOrdered us → slice_get us i ≡ Some u
    → find register_cmp u.register (entries_of us) ≡ Some u.value
find_at [] i u s h = cc
find_at (x ∷ us) zero u s h = let same : x ≡ u = cc in rw (same, itself_register u.register)
find_at (x ∷ us) (suc i) u s h =
    let parts = both _ _ s in
    rw (other_register u.register x.register (λ e. not_less_itself x.register u.register
    (below_at x.register us i u parts.0 h) (sym e))) (find_at us i u parts.1 h)

-- among updates in order, one is contained exactly where its register has its value
pub found_contains : (us : List Fields) (r : Register) (v : Value) → find register_cmp r (entries_of us) ≡ Some v
    → Contains us (record { register = r; value = v })
found_contains [] r v e = cc
found_contains (x ∷ us) r v e = elim (cases_Bool (eq_by_cmp register_cmp r x.register)) [
  | inl t ↦ rw (same_register r x.register t, ← same_Some x.value v (rw t at e)) (0, omega arith, refl)
  | inr t ↦ let h = found_contains us r v (rw t at e) in (suc h.0, omega (arith, h.1), h.2)
]

pub contains_found : (us : List Fields) (u : Fields) → IsOrdered us → Contains us u
    → find register_cmp u.register (entries_of us) ≡ Some u.value
contains_found us u s c = find_at us c.0 u s (slice_get-get_or us c.0 u c.1 ∙ ap Some c.2)

-- updates in order have a table
pub table_of : (os : List ℕ) (us : List Fields) → IsOrdered us → IsTableOf us (table_from os us)
table_of os us s = record {
  from = λ r v at. found_contains us r v (sym (found os us r s) ∙ at);
  newest = λ u c. (u.value, found os us u.register s ∙ contains_found us u s c, not_newer_itself u.value);
}

module _ (os : List ℕ) (us new : List Fields) (u : Fields) (s : IsOrdered us)
    (e : entries_of new ≡ put register_cmp u.register u.value (entries_of us)) where
  -- a put keeps the order
  pub ordered_put : IsOrdered new
  ordered_put = rw e (from_T _ (is_sorted-put register_cmp register_total u.register u.value (entries_of us)
      (to_T _ s)))

  -- and the table has the value
  pub table_put : table_from os new ≡ with_value (table_from os us) u.register u.value
  table_put = ap (λ m. record { originators = os; registers = m }) (map.same_entries_map _ _
      (listed_as os new ordered_put ∙ rw (e, map.entries-insert register_total, listed_as os us s)))

-- what each register and its value satisfy, and a new value at a register too, holds once that value is put
each_put : (P : Register → Value → Type 0) (t : Table) (u : Fields) → P u.register u.value
    → ((r : Register) (v : Value) → value_at t r ≡ Some v → P r v)
    → (r : Register) (v : Value) → value_at (with_value t u.register u.value) r ≡ Some v → P r v
each_put P t u h all r v at = elim (same_or_other r u.register) [
  | inl same ↦ rw (same, ← same_Some u.value v (sym (at_same t u.register u.value) ∙ rw same at at)) h
  | inr ne ↦ all r v (sym (at_other t u.register u.value r ne) ∙ at)
]

pub kept_put : (os : List ℕ) (us new : List Fields) (u : Fields) → IsUpdate u → IsKept os us
    → entries_of new ≡ put register_cmp u.register u.value (entries_of us)
    → is_listed (table_from os us) u.register.originator ≡ true → IsKept os new
kept_put os us new u f k e h = let t = table_from os us in record {
  listeners = k.listeners;
  ordered = ordered_put os us new u k.ordered e;
  listed = subst IsListed (sym (table_put os us new u k.ordered e))
      (each_put (λ r v. is_listed t r.originator ≡ true) t u h k.listed);
  formed = subst AreWellFormed (sym (table_put os us new u k.ordered e))
      (each_put (λ r v. IsUpdate (record { register = r; value = v })) t u f k.formed);
}

-- ---- the result of a call of `place`
pub found_at : {us ds : List Fields} {q r : Register} {at : ℕ} → ds ≡ us → r ≡ q → Ok at ≡ place_of ds r
    → IsPlace us q at
found_at {us} {ds} {q} {r} {at} d e h = placed us q at (rw (← d, ← e) (sym h))

pub gap_at : {us ds : List Fields} {q r : Register} {at : ℕ} → IsOrdered us → ds ≡ us → r ≡ q → Err at ≡ place_of ds r
    → IsGap us q at
gap_at {us} {ds} {q} {r} {at} s d e h = gapped us q at s (rw (← d, ← e) (sym h))

-- likewise for a group with the view `now`
module _ {us ds now : List Fields} (view : us ≡ now) {q r : Register} {at : ℕ} (d : ds ≡ us) (e : r ≡ q) where
  pub told_at : {v : Fields} → Ok at ≡ place_of ds r → v ≡ get_or us at v
      → find register_cmp q (entries_of now) ≡ Some v.value
  told_at {v} h is = rw (← view, is) ((found_at d e h).value v)

  pub new_at : IsOrdered us → Err at ≡ place_of ds r → find register_cmp q (entries_of now) ≡ None
  new_at s h = rw (← view) ((gap_at s d e h).value)

pub inserted : (new x y : List Fields) (b : Bool) → new ≡ cond b x y → b ≡ true → new ≡ x
inserted new x y b e t = cc

-- ---- an update of a listed originator
pub listed_by : {os ds : List ℕ} {q r : Register} → ds ≡ os → r ≡ q → true ≡ list_any (λ y. eqb y r.originator) ds
    → list_any (λ x. eqb x q.originator) os ≡ true
listed_by {os} {ds} {q} {r} d e h = rw (← d, ← e) (sym h)

pub not_unknown : {X : Type 0} (r : Result X TakeError) (b : Bool) → b ≡ true → (r ≡ Err UnknownOriginator → ⊥)
    → (r ≡ Err UnknownOriginator) ↔ (b ≡ false)
not_unknown r b t other = (λ h. absurd (other h), λ f. cc)

-- ---- a table that has taken nothing
pub new_table : (os : List ℕ) → table_from os [] ≡ record { originators = os; registers = map.empty }
new_table os = ap (λ m. record { originators = os; registers = m })
    (map.empty_of_len _ (map.len-entries _ ∙ ap length (listed_as os [] refl)))

pub kept_none : (os : List ℕ) → AreOriginators os → IsKept os []
kept_none os h = record {
  listeners = h;
  ordered = refl;
  listed = λ r v at. cc (found os [] r refl);
  formed = λ r v at. absurd (none-some v (sym (found os [] r refl) ∙ at));
}
