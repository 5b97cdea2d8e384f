-- The updates of a table: no more than those whose table it is, each of them among these, and no fewer for more
-- updates.
use Rattle.std.proofs.Common.{◌≡◌, ℕ, zero, suc, ◌<◌, ◌≤◌, true, ◌||◌, Option, Some, None, is_some, List}
use Rattle.std.proofs.Common.{[], ◌∷◌, ◌++◌, length, map, get_or, Contains, refl, ap, ◌∙◌, arith}
use Rattle.std.specs.List.{AllByRecursion, list_any}
use Rattle.std.specs.List.Sorted.{IsStrictlySortedBy}
use Rattle.std.specs.Set.{is_member}
use Rattle.std.specs.declared.cmp.Ordering.TheVariants.{Less}
use Rattle.std.specs.Ordering.{eq_by_cmp, is_lt}
use Rattle.std.specs.FinMap.{entries, entries_sorted, get-entries}
use Rattle.std.specs.FinMap.Entries.{find, below_all, is_sorted, is_some-find}
use Rattle.std.proofs.lemmas.Bool.{false≢true, or_right, and_parts as both}
use Rattle.std.proofs.lemmas.Cmp.{eq_by_cmp_equiv}
use Rattle.std.proofs.lemmas.List.{length-map}
use Rattle.std.proofs.lemmas.List.Elements.{Contains-append_left}
use Rattle.std.proofs.lemmas.Map.Keys.{IsDistinct-from_sorted}
use Rattle.std.proofs.lemmas.Map.Made.{length-le_from_is_member}
use Rattle.route_wire.specs.declared.update.Register.{Register}
use Rattle.route_wire.specs.declared.update.Value.{Value}
use Rattle.route_wire.specs.Fields.{Fields}
use Rattle.route_wire.specs.Order.{register_cmp}
use Rattle.route_wire.specs.Inner.Totals.{register_total}
use Rattle.route_join.specs.Table.{Table, value_at, IsTableOf}
use Rattle.route_join.specs.Updates.{all_updates, update_from}
use Rattle.route_join.proofs.Orders.{less, from_T}
use Rattle.route_join.proofs.Tables.{itself_register, not_newer_itself}
use Rattle.route_join.proofs.Abouts.{all_updates_are}
use Rattle.ev_book.specs.Journal.{Compacts, register_count}

abbrev keys : List (Register × Value) → List Register
keys es = map (λ (e : Register × Value). e.0) es

abbrev registers_in : List Fields → List Register
registers_in us = map (λ (u : Fields). u.register) us

below_keys : (r : Register) (es : List (Register × Value)) → below_all register_cmp r es ≡ true
    → AllByRecursion (λ q. register_cmp r q ≡ Less) (keys es)
below_keys r [] h = tt
below_keys r (e ∷ es) h =
    let parts = both (is_lt (register_cmp r e.0)) (below_all register_cmp r es) h in
    (less (register_cmp r e.0) parts.0, below_keys r es parts.1)

sorted_keys : (es : List (Register × Value)) → is_sorted register_cmp es ≡ true
    → IsStrictlySortedBy register_cmp (keys es)
unfolding IsStrictlySortedBy
sorted_keys [] h = tt
sorted_keys (e ∷ es) h =
    let parts = both (below_all register_cmp e.0 es) (is_sorted register_cmp es) h in
    (below_keys e.0 es parts.0, sorted_keys es parts.1)

member_at : (us : List Fields) (u : Fields) (k : ℕ) → k < length us → get_or us k u ≡ u
    → is_member (eq_by_cmp register_cmp) (registers_in us) u.register ≡ true
member_at [] u k l e = absurd (omega (arith, l))
member_at (x ∷ us) u zero l e =
    ap (λ (y : Fields). eq_by_cmp register_cmp u.register y.register || list_any (eq_by_cmp register_cmp u.register)
    (registers_in us)) e
    ∙ ap (λ b. b || list_any (eq_by_cmp register_cmp u.register) (registers_in us)) (itself_register u.register)
member_at (x ∷ us) u (suc k) l e = or_right (eq_by_cmp register_cmp u.register x.register) _
    (member_at us u k (omega (arith, l)) e)

-- a table has no more registers than there are updates, if each of its registers has one
few : (us : List Fields) (t : Table) → ((q : Register) (v : Value) → value_at t q ≡ Some v
    → (w : Value) × Contains us (record { register = q; value = w })) → register_count t ≤ length us
few us t h =
    let es = entries t.registers in
    let sorted : is_sorted register_cmp es ≡ true = from_T _ (entries_sorted t.registers) in
    let few : length (keys es) ≤ length (registers_in us) =
    length-le_from_is_member (eq_by_cmp_equiv register_total) (keys es) (registers_in us)
    (IsDistinct-from_sorted register_cmp (keys es) (sorted_keys es sorted))
    (λ q m. there q (is_some-find register_cmp q es ∙ m)) in
    let all = length-map es update_from in
    let some = length-map es (λ (e : Register × Value). e.0) in
    let their = length-map us (λ (u : Fields). u.register) in
    omega (arith, few, all, some, their)
  where
    at : (q : Register) (o : Option Value) → value_at t q ≡ o → is_some o ≡ true
        → is_member (eq_by_cmp register_cmp) (registers_in us) q ≡ true
    at q None e s = absurd (false≢true s)
    at q (Some v) e s = (let c = h q v e in member_at us (record { register = q; value = c.0 }) c.1.0 c.1.1 c.1.2)

    there : (q : Register) → is_some (find register_cmp q (entries t.registers)) ≡ true
        → is_member (eq_by_cmp register_cmp) (registers_in us) q ≡ true
    there q s = at q (find register_cmp q (entries t.registers)) (get-entries t.registers q) s

-- the table of updates has no more registers than there are
pub no_more : (us : List Fields) (t : Table) → IsTableOf us t → register_count t ≤ length us
no_more us t h = few us t (λ q v e. (v, h.from q v e))

-- and that of more updates has no fewer
pub no_fewer : (us more : List Fields) (s t : Table) → IsTableOf us s → IsTableOf (us ++ more) t
    → register_count s ≤ register_count t
no_fewer us more s t a b =
    few (all_updates t) s (λ q v e.
    let n = b.newest (record { register = q; value = v }) (Contains-append_left us more _ (a.from q v e)) in
    (n.0, (all_updates_are t).all q n.0 n.1))

pub compacted : (us : List Fields) (t : Table) → IsTableOf us t → Compacts us (all_updates t)
compacted us t h =
    let are = all_updates_are t in
    record {
      ordered = are.ordered;
      from = λ u c. h.from u.register u.value (are.own u c);
      newest = λ u c. (let n = h.newest u c in (
        record { register = u.register; value = n.0 },
        are.all u.register n.0 n.1,
        refl,
        n.2,
      ));
    }

-- it is the table of its updates
pub table_again : (us : List Fields) (t : Table) → IsTableOf (all_updates t) t
table_again us t =
    let are = all_updates_are t in
    record {
      from = are.all;
      newest = λ u c. (u.value, are.own u c, not_newer_itself u.value);
    }
