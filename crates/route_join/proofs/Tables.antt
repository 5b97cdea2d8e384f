-- One register of a table, and the one table of a set.
use Rattle.std.proofs.Common.{◌≡◌, ◌≢◌, ◌⊎◌, inl, inr, true, false, Option, Some, None, List, [], ◌∷◌, refl}
use Rattle.std.proofs.Common.{sym, ap, ◌∙◌, arith}
use Rattle.std.specs.Cmp.{tied_itself}
use Rattle.std.specs.Ordering.{is_lt, is_eq, eq_by_cmp}
use Rattle.std.specs.FinMap.{get-insert, same_map}
use Rattle.route_wire.specs.declared.update.Register.{Register}
use Rattle.route_wire.specs.declared.update.Value.{Value}
use Rattle.route_wire.specs.Fields.{Fields}
use Rattle.route_wire.specs.Inner.Ties.{equal_from}
use Rattle.route_wire.specs.Order.{register_cmp, is_newer}
use Rattle.route_wire.specs.Inner.Totals.{register_total, register_exact, value_total, neither_newer}
use Rattle.route_join.specs.Table.{Table, value_at, update_at, with_value}
use Rattle.std.specs.FinMap.Entries.{find, below_all}
use Rattle.route_join.proofs.Orders.{less}
use Rattle.route_join.specs.Laws.{OneTable}
use Rattle.std.proofs.lemmas.Bool.{and_parts as both, cases_Bool, false_from_ne_true}
use Rattle.std.proofs.lemmas.Option.{same_Some}

-- ---- registers
pub same_register : (a b : Register) → eq_by_cmp register_cmp a b ≡ true → a ≡ b
same_register a b h = register_exact a b (equal_from (register_cmp a b) h)

pub itself_register : (a : Register) → eq_by_cmp register_cmp a a ≡ true
itself_register a = ap is_eq (tied_itself register_total a)

-- a register is the one or another
pub same_or_other : (q r : Register) → (q ≡ r) ⊎ (q ≢ r)
same_or_other q r = elim (cases_Bool (eq_by_cmp register_cmp q r)) [
  | inl e ↦ inl (same_register q r e)
  | inr e ↦ inr (λ h. let t : eq_by_cmp register_cmp q r ≡ true = rw h (itself_register r) in cc)
]

pub other_register : (q r : Register) → q ≢ r → eq_by_cmp register_cmp q r ≡ false
other_register q r ne = false_from_ne_true _ (λ e. ne (same_register q r e))

pub at_same : (t : Table) (r : Register) (v : Value) → value_at (with_value t r v) r ≡ Some v
at_same t r v = rw (get-insert register_total t.registers r v r, itself_register r)

pub at_other : (t : Table) (r : Register) (v : Value) (q : Register) → q ≢ r
    → value_at (with_value t r v) q ≡ value_at t q
at_other t r v q ne = rw (get-insert register_total t.registers r v q, other_register q r ne)

-- the result of a look-up of a register
pub update_told : (t : Table) (r : Register) (u : Fields) → update_at t r ≡ Some u
    → (u.register ≡ r) × (value_at t r ≡ Some u.value)
update_told t r u e = grind arith

-- a register below all others is not among them
pub below_none : (q : Register) (es : List (Register × Value)) → below_all register_cmp q es ≡ true
    → find register_cmp q es ≡ None
below_none q [] h = refl
below_none q (e ∷ es) h = let parts = both _ _ h in
    rw (less (register_cmp q e.0) parts.0) (below_none q es parts.1)

pub not_newer_itself : (v : Value) → is_newer v v ≡ false
not_newer_itself v = ap is_lt (tied_itself value_total v)

-- ---- a set has one table
agree : (x y : Option Value) → ((v : Value) → x ≡ Some v → (w : Value) × (y ≡ Some w) × (is_newer v w ≡ false))
    → ((w : Value) → y ≡ Some w → (v : Value) × (x ≡ Some v) × (is_newer w v ≡ false)) → x ≡ y
agree None None f g = refl
agree None (Some w) f g = let n = (g w refl).1 in cc
agree (Some v) y f g =
    let n = f v refl in
    let m = g n.0 n.1 in
    ap Some (neither_newer v n.0 n.2 (rw (same_Some m.0 v (sym m.1)) at m.2)) ∙ sym n.1

pub one_table : OneTable
one_table us vs t u h a b = same_map register_total register_exact t.registers u.registers (λ r. agree _ _
    (λ v p. b.newest (record { register = r; value = v }) (h.there _ (a.from r v p)))
    (λ w p. a.newest (record { register = r; value = w }) (h.back _ (b.from r w p))))
