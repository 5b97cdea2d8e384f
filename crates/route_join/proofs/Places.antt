-- Updates in the order of their registers: the meaning of a register's place, and the effect of an edit there.
use Rattle.std.proofs.Common.{◌≡◌, ℕ, zero, suc, ◌+◌, ◌<◌, ◌≤◌, true, false, List, [], ◌∷◌, ◌++◌, length, get_or, set}
use Rattle.std.proofs.Common.{Some, None, Result, Ok, Err, refl, sym, arith}
use Rattle.std.specs.List.{insert}
use Rattle.std.specs.Result.{is_err}
use Rattle.std.proofs.lemmas.List.Edits.{insert_end}
use Rattle.std.specs.declared.cmp.Ordering.TheVariants.{Less, Equal, Greater}
use Rattle.std.specs.FinMap.Entries.{by_order, put, find, is_sorted, below_all}
use Rattle.route_wire.specs.declared.update.Register.{Register}
use Rattle.route_wire.specs.declared.update.Value.{Value}
use Rattle.route_wire.specs.Fields.{Fields}
use Rattle.route_wire.specs.Order.{register_cmp}
use Rattle.route_wire.specs.Inner.Totals.{register_total, register_exact}
use Rattle.route_join.specs.Table.{entries_of, IsOrdered}
use Rattle.route_join.specs.Subject.{Subject, subject_of}
use Rattle.route_join.specs.Group.{AreAbout}
use Rattle.route_join.specs.Inner.Place.{place_of, later_by}
use Rattle.route_join.proofs.Orders.{less}
use Rattle.std.proofs.lemmas.Bool.{and_parts as both}

-- ---- a register with an update at a place

-- the result that `later_by 1` was applied to
pub came_ok : (r : Result ℕ ℕ) (at : ℕ) → later_by 1 r ≡ Ok at → (n : ℕ) × (r ≡ Ok n) × (at ≡ 1 + n)
came_ok r at h = grind arith

pub came_err : (r : Result ℕ ℕ) (at : ℕ) → later_by 1 r ≡ Err at → (n : ℕ) × (r ≡ Err n) × (at ≡ 1 + n)
came_err r at h = grind arith

-- the place is in the list, the register's update is there, and a write there is a put
pub record IsPlace (us : List Fields) (q : Register) (at : ℕ) : Type 0 where
  pub within : at < length us
  pub register : (d : Fields) → (get_or us at d).register ≡ q
  pub value : (d : Fields) → find register_cmp q (entries_of us) ≡ Some (get_or us at d).value
  pub write : (u : Fields) → u.register ≡ q → entries_of (set us at u) ≡ put register_cmp q u.value (entries_of us)

pub placed : (us : List Fields) (q : Register) (at : ℕ) → place_of us q ≡ Ok at → IsPlace us q at
placed [] q at h = cc
placed (v ∷ us) q at h =
    elim (register_cmp q v.register) as (λ o. register_cmp q v.register ≡ o
    → by_order o (Err 0) (Ok 0) (later_by 1 (place_of us q)) ≡ Ok at → IsPlace (v ∷ us) q at) [
      | Less ↦ λ e p. cc
      | Equal ↦ λ e p. let first : 0 ≡ at = cc in rw (← first) record {
        within = omega arith;
        register = λ d. sym (register_exact q v.register e);
        value = λ d. rw e;
        write = λ u r. rw (e, r, register_exact q v.register e);
      }
      | Greater ↦ λ e p.
          let m = came_ok (place_of us q) at p in
          let later = placed us q m.0 m.1 in
          let next : suc m.0 ≡ at = omega arith in rw (← next) record {
            within = omega arith;
            register = later.register;
            value = λ d. rw e (later.value d);
            write = λ u r. rw (e, later.write u r);
          }
    ] refl h

-- a place in a list of one update is the first
pub at_only : (v : Fields) (q : Register) (r : Result ℕ ℕ) → r ≡ place_of (v ∷ []) q → is_err r ≡ false
    → IsPlace (v ∷ []) q 0
at_only v q (Ok zero) e h = placed (v ∷ []) q 0 (sym e)
at_only v q (Ok (suc n)) e h = absurd (omega (arith, (placed (v ∷ []) q (suc n) (sym e)).within))
at_only v q (Err n) e h = cc

-- ---- a register without an update

-- the place is a gap, the register has no update, and an insertion there is a put
pub record IsGap (us : List Fields) (q : Register) (at : ℕ) : Type 0 where
  pub within : at ≤ length us
  pub value : find register_cmp q (entries_of us) ≡ None
  pub write : (u : Fields) → u.register ≡ q → entries_of (insert us at u) ≡ put register_cmp q u.value (entries_of us)

-- a register below the first of a list in order is not found in it
not_found : (q k : Register) (es : List (Register × Value)) → register_cmp q k ≡ Less
    → below_all register_cmp k es ≡ true → find register_cmp q es ≡ None
not_found q k [] h b = refl
not_found q k (e ∷ es) h b =
    rw (register_total.trans q k e.0 h (less _ (both _ _ b).0)) (not_found q k es h (both _ _ b).1)

pub gapped : (us : List Fields) (q : Register) (at : ℕ) → IsOrdered us → place_of us q ≡ Err at → IsGap us q at
gapped [] q at s h = let first : 0 ≡ at = cc in rw (← first) record {
  within = omega arith;
  value = refl;
  write = λ u r. rw r;
}
gapped (v ∷ us) q at s h =
    elim (register_cmp q v.register) as (λ o. register_cmp q v.register ≡ o
    → by_order o (Err 0) (Ok 0) (later_by 1 (place_of us q)) ≡ Err at → IsGap (v ∷ us) q at) [
      | Less ↦ λ e p. let first : 0 ≡ at = cc in rw (← first) record {
        within = omega arith;
        value = rw e (not_found q v.register (entries_of us) e (both _ _ s).0);
        write = λ u r. rw (e, r);
      }
      | Equal ↦ λ e p. cc
      | Greater ↦ λ e p.
          let m = came_err (place_of us q) at p in
          let later = gapped us q m.0
          (both (below_all register_cmp v.register (entries_of us)) (is_sorted register_cmp (entries_of us)) s).1 m.1 in
          let next : suc m.0 ≡ at = omega arith in rw (← next) record {
            within = omega arith;
            value = rw e later.value;
            write = λ u r. rw (e, later.write u r);
          }
    ] refl h

-- ---- updates about one subject
pub about_at : (s : Subject) (us : List Fields) (i : ℕ) (d : Fields) → AreAbout s (entries_of us) → i < length us
    → subject_of (get_or us i d).register.key ≡ s
about_at s [] i d k l = absurd (omega arith)
about_at s (u ∷ us) zero d k l = k.0
about_at s (u ∷ us) (suc i) d k l = about_at s us i d k.1 (omega arith)

-- an insertion at the end
pub at_end : (us : List Fields) (u : Fields) (n : ℕ) → n ≡ length us → us ++ u ∷ [] ≡ insert us n u
at_end us u n e = rw (e, insert_end)
