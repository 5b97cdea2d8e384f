-- The updates of a table and those of an address: their registers and values, and the groups that hold them.
use Rattle.std.proofs.Common.{◌≡◌, ℕ, Bool, true, false, cond, Option, Some, None, inl, inr, List, [], ◌∷◌}
use Rattle.std.proofs.Common.{Contains, refl, sym, ◌∙◌, arith}
use Rattle.std.proofs.lemmas.Bool.{cases_Bool}
use Rattle.std.specs.Ordering.{is_eq}
use Rattle.std.proofs.lemmas.List.Elements.{filter-append}
use Rattle.std.specs.FinMap.{entries, entries_sorted, get-entries}
use Rattle.std.specs.FinMap.Entries.{find, is_sorted-where_key, find-where_key}
use Rattle.route_wire.specs.declared.update.Register.{Register}
use Rattle.route_wire.specs.declared.update.Value.{Value}
use Rattle.route_wire.specs.Fields.{Fields}
use Rattle.route_wire.specs.Order.{register_cmp}
use Rattle.route_wire.specs.Inner.Totals.{register_exact}
use Rattle.route_join.specs.Subject.{Subject, subject_of}
use Rattle.route_join.specs.Table.{Table, value_at, table_from, entries_of, IsOrdered}
use Rattle.route_join.specs.Owner.{is_about}
use Rattle.route_join.specs.Group.{AreAbout, AreGroups, IsGrouped, updates_in}
use Rattle.route_join.specs.Updates.{about, all_updates, updates_of, AreAllUpdates, AreUpdatesOf}
use Rattle.route_join.proofs.Orders.{from_T}
use Rattle.route_join.proofs.Edits.{listed_as}
pub use Rattle.route_join.proofs.Edits.{found_contains, contains_found}
use Rattle.route_join.proofs.Merging.{updates_back, entries_back}
use Rattle.route_join.proofs.Groupings.{Groups, Entries, entries_in, entries_in_all, about_there as group_about}
use Rattle.route_join.proofs.Groupings.{AllAre, entries_if, made_there}
use Rattle.std.specs.declared.cmp.Ordering.{Ordering}
use Rattle.route_join.specs.Inner.Groups.{group_at}
use Rattle.route_join.proofs.Holding.{differs}
use Rattle.route_join.proofs.Subjects.{address, about_address, about_itself}

-- ---- the updates of a table
pub all_updates_are : (t : Table) → AreAllUpdates t (all_updates t)
all_updates_are t = record {
  own = λ u c. rw (get-entries t.registers, ← entries_back (entries t.registers))
      (contains_found (all_updates t) u in_order c);
  all = λ r v at. found_contains (all_updates t) r v (rw (entries_back, ← get-entries t.registers r) at);
  ordered = in_order;
}
  where
    in_order : IsOrdered (all_updates t)
    in_order = rw entries_back (from_T _ (entries_sorted t.registers))

module _ (t : Table) (vni mac : ℕ) where
  abbrev own_entries : Entries
  own_entries = about vni mac (entries t.registers)

  -- a look-up among them is one in the table, of a register of the address
  found_about : (r : Register) → find register_cmp r (entries_of (updates_of t vni mac))
      ≡ cond (is_about vni mac r.key) (value_at t r) None
  found_about r = rw (entries_back own_entries, get-entries t.registers r)
      (find-where_key register_cmp (λ (q : Register). is_about vni mac q.key) r (λ q e. rw (register_exact r q e))
      (entries t.registers))

  ordered_about : IsOrdered (updates_of t vni mac)
  ordered_about = rw (entries_back own_entries) (from_T _ (is_sorted-where_key register_cmp
      (λ (q : Register). is_about vni mac q.key) (entries t.registers) (entries_sorted t.registers)))

  both_told : (b : Bool) (o : Option Value) (v : Value) → cond b o None ≡ Some v → (b ≡ true) × (o ≡ Some v)
  both_told b o v h = grind arith

  told_of : (u : Fields) → Contains (updates_of t vni mac) u
      → (is_about vni mac u.register.key ≡ true) × (value_at t u.register ≡ Some u.value)
  told_of u c = both_told _ _ _ (sym (found_about u.register)
      ∙ contains_found (updates_of t vni mac) u ordered_about c)

  pub updates_of_are : AreUpdatesOf t vni mac (updates_of t vni mac)
  updates_of_are = record {
    about = λ u c. (told_of u c).0;
    own = λ u c. (told_of u c).1;
    all = λ r v is at. found_contains (updates_of t vni mac) r v (rw (found_about r, is) at);
    ordered = ordered_about;
  }

-- ---- the groups that hold them
module _ (vni mac : ℕ) where
  all_about : (es : Entries) → AreAbout (address vni mac) es → about vni mac es ≡ es
  all_about [] k = refl
  all_about (e ∷ es) k = rw (about_itself vni mac e.0.key k.0, all_about es k.1)

  none_about : (o : Ordering) (es : Entries) → is_eq o ≡ false → AllAre (address vni mac) o es → about vni mac es ≡ []
  none_about o [] n k = refl
  none_about o (e ∷ es) n k = elim (cases_Bool (is_about vni mac e.0.key)) [
    | inl t ↦ absurd (differs _ (subject_of e.0.key) o k.0 n (about_address vni mac e.0.key t))
    | inr t ↦ rw t (none_about o es n k.1)
  ]

  about_there : (gs : Groups) (o : Option (List Fields)) → AreGroups gs → group_at (address vni mac) gs ≡ o
      → about vni mac (entries_in gs) ≡ about vni mac (entries_if o)
  about_there = made_there (about vni mac) (filter-append (λ (e : Register × Value). is_about vni mac e.0.key))
      (address vni mac) none_about

  module _ {os : List ℕ} {gs : Groups} {t : Table} (k : IsGrouped os gs) (view : table_from os (updates_in gs) ≡ t)
      {s : Subject} (named : s ≡ address vni mac) where
    pub updates_there : {us : List Fields} → Some us ≡ group_at s gs → us ≡ updates_of t vni mac
    updates_there {us} h = rw (
      ← view,
      listed_as os (updates_in gs) k.kept.ordered,
      entries_in_all gs,
      about_there gs (Some us) k.groups (sym (rw named at h)),
      all_about (entries_of us) (group_about gs k.groups named h),
    ) (sym (updates_back us))

    pub updates_nowhere : None ≡ group_at s gs → [] ≡ updates_of t vni mac
    updates_nowhere h = rw (
      ← view,
      listed_as os (updates_in gs) k.kept.ordered,
      entries_in_all gs,
      about_there gs None k.groups (sym (rw named at h)),
    )
