-- The walk over a table's registers finds a network's flood list, and it has at most as many members as there are
-- originators.
use Rattle.std.proofs.Common.{◌≡◌, ◌≢◌, inl, inr, ℕ, ◌≤◌, true, false, cond, is_some, length, eqb, Some}
use Rattle.std.proofs.Common.{None, List, [], ◌∷◌, refl, sym, ap, ◌∙◌, arith}
use Rattle.std.specs.declared.cmp.Ordering.{Ordering}
use Rattle.std.specs.declared.cmp.Ordering.TheVariants.{Less, Equal, Greater}
use Rattle.std.specs.Ordering.{nat_cmp, ordering_then}
use Rattle.std.specs.List.{AllByRecursion, list_any}
use Rattle.std.specs.List.Sorted.{IsStrictlySortedBy, IsStrictlyIncreasing}
use Rattle.std.specs.Cmp.{tied_itself, nat_cmp_total}
use Rattle.std.specs.Set.{is_member}
use Rattle.std.proofs.lemmas.List.Kept.{AllPairs-from_increasing}
use Rattle.std.proofs.lemmas.Map.Keys.{IsStrictlyIncreasing-from_sorted}
use Rattle.std.proofs.lemmas.Map.Made.{length-le_from_is_member, is_member-Decides, IsDistinct-from_AllPairs}
use Rattle.std.proofs.lemmas.Bool.{cond_both, eq-eqb, ne_eqb, and_parts as both}
use Rattle.std.proofs.lemmas.Bool.Decides.{Decides-eqb, nat_tests}
use Rattle.std.specs.FinMap.{entries, entries_sorted, get-entries}
use Rattle.std.specs.FinMap.Entries.{find, is_sorted, below_all}
use Rattle.ether_wire.proofs.DistinctNumbers.{eqb_equiv}
use Rattle.route_wire.specs.declared.update.Key.{Key}
use Rattle.route_wire.specs.declared.update.Key.TheVariants.{Flood, Mac}
use Rattle.route_wire.specs.declared.update.Register.{Register}
use Rattle.route_wire.specs.declared.update.Value.{Value}
use Rattle.route_wire.specs.Order.{register_cmp}
use Rattle.route_join.specs.Table.{Table, register_of, value_at, IsListed, AreOriginators}
use Rattle.route_join.specs.Owner.{advert_in, advert_of, advert_at}
use Rattle.route_join.specs.Flood.{IsFloodList, is_flood, floods, flooding, flood_of}
use Rattle.route_join.proofs.Orders.{less, from_T}
use Rattle.route_join.proofs.Tables.{same_or_other, itself_register, other_register, below_none}

then_equal : (o : Ordering) → ordering_then o Equal ≡ o
then_equal Less = refl
then_equal Equal = refl
then_equal Greater = refl

module _ (vni : ℕ) where
  -- the register of an originator in the network's flood list
  abbrev member_at : ℕ → Register
  member_at o = register_of o (Flood vni)

  -- two of them are in the order of their originators
  between : (o p : ℕ) → register_cmp (member_at o) (member_at p) ≡ nat_cmp o p
  between o p = rw (tied_itself nat_cmp_total vni) (then_equal (nat_cmp o p))

  flood_key : (k : Key) → is_flood vni k ≡ true → k ≡ Flood vni
  flood_key (Flood v) h = let same : v ≡ vni = grind (arith, nat_tests) in ap Flood same
  flood_key (Mac v m ip) h = cc

  -- a register that floods is one of them
  floods_is : (e : Register × Value) → floods vni e.0 e.1 ≡ true → e.0 ≡ member_at e.0.originator
  floods_is e h = ap (register_of e.0.originator)
      (flood_key e.0.key (both _ _ h).0)

  above : (o : ℕ) (es : List (Register × Value)) → below_all register_cmp (member_at o) es ≡ true
      → AllByRecursion (λ p. nat_cmp o p ≡ Less) (flooding vni es)
  above o [] b = tt
  above o (e ∷ es) b =
      let parts = both _ _ b in
      cond_both (floods vni e.0 e.1) (e.0.originator ∷ flooding vni es) (flooding vni es)
      (AllByRecursion (λ p. nat_cmp o p ≡ Less)) (λ t. (
        sym (between o e.0.originator) ∙ ap (register_cmp (member_at o)) (sym (floods_is e t)) ∙ less _ parts.0,
        above o es parts.1,
      )) (λ t. above o es parts.1)

  sorted : (es : List (Register × Value)) → is_sorted register_cmp es ≡ true
      → IsStrictlySortedBy nat_cmp (flooding vni es)
  unfolding IsStrictlySortedBy
  sorted [] s = tt
  sorted (e ∷ es) s =
      let parts = both _ _ s in
      cond_both (floods vni e.0 e.1) (e.0.originator ∷ flooding vni es) (flooding vni es)
      (IsStrictlySortedBy nat_cmp) (λ t. (
        above e.0.originator es (rw (← floods_is e t) parts.0),
        sorted es parts.1,
      )) (λ t. sorted es parts.1)

  -- ---- the walk has each originator that advertises the flood list, and no other
  module _ (o : ℕ) where
    passed : (e : Register × Value) (os : List ℕ) → member_at o ≢ e.0
        → is_member eqb (cond (floods vni e.0 e.1) (e.0.originator ∷ os) os) o ≡ is_member eqb os o
    passed e os ne = cond_both (floods vni e.0 e.1) (e.0.originator ∷ os) os
        (λ xs. is_member eqb xs o ≡ is_member eqb os o)
        (λ t. rw (ne_eqb o e.0.originator (λ same. ne (ap member_at same ∙ sym (floods_is e t))))) (λ t. refl)

    met : (v : Value) (os : List ℕ) → is_member eqb os o ≡ false
        → is_member eqb (cond (floods vni (member_at o) v) (o ∷ os) os) o ≡ is_some (advert_in v.content)
    met v os none = rw (eq-eqb vni vni refl) (elim (is_some (advert_in v.content)) as (λ b.
        is_member eqb (cond b (o ∷ os) os) o ≡ b) [ true ↦ rw (eq-eqb o o refl) | false ↦ none ])

    member : (es : List (Register × Value)) → is_sorted register_cmp es ≡ true
        → is_member eqb (flooding vni es) o ≡ is_some (advert_of (find register_cmp (member_at o) es))
    member [] s = refl
    member (e ∷ es) s =
        let parts = both _ _ s in
        elim (same_or_other (member_at o) e.0) as (λ _. is_member eqb (flooding vni (e ∷ es)) o
        ≡ is_some (advert_of (find register_cmp (member_at o) (e ∷ es)))) [
          | inl same ↦ rw (← same, itself_register (member_at o)) (met e.1 (flooding vni es)
              (rw (below_none (member_at o) es (rw same parts.0)) at (member es parts.1)))
          | inr ne ↦ rw (other_register (member_at o) e.0 ne) (passed e (flooding vni es) ne ∙ member es parts.1)
        ]

-- ---- at most one a listed originator
module _ (t : Table) (vni : ℕ) where
  in_order : is_sorted register_cmp (entries t.registers) ≡ true
  in_order = from_T _ (entries_sorted t.registers)

  ascends : IsStrictlyIncreasing (flood_of t vni)
  ascends = IsStrictlyIncreasing-from_sorted _ (sorted vni (entries t.registers) in_order)

  -- an originator on the list advertises it
  member_of : (o : ℕ) → is_member eqb (flood_of t vni) o ≡ is_some (advert_at t o (Flood vni))
  member_of o = rw (get-entries t.registers (member_at vni o)) (member vni o (entries t.registers) in_order)

  listed_member : IsListed t → (o : ℕ) → is_member eqb (flood_of t vni) o ≡ true → is_member eqb t.originators o ≡ true
  listed_member h o m = elim (value_at t (member_at vni o)) as (λ v. value_at t (member_at vni o) ≡ v
      → is_some (advert_of v) ≡ true → is_member eqb t.originators o ≡ true) [
        | None ↦ λ e n. cc
        | Some v ↦ λ e n. ap (λ p. list_any p t.originators) (λ i x. eqb_equiv.symm o x i) ∙ h (member_at vni o) v e
      ] refl (sym (member_of o) ∙ m)

  -- the list is no longer than that of the originators
  pub flood_fits : AreOriginators t.originators → IsListed t → length (flood_of t vni) ≤ 64
  flood_fits a h =
      let distinct = IsDistinct-from_AllPairs Decides-eqb (flood_of t vni)
      (λ i j d b l e. let less = AllPairs-from_increasing _ ascends i j d b l in omega (arith, less, e)) in
      let l = length-le_from_is_member eqb_equiv (flood_of t vni) t.originators distinct (listed_member h) in
      omega (arith, l, a.few)

  pub is_flood_list : IsFloodList t vni (flood_of t vni)
  is_flood_list = record {
    ascending = ascends;
    exact = λ o. let d = is_member-Decides Decides-eqb (flood_of t vni) o in
        (λ c. sym (member_of o) ∙ d.1 c, λ c. d.0 (member_of o ∙ c));
  }
