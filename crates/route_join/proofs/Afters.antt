-- The updates after a register: in a list, in a tree, and in groups; and the pages of a report.
use Rattle.std.proofs.Common.{◌≡◌, ℕ, zero, suc, ◌+◌, Bool, true, false, cond, ◌&&◌, Option, Some, None, Result, Ok}
use Rattle.std.proofs.Common.{Err, List, [], ◌∷◌, ◌++◌, take, drop, refl, sym, ap, subst, ◌∙◌, arith}
use Rattle.std.specs.declared.cmp.Ordering.{Ordering}
use Rattle.std.specs.declared.cmp.Ordering.TheVariants.{Less, Equal, Greater}
use Rattle.std.specs.Ordering.{is_lt, is_le}
use Rattle.std.specs.BTreeMap.Comparable.{le_lt_trans}
use Rattle.std.specs.List.{filter, take-map}
use Rattle.std.specs.Option.{unwrap_or}
use Rattle.std.specs.FinMap.Entries.{by_order, below_all}
use Rattle.std.proofs.lemmas.Bool.{cond_both, and_parts as both}
use Rattle.std.proofs.lemmas.List.{length-take}
use Rattle.std.proofs.lemmas.List.Elements.{filter-append}
use Rattle.route_wire.specs.declared.update.Register.{Register}
use Rattle.route_wire.specs.Fields.{Fields}
use Rattle.route_wire.specs.Order.{register_cmp}
use Rattle.route_wire.specs.Inner.Totals.{register_total, register_exact}
use Rattle.route_wire.specs.Inner.Ties.{equal_from}
use Rattle.route_join.specs.Subject.{Subject, subject_cmp, subject_of}
use Rattle.route_join.specs.Table.{Table, entries_of, IsOrdered}
use Rattle.route_join.specs.Group.{AreAbout, IsBefore, AreGroups, updates_in}
use Rattle.route_join.specs.Updates.{all_updates}
use Rattle.route_join.specs.After.{comes_after, updates_after, updates_from, page_len, page_at, AreAfter, IsPage}
use Rattle.route_join.specs.After.{is_same_place}
use Rattle.route_join.specs.Inner.Groups.{group_at, group_in, groups_along, AreThere}
use Rattle.route_join.specs.Inner.LargeGroup.{updates_along, update_at}
use Rattle.route_join.specs.Inner.Place.{place_of, later_by}
use Rattle.route_join.specs.Inner.Ranks.{subject_exact}
use Rattle.route_join.proofs.Orders.{less}
use Rattle.route_join.proofs.Subjects.{less_by_subject, greater_by_subject}
use Rattle.route_join.proofs.Groupings.{Groups, Entries, group_none, before_later}
use Rattle.route_join.proofs.Merging.{sorted_front, below_front}
use Rattle.route_join.proofs.Abouts.{all_updates_are}

-- a filter that keeps all
pub all_kept : {X : Type 0} (p : X → Bool) (xs : List X) → ((x : X) → p x ≡ true) → filter p xs ≡ xs
all_kept p [] h = refl
all_kept p (x ∷ xs) h = rw (h x, all_kept p xs h)

-- what holds of the rest of a filter, and still with one element more, holds of the filter
pub filtered : {X : Type 0} (P : List X → Type 0) (p : X → Bool) (x : X) (xs : List X) → P (filter p xs)
    → (P (filter p xs) → P (x ∷ filter p xs)) → P (filter p (x ∷ xs))
filtered P p x xs rest more = cond_both (p x) (x ∷ filter p xs) (filter p xs) P (λ _. more rest) (λ _. rest)

-- ---- a list
-- a register that isn't above another is below all that the other is below
pub below_from : (r q : Register) (es : Entries) → is_le (register_cmp r q) ≡ true → below_all register_cmp q es ≡ true
    → below_all register_cmp r es ≡ true
below_from r q [] l h = refl
below_from r q (e ∷ es) l h =
    let parts = both _ _ h in
    rw (le_lt_trans register_total r q e.0 l (less _ parts.0)) (below_from r q es l parts.1)

-- all updates come after a register below all of theirs
pub kept_below : (r : Register) (us : List Fields) → below_all register_cmp r (entries_of us) ≡ true
    → updates_after r us ≡ us
kept_below r [] h = refl
kept_below r (u ∷ us) h =
    let parts = both (comes_after r u) (below_all register_cmp r (entries_of us)) h in
    rw (parts.0, kept_below r us parts.1)

-- those that come after a register are above it
pub after_below : (r : Register) (us : List Fields) → below_all register_cmp r (entries_of (updates_after r us)) ≡ true
after_below r [] = refl
after_below r (u ∷ us) = cond_both (comes_after r u) (u ∷ updates_after r us) (updates_after r us)
    (λ xs. below_all register_cmp r (entries_of xs) ≡ true) (λ e. rw e (after_below r us)) (λ e. after_below r us)

about_after : (r : Register) (s : Subject) (us : List Fields) → AreAbout s (entries_of us)
    → AreAbout s (entries_of (updates_after r us))
about_after r s [] k = tt
about_after r s (u ∷ us) k = filtered (λ xs. AreAbout s (entries_of xs)) (comes_after r) u us
    (about_after r s us k.1) (λ rest. (k.0, rest))

pub about_rest : (r : Register) (s t : Subject) (us rest : List Fields) → s ≡ t → rest ≡ updates_after r us
    → AreAbout t (entries_of us) → AreAbout s (entries_of rest)
about_rest r s t us rest e f k = rw (e, f) (about_after r t us k)

-- of updates in order, those after a register begin at its place, or after it
abbrev pub start_at : Result ℕ ℕ → ℕ
start_at (Ok at) = at + 1
start_at (Err at) = at

later_start : (p : Result ℕ ℕ) → start_at (later_by 1 p) ≡ suc (start_at p)
later_start (Ok at) = omega arith
later_start (Err at) = omega arith

pub after_place : (us : List Fields) (q : Register) → IsOrdered us → drop (start_at (place_of us q)) us
    ≡ updates_after q us
after_place [] q s = refl
after_place (u ∷ us) q s =
    let parts = both _ _ s in
    let kept = λ (l : is_le (register_cmp q u.register) ≡ true).
    sym (kept_below q us (below_from q u.register (entries_of us) l parts.0)) in
    elim (register_cmp q u.register) as (λ o. register_cmp q u.register ≡ o
    → drop (start_at (by_order o (Err 0) (Ok 0) (later_by 1 (place_of us q)))) (u ∷ us)
    ≡ cond (is_lt o) (u ∷ updates_after q us) (updates_after q us)) [
      | Less ↦ λ e. ap (λ x. u ∷ x) (kept (ap is_le e))
      | Equal ↦ λ e. kept (ap is_le e)
      | Greater ↦ λ e. rw (later_start (place_of us q)) (after_place us q parts.1)
    ] refl

ordered_end : (n : ℕ) (us : List Fields) → IsOrdered us → IsOrdered (drop n us)
ordered_end zero us s = s
ordered_end (suc n) [] s = refl
ordered_end (suc n) (u ∷ us) s = ordered_end n us (both _ _ s).1

pub ordered_from : (after : Option Register) (us : List Fields) → IsOrdered us → IsOrdered (updates_from after us)
ordered_from None us s = s
ordered_from (Some r) us s = subst IsOrdered (after_place us r s) (ordered_end (start_at (place_of us r)) us s)

-- ---- a tree
-- a key after this one, as a search of a tree states it
abbrev pub is_after : {K : Type 0} → (K → K → Ordering) → K → K → Bool
is_after cmp k q = is_lt (cmp k q) && true

pub along_after : (us : List Fields) (r : Register) (es : List (Register × ℕ))
    → updates_along us (filter (λ (e : Register × ℕ). is_after register_cmp r e.0) es)
    ≡ updates_after r (updates_along us es)
along_after us r [] = refl
along_after us r (e ∷ es) =
    let rest = filter (λ (x : Register × ℕ). is_after register_cmp r x.0) es in
    let later = updates_after r (updates_along us es) in
    elim (is_lt (register_cmp r e.0)) as (λ b. updates_along us (cond (b && true) (e ∷ rest) rest)
    ≡ cond b (update_at us e ∷ later) later) [
      | true ↦ rw (along_after us r es)
      | false ↦ along_after us r es
    ]

-- ---- groups in an index
-- the groups of the subjects after this one
abbrev is_group_after : Subject → Subject × List Fields → Bool
is_group_after s g = is_lt (subject_cmp s g.0)

abbrev pub groups_after : Subject → Groups → Groups
groups_after s gs = filter (is_group_after s) gs

pub groups_along_after : (s : Subject) (ss : List Subject) (gs : Groups)
    → groups_along (filter (is_after subject_cmp s) ss) gs ≡ groups_after s (groups_along ss gs)
groups_along_after s [] gs = refl
groups_along_after s (t ∷ ss) gs =
    let rest = filter (is_after subject_cmp s) ss in
    let later = groups_after s (groups_along ss gs) in
    let first : Subject × List Fields = (t, unwrap_or (group_in gs t) []) in
    elim (is_lt (subject_cmp s t)) as (λ b. groups_along (cond (b && true) (t ∷ rest) rest) gs
    ≡ cond b (first ∷ later) later) [
      | true ↦ rw (groups_along_after s ss gs)
      | false ↦ groups_along_after s ss gs
    ]

pub there_where : (p : Subject → Bool) (ss : List Subject) (gs : Groups) → AreThere ss gs → AreThere (filter p ss) gs
there_where p [] gs h = tt
there_where p (t ∷ ss) gs h = filtered (λ ts. AreThere ts gs) p t ss (there_where p ss gs h.1) (λ rest. (h.0, rest))

-- groups after a subject are groups
before_kept : (s t : Subject) (gs : Groups) → IsBefore t gs → IsBefore t (groups_after s gs)
before_kept s t [] b = tt
before_kept s t (g ∷ gs) b = filtered (IsBefore t) (is_group_after s) g gs (before_kept s t gs b.1)
    (λ rest. (b.0, rest))

pub groups_kept : (s : Subject) (gs : Groups) → AreGroups gs → AreGroups (groups_after s gs)
groups_kept s [] k = tt
groups_kept s (g ∷ gs) k = filtered AreGroups (is_group_after s) g gs (groups_kept s gs k.3)
    (λ rest. (k.0, k.1, before_kept s g.0 gs k.2, rest))

-- ---- groups one after another
module _ (r : Register) where
  abbrev own : Subject
  own = subject_of r.key

  own_kept : (t : Subject) (us : List Fields) → AreAbout t (entries_of us) → subject_cmp own t ≡ Less
      → updates_after r us ≡ us
  own_kept t [] k e = refl
  own_kept t (u ∷ us) k e = rw (less_by_subject r u.register (ap (subject_cmp own) k.0 ∙ e), own_kept t us k.1 e)

  own_left : (t : Subject) (us : List Fields) → AreAbout t (entries_of us) → subject_cmp own t ≡ Greater
      → updates_after r us ≡ []
  own_left t [] k e = refl
  own_left t (u ∷ us) k e = rw (greater_by_subject r u.register (ap (subject_cmp own) k.0 ∙ e)) (own_left t us k.1 e)

  -- the updates of the register's own group after it, and those of later groups
  abbrev pub rest_in : Groups → List Fields
  rest_in gs = updates_after r (unwrap_or (group_at own gs) []) ++ updates_in (groups_after own gs)

  pub after_in : (gs : Groups) → AreGroups gs → updates_after r (updates_in gs) ≡ rest_in gs
  after_in [] k = refl
  after_in (g ∷ gs) k =
      filter-append (comes_after r) g.1 (updates_in gs) ∙ ap (λ x. updates_after r g.1 ++ x) (after_in gs k.3)
      ∙ elim (subject_cmp own g.0) as (λ o. subject_cmp own g.0 ≡ o
      → updates_after r g.1 ++ rest_in gs ≡ rest_in (g ∷ gs)) [
        | Less ↦ λ e. rw (e, group_none own gs (before_later own g.0 gs e k.2), own_kept g.0 g.1 k.0 e)
        | Equal ↦ λ e. rw (e, group_none own gs (subst (λ s. IsBefore s gs) (sym (subject_exact own g.0 e)) k.2))
        | Greater ↦ λ e. rw (e, own_left g.0 g.1 k.0 e)
      ] refl

-- ---- pages
pub after_from : (after : Option Register) (us : List Fields) → AreAfter after (updates_from after us)
after_from None us = tt
after_from (Some r) us = after_below r us

first_entries : (us : List Fields) → take page_len (entries_of us) ≡ entries_of (take page_len us)
first_entries us = take-map (λ (u : Fields). (u.register, u.value)) page_len us

first_after : (after : Option Register) (us : List Fields) → AreAfter after us → AreAfter after (take page_len us)
first_after None us b = tt
first_after (Some r) us b = rw (← first_entries us) (below_front r page_len (entries_of us) b)

pub page_is : (after : Option Register) (t : Table) → IsPage after (page_at after t)
page_is after t = let left = updates_from after (all_updates t) in record {
  few = let l = length-take page_len left in omega (arith, l);
  ordered = rw (← first_entries left)
      (sorted_front page_len (entries_of left) (ordered_from after (all_updates t) (all_updates_are t).ordered));
  behind = first_after after left (after_from after (all_updates t));
}

pub same_place : (a b : Option Register) → is_same_place a b ≡ true → a ≡ b
same_place None None h = refl
same_place None (Some q) h = cc
same_place (Some r) None h = cc
same_place (Some r) (Some q) h = ap Some (register_exact r q (equal_from (register_cmp r q) h))
