-- Groups in an index are groups in the order of their subjects: a look-up, a change and a new group are the same in
-- both.
use Rattle.std.proofs.Common.{◌≡◌, true, false, cond, is_some, Option, Some, None, inl, inr, arith}
use Rattle.std.proofs.Common.{List, [], ◌∷◌, refl, sym, ap, ◌∙◌}
use Rattle.std.specs.declared.cmp.Ordering.TheVariants.{Less}
use Rattle.std.specs.Ordering.{is_eq}
use Rattle.std.proofs.lemmas.Bool.{cases_Bool, or_parts, or_right, true≢false}
use Rattle.route_join.proofs.Subjects.{cases_Ordering}
use Rattle.std.specs.Option.{unwrap_or}
use Rattle.std.specs.List.{AllByRecursion}
use Rattle.std.specs.List.Sorted.{IsStrictlySortedBy}
use Rattle.std.specs.Map.{set_value}
use Rattle.std.specs.BTreeMap.{insert_entry, is_at}
use Rattle.std.specs.BTreeSet.{insert_key}
use Rattle.std.specs.Cmp.{tied_itself}
use Rattle.route_wire.specs.Fields.{Fields}
use Rattle.route_wire.specs.Inner.Ties.{equal_from}
use Rattle.route_wire.specs.declared.update.Register.{Register}
use Rattle.route_join.specs.Subject.{Subject, subject_cmp, subject_of}
use Rattle.route_join.specs.Inner.Subject.{subject_eq}
use Rattle.route_join.specs.Inner.Groups.{group_at, group_in, groups_along, is_among, AreIndexed, AreThere}
use Rattle.route_join.specs.Inner.Ranks.{subject_exact, subject_total, tied_subjects}
use Rattle.route_join.proofs.Groupings.{Groups}

-- ---- equal subjects
exact_at : (s t : Subject) → is_at (subject_cmp s) t ≡ true → s ≡ t
exact_at s t h = subject_exact s t (equal_from (subject_cmp s t) h)

pub itself : (s : Subject) → is_at (subject_cmp s) s ≡ true
itself s = ap is_eq (tied_itself subject_total s)

-- ---- a look-up
found_along : (s : Subject) (ss : List Subject) (gs : Groups)
    → group_at s (groups_along ss gs) ≡ cond (is_among ss s) (Some (unwrap_or (group_in gs s) [])) None
found_along s [] gs = refl
found_along s (t ∷ ss) gs = elim (cases_Bool (is_at (subject_cmp s) t)) [
  | inl e ↦ rw (e, exact_at s t e)
  | inr e ↦ rw e (found_along s ss gs)
]

pub found : (s : Subject) (ss : List Subject) (gs : Groups) → AreIndexed ss gs
    → group_in gs s ≡ group_at s (groups_along ss gs)
found s ss gs k = rw (found_along s ss gs, k.same s) (grind arith)

-- ---- the subject has a different group now
module _ (s : Subject) (w : List Fields) (gs hs : Groups) (h : (q : Subject)
    → group_in hs q ≡ cond (subject_eq s q) (Some w) (group_in gs q)) where
  has_it : (t : Subject) → is_at (subject_cmp s) t ≡ true → group_in hs t ≡ Some w
  has_it t e = rw (h t, tied_subjects s t, e)

  keeps_it : (t : Subject) → is_at (subject_cmp s) t ≡ false → group_in hs t ≡ group_in gs t
  keeps_it t e = rw (h t, tied_subjects s t, e)

  -- other subjects keep theirs
  others_along : (ss : List Subject) → is_among ss s ≡ false → groups_along ss hs ≡ groups_along ss gs
  others_along [] e = refl
  others_along (t ∷ ss) e = let parts = or_parts (is_at (subject_cmp s) t) (is_among ss s) e in
      rw (keeps_it t parts.0, others_along ss parts.1)

  none_behind : (ss : List Subject) → AllByRecursion (λ y. subject_cmp s y ≡ Less) ss → is_among ss s ≡ false
  none_behind [] a = refl
  none_behind (y ∷ ss) a = rw a.0 (none_behind ss a.1)

  pub written : (ss : List Subject) → IsStrictlySortedBy subject_cmp ss
      → groups_along ss hs ≡ set_value (is_at (subject_cmp s)) (groups_along ss gs) w
  unfolding IsStrictlySortedBy
  written [] a = refl
  written (t ∷ ss) a = elim (cases_Bool (is_at (subject_cmp s) t)) [
    | inl e ↦ rw (e, has_it t e, others_along ss (none_behind ss (rw (exact_at s t e) a.0)))
    | inr e ↦ rw (e, keeps_it t e, written ss a.1)
  ]

  pub entered : (ss : List Subject) → is_among ss s ≡ false
      → groups_along (insert_key subject_cmp ss s) hs ≡ insert_entry subject_cmp (groups_along ss gs) s w
  entered [] e = rw (has_it s (itself s))
  entered (t ∷ ss) e = let parts = or_parts (is_at (subject_cmp s) t) (is_among ss s) e in
      elim (cases_Ordering (subject_cmp s t)) [
        | inl o ↦ rw (o, has_it s (itself s), others_along (t ∷ ss) e)
        | inr (inl o) ↦ absurd (true≢false (rw o at parts.0))
        | inr (inr o) ↦ rw (o, keeps_it t parts.0, entered ss parts.1)
      ]

  -- ---- the invariant of an index

  pub set_indexed : {ss : List Subject} {us : List Fields} → Some us ≡ group_in gs s → AreIndexed ss gs
      → AreIndexed ss hs
  set_indexed {ss} {us} is k = record {
    ascend = k.ascend;
    same = λ q. elim (cases_Bool (is_at (subject_cmp s) q)) [
      | inl e ↦ rw (has_it q e, ← exact_at s q e, k.same s, ← is)
      | inr e ↦ rw (keeps_it q e) (k.same q)
    ];
  }

  pub new_indexed : (ss ts : List Subject) → IsStrictlySortedBy subject_cmp ts
      → ((q : Subject) → is_among ts q ≡ cond (is_at (subject_cmp s) q) true (is_among ss q)) → AreIndexed ss gs
      → AreIndexed ts hs
  new_indexed ss ts a n k = record {
    ascend = a;
    same = λ q. elim (cases_Bool (is_at (subject_cmp s) q)) [
      | inl e ↦ rw (n q, e, has_it q e)
      | inr e ↦ rw (n q, e, keeps_it q e) (k.same q)
    ];
  }

-- ---- in terms of the groups in their order
module _ {ss : List Subject} {gs now : Groups} (k : AreIndexed ss gs) (is : groups_along ss gs ≡ now) where
  pub found_as : {s t : Subject} {o : Option (List Fields)} → s ≡ t → o ≡ group_in gs s → o ≡ group_at t now
  found_as {s} same at = rw (← is, ← same, at) (found s ss gs k)

  -- if the subject is that of a register
  pub found_of : {s : Subject} {r q : Register} {o : Option (List Fields)} → s ≡ subject_of r.key → r ≡ q
      → o ≡ group_in gs s → o ≡ group_at (subject_of q.key) now
  found_of named same at = found_as (rw (← same) named) at

  pub not_among : (s : Subject) → None ≡ group_in gs s → is_among ss s ≡ false
  not_among s none = rw (k.same s, ← none)

  pub written_as : {s t : Subject} (w : List Fields) (hs : Groups) → s ≡ t
      → ((q : Subject) → group_in hs q ≡ cond (subject_eq s q) (Some w) (group_in gs q))
      → groups_along ss hs ≡ set_value (is_at (subject_cmp t)) now w
  written_as {s} w hs same h = rw (written s w gs hs h ss k.ascend, is, same)

-- ---- a walk
all_there : (ss : List Subject) (gs : Groups) → ((q : Subject) → is_among ss q ≡ true → is_some (group_in gs q) ≡ true)
    → AreThere ss gs
all_there [] gs h = tt
all_there (t ∷ ss) gs h = (
  h t (rw (itself t)),
  all_there ss gs (λ q a. h q (or_right (is_at (subject_cmp q) t) (is_among ss q) a)),
)

pub are_there : {ss : List Subject} {gs : Groups} → AreIndexed ss gs → AreThere ss gs
are_there {ss} {gs} k = all_there ss gs (λ q a. sym (k.same q) ∙ a)
