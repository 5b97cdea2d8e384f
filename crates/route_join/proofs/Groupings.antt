-- Groups one after another: a look-up in all of them is one in the register's group, and so is an edit.
use Rattle.std.proofs.Common.{◌≡◌, false, Option, Some, None, List, [], ◌∷◌, ◌++◌, inl, inr, refl, sym, ap}
use Rattle.std.proofs.Common.{◌∙◌, append_assoc, append-nil}
use Rattle.std.specs.declared.cmp.Ordering.{Ordering}
use Rattle.std.specs.declared.cmp.Ordering.TheVariants.{Less, Greater}
use Rattle.std.specs.Ordering.{is_eq}
use Rattle.std.specs.BTreeMap.{insert_entry, is_at}
use Rattle.std.specs.Map.{set_value}
use Rattle.std.specs.FinMap.Entries.{put, find}
use Rattle.std.proofs.lemmas.List.{map-append}
use Rattle.route_wire.specs.declared.update.Register.{Register}
use Rattle.route_wire.specs.declared.update.Value.{Value}
use Rattle.route_wire.specs.Fields.{Fields}
use Rattle.route_wire.specs.Order.{register_cmp}
use Rattle.route_join.specs.Subject.{Subject, subject_cmp, subject_of}
use Rattle.route_join.specs.Table.{entries_of, is_news}
use Rattle.route_join.specs.Inner.Group.{entries_with}
use Rattle.route_join.specs.Group.{AreAbout, IsSome, IsBefore, AreGroups, updates_in}
use Rattle.route_join.specs.Inner.Groups.{group_at}
use Rattle.route_join.specs.Inner.Ranks.{subject_total, subject_exact}
use Rattle.route_join.proofs.Subjects.{less_by_subject, greater_by_subject, cases_Ordering}
use Rattle.std.proofs.lemmas.Bool.{cases_Bool, cond_both}
use Rattle.std.proofs.lemmas.Option.{none-some}

abbrev pub Groups : Type 0
Groups = List (Subject × List Fields)

abbrev pub Entries : Type 0
Entries = List (Register × Value)

-- all their entries
abbrev pub entries_in : Groups → Entries
entries_in [] = []
entries_in (g ∷ gs) = entries_of g.1 ++ entries_in gs

pub entries_in_all : (gs : Groups) → entries_of (updates_in gs) ≡ entries_in gs
entries_in_all [] = refl
entries_in_all (g ∷ gs) = rw (map-append, entries_in_all gs)

-- ---- one subject against many registers
abbrev pub AllAre : Subject → Ordering → Entries → Type 0
AllAre s o [] = Unit {0}
AllAre s o (e ∷ es) = (subject_cmp s (subject_of e.0.key) ≡ o) × AllAre s o es

all_append : (s : Subject) (o : Ordering) (es fs : Entries) → AllAre s o es → AllAre s o fs → AllAre s o (es ++ fs)
all_append s o [] fs h k = k
all_append s o (e ∷ es) fs h k = (h.0, all_append s o es fs h.1 k)

about_all : (s t : Subject) (o : Ordering) (es : Entries) → AreAbout t es → subject_cmp s t ≡ o → AllAre s o es
about_all s t o [] k h = tt
about_all s t o (e ∷ es) k h = (ap (subject_cmp s) k.0 ∙ h, about_all s t o es k.1 h)

before_all : (s : Subject) (gs : Groups) → IsBefore s gs → AreGroups gs → AllAre s Less (entries_in gs)
before_all s [] b k = tt
before_all s (g ∷ gs) b k = all_append s Less (entries_of g.1) (entries_in gs)
    (about_all s g.0 Less (entries_of g.1) k.0 b.0) (before_all s gs b.1 k.3)

pub before_later : (s t : Subject) (gs : Groups) → subject_cmp s t ≡ Less → IsBefore t gs → IsBefore s gs
before_later s t [] l b = tt
before_later s t (g ∷ gs) l b = (subject_total.trans s t g.0 l b.0, before_later s t gs l b.1)

-- ---- edits and look-ups beside other entries
module _ (r : Register) where
  find_before : (es fs : Entries) → AllAre (subject_of r.key) Less fs → find register_cmp r (es ++ fs)
      ≡ find register_cmp r es
  find_before [] [] h = refl
  find_before [] (e ∷ fs) h = rw (less_by_subject r e.0 h.0) (find_before [] fs h.1)
  find_before (e ∷ es) fs h = rw (find_before es fs h)

  find_after : (es fs : Entries) → AllAre (subject_of r.key) Greater es → find register_cmp r (es ++ fs)
      ≡ find register_cmp r fs
  find_after [] fs h = refl
  find_after (e ∷ es) fs h = rw (greater_by_subject r e.0 h.0) (find_after es fs h.1)

module _ (r : Register) (v : Value) where
  put_before : (es fs : Entries) → AllAre (subject_of r.key) Less fs → put register_cmp r v (es ++ fs)
      ≡ put register_cmp r v es ++ fs
  put_before [] [] h = refl
  put_before [] (e ∷ fs) h = rw (less_by_subject r e.0 h.0)
  put_before (e ∷ es) fs h = elim (cases_Ordering (register_cmp r e.0)) [
    | inl o ↦ rw o
    | inr (inl o) ↦ rw o
    | inr (inr o) ↦ rw (o, put_before es fs h)
  ]

  put_after : (es fs : Entries) → AllAre (subject_of r.key) Greater es → put register_cmp r v (es ++ fs)
      ≡ es ++ put register_cmp r v fs
  put_after [] fs h = refl
  put_after (e ∷ es) fs h = rw (greater_by_subject r e.0 h.0, put_after es fs h.1)

-- ---- the group of a subject
pub group_none : (s : Subject) (gs : Groups) → IsBefore s gs → group_at s gs ≡ None
group_none s [] b = refl
group_none s (g ∷ gs) b = rw b.0 (group_none s gs b.1)

-- the entries of a group, if there is one
abbrev pub entries_if : Option (List Fields) → Entries
entries_if None = []
entries_if (Some us) = entries_of us

-- to write a group that is there is to insert it
pub set_inserts : (s : Subject) (gs : Groups) (us new : List Fields) → AreGroups gs → group_at s gs ≡ Some us
    → set_value (is_at (subject_cmp s)) gs new ≡ insert_entry subject_cmp gs s new
set_inserts s [] us new k h = cc
set_inserts s (g ∷ gs) us new k h = elim (cases_Ordering (subject_cmp s g.0)) [
  | inl e ↦ absurd (none-some us (sym (group_none s gs (before_later s g.0 gs e k.2)) ∙ rw e at h))
  | inr (inl e) ↦ rw e
  | inr (inr e) ↦ rw (e, set_inserts s gs us new k.3 (rw e at h))
]

-- the entries of groups are those of a subject between those of lower and of higher ones
record IsAround (s : Subject) (gs : Groups) (o : Option (List Fields)) : Type 0 where
  lower : Entries
  higher : Entries
  below : AllAre s Greater lower
  above : AllAre s Less higher
  all : entries_in gs ≡ lower ++ (entries_if o ++ higher)
  written : (new : List Fields) → entries_in (insert_entry subject_cmp gs s new) ≡ lower ++ (entries_of new ++ higher)
  kept : AreAbout s (entries_if o)

around : (s : Subject) (gs : Groups) → AreGroups gs → (o : Option (List Fields)) → group_at s gs ≡ o → IsAround s gs o
around s [] k None h = record {
  lower = [];
  higher = [];
  below = tt;
  above = tt;
  all = refl;
  written = λ new. refl;
  kept = tt;
}
around s [] k (Some us) h = cc
around s (g ∷ gs) k o h = elim (cases_Ordering (subject_cmp s g.0)) [
  | inl e ↦ rw (sym (rw e at h) ∙ group_none s gs (before_later s g.0 gs e k.2)) record {
    lower = [];
    higher = entries_in (g ∷ gs);
    below = tt;
    above = before_all s (g ∷ gs) (e, before_later s g.0 gs e k.2) k;
    all = refl;
    written = λ new. rw e;
    kept = tt;
  }
  | inr (inl e) ↦ rw (sym (rw e at h)) record {
    lower = [];
    higher = entries_in gs;
    below = tt;
    above = before_all s gs (rw (subject_exact s g.0 e) k.2) k.3;
    all = refl;
    written = λ new. rw e;
    kept = rw (subject_exact s g.0 e) k.0;
  }
  | inr (inr e) ↦ let a = around s gs k.3 o (rw e at h) in record {
    lower = entries_of g.1 ++ a.lower;
    higher = a.higher;
    below = all_append s Greater (entries_of g.1) a.lower (about_all s g.0 Greater (entries_of g.1) k.0 e) a.below;
    above = a.above;
    all = rw (a.all, append_assoc);
    written = λ new. rw (e, a.written new, append_assoc);
    kept = a.kept;
  }
]

pub about_there : {s t : Subject} (gs : Groups) {o : Option (List Fields)} → AreGroups gs → s ≡ t → o ≡ group_at s gs
    → AreAbout t (entries_if o)
about_there {s} gs {o} k named h = rw (← named) ((around s gs k o (sym h)).kept)

-- if a list is made entry by entry, and entries of other subjects add nothing, it is the list made of the subject's
-- group
pub made_there : {X : Type 0} (f : Entries → List X) → ((es fs : Entries) → f (es ++ fs) ≡ f es ++ f fs)
    → (s : Subject) → ((o : Ordering) (es : Entries) → is_eq o ≡ false → AllAre s o es → f es ≡ [])
    → (gs : Groups) (o : Option (List Fields)) → AreGroups gs → group_at s gs ≡ o → f (entries_in gs) ≡ f (entries_if o)
made_there f append s none gs o k h =
    let a = around s gs k o h in
    rw (
      a.all,
      append a.lower (entries_if o ++ a.higher),
      none Greater a.lower refl a.below,
      append (entries_if o) a.higher,
      none Less a.higher refl a.above,
    ) (append-nil (f (entries_if o)))

-- a look-up in all groups is one in the register's group
pub find_there : (r : Register) (gs : Groups) (o : Option (List Fields)) → AreGroups gs
    → group_at (subject_of r.key) gs ≡ o → find register_cmp r (entries_in gs) ≡ find register_cmp r (entries_if o)
find_there r gs o k h =
    let a = around (subject_of r.key) gs k o h in
    rw (a.all, find_after r a.lower (entries_if o ++ a.higher) a.below) (find_before r (entries_if o) a.higher a.above)

-- ---- an update that its group takes is taken by all groups
pub take_there : (u : Fields) (gs : Groups) (o : Option (List Fields)) (new : List Fields) → AreGroups gs
    → group_at (subject_of u.register.key) gs ≡ o → entries_of new ≡ entries_with (entries_if o) u
    → entries_in (insert_entry subject_cmp gs (subject_of u.register.key) new) ≡ entries_with (entries_in gs) u
take_there u gs o new k h e =
    let a = around (subject_of u.register.key) gs k o h in
    let found = find_there u.register gs o k h in
    elim (cases_Bool (is_news (find register_cmp u.register (entries_if o)) u.value)) [
      | inl t ↦ rw (
        found,
        a.written new,
        e,
        t,
        a.all,
        put_after u.register u.value a.lower (entries_if o ++ a.higher)
            a.below,
        put_before u.register u.value (entries_if o) a.higher a.above,
      )
      | inr t ↦ rw (found, a.written new, e, t, a.all)
    ]

pub about_with : (s : Subject) (es : Entries) (u : Fields) → AreAbout s es → subject_of u.register.key ≡ s
    → AreAbout s (entries_with es u)
about_with s es u k h = cond_both (is_news (find register_cmp u.register es) u.value) _ _ (AreAbout s)
    (λ _. put_about es k) (λ _. k)
  where
    put_about : (es : Entries) → AreAbout s es → AreAbout s (put register_cmp u.register u.value es)
    put_about [] k = (h, tt)
    put_about (e ∷ es) k = elim (cases_Ordering (register_cmp u.register e.0)) [
      | inl o ↦ rw o (h, k)
      | inr (inl o) ↦ rw o k
      | inr (inr o) ↦ rw o (k.0, put_about es k.1)
    ]

pub some_with : (es : Entries) (u : Fields) → IsSome (entries_with es u)
some_with [] u = tt
some_with (e ∷ es) u = cond_both (is_news (find register_cmp u.register (e ∷ es)) u.value) _ _ IsSome
    (λ _. elim (cases_Ordering (register_cmp u.register e.0)) [
      | inl o ↦ rw o tt
      | inr (inl o) ↦ rw o tt
      | inr (inr o) ↦ rw o tt
    ]) (λ _. tt)

module _ (s : Subject) (new : List Fields) (about : AreAbout s (entries_of new)) (some : IsSome (entries_of new)) where
  before_insert : (t : Subject) (gs : Groups) → subject_cmp t s ≡ Less → IsBefore t gs
      → IsBefore t (insert_entry subject_cmp gs s new)
  before_insert t [] l b = (l, tt)
  before_insert t (g ∷ gs) l b = elim (cases_Ordering (subject_cmp s g.0)) [
    | inl e ↦ rw e (l, b)
    | inr (inl e) ↦ rw e b
    | inr (inr e) ↦ rw e (b.0, before_insert t gs l b.1)
  ]

  pub groups_insert : (gs : Groups) → AreGroups gs → AreGroups (insert_entry subject_cmp gs s new)
  groups_insert [] k = (about, some, tt, tt)
  groups_insert (g ∷ gs) k = elim (cases_Ordering (subject_cmp s g.0)) [
    | inl e ↦ rw e (about, some, (e, before_later s g.0 gs e k.2), k)
    | inr (inl e) ↦ rw e (rw (← subject_exact s g.0 e) about, some, k.2, k.3)
    | inr (inr e) ↦
        rw e (k.0, k.1, before_insert g.0 gs (rw (subject_total.antisymm g.0 s, e) refl) k.2, groups_insert gs k.3)
  ]
