-- Whom ageing and the flush of a port take, one after another.
use Rattle.std.proofs.Common.{ℕ, ◌+◌, ◌-◌, ◌<◌, ◌≤◌, ◌≡◌, inl, inr, Bool, true, false, ◌&&◌, Option, Some, None}
use Rattle.std.proofs.Common.{List, [], ◌∷◌, refl, ap, sym, ◌∙◌, arith}
use Rattle.std.specs.Prelude.{slice_get, not}
use Rattle.std.proofs.Math.ListN.{get_or-map as get_or-map_same}
use Rattle.std.proofs.lemmas.Bool.{cases_Bool, false≢true, or_right}
use Rattle.std.proofs.lemmas.Bool.Decides.{nat_tests}
use Rattle.std.proofs.lemmas.Option.{none-some, same_Some}
use Rattle.mac_arena.specs.declared.station.Station.{Station}
use Rattle.mac_arena.specs.declared.station.Entry.{Entry}
use Rattle.mac_arena.specs.Station.{is_same}
use Rattle.mac_arena.specs.Learning.{Learning, entry_at, is_pinned, stations_at, first_unpinned, left, after_removal}
use Rattle.mac_arena.specs.ListsName.{ListsName, stands, AreOnce, Rises, is_on, ages, last_at}
use Rattle.mac_arena.specs.Laws.{is_due, due_among, due_in, unpinned_among, unpinned_on, GoesFirst}
use Rattle.mac_arena.proofs.Entries.{same_true, same_self, eq_same, ne_same}
use Rattle.mac_arena.proofs.Looking.{removal_entry}

-- ---- by age: exactly those who were last heard early enough

abbrev Age : Learning → List Station → Type 0
Age t ss = (s : Station) → stands ss s ≡ true → ages (entry_at t s) ≡ true

late : (limit : ℕ) (o : Option Entry) → ages o ≡ true → is_due limit o ≡ false → limit < last_at o
late limit None a d = absurd (false≢true a)
late limit (Some e) a d = grind (arith, nat_tests)

late_not : (limit : ℕ) (o : Option Entry) → limit < last_at o → is_due limit o ≡ false
late_not limit None l = refl
late_not limit (Some e) l = grind (arith, nat_tests)

behind_too : (x : Station) (xs : List Station) (q : Station) → stands xs q ≡ true → stands (x ∷ xs) q ≡ true
behind_too x xs q h = or_right (is_same x q) (stands xs q) h

among : (t : Learning) (limit : ℕ) (ss : List Station) → Rises t ss → Age t ss → (s : Station)
    → stands (due_among t limit ss) s ≡ (stands ss s && is_due limit (entry_at t s))
among t limit [] r k s = refl
among t limit (x ∷ xs) r k s = elim (cases_Bool (is_due limit (entry_at t x))) [
  | inl d ↦ rw d (elim (cases_Bool (is_same x s)) [
    | inl e ↦ rw (e, ← same_true x s e, d)
    | inr e ↦ rw e (among t limit xs r.1 (λ q h. k q (behind_too x xs q h)) s)
  ])
  | inr d ↦ rw d (elim (cases_Bool (is_same x s)) [
    | inl e ↦ rw (e, ← same_true x s e, d)
    | inr e ↦ rw e (elim (cases_Bool (stands xs s)) [
      | inl on ↦ (let low = r.0 s on in let mine = late limit (entry_at t x) (k x (rw (same_self x))) d in
          rw (on, late_not limit (entry_at t s) (omega (arith, low, mine))))
      | inr off ↦ rw off
    ])
  ])
]

pub due_exact : (t : Learning) (limit : ℕ) → ListsName t → (s : Station)
    → stands (due_in t limit) s ≡ (ages (entry_at t s) && is_due limit (entry_at t s))
due_exact t limit lists s = rw (← lists.ageing s)
    (among t limit t.ageing lists.rises (λ q h. sym (lists.ageing q) ∙ h) s)

-- ---- by a flush: exactly those behind the port who aren't pinned

unpinned_there : (t : Learning) (ss : List Station) (s : Station)
    → stands (unpinned_among t ss) s ≡ (not (is_pinned (entry_at t s)) && stands ss s)
unpinned_there t [] s = grind arith
unpinned_there t (x ∷ xs) s = (let rest = unpinned_there t xs s in elim (cases_Bool (is_pinned (entry_at t x))) [
  | inl p ↦ rw p (elim (cases_Bool (is_same x s)) [
    | inl e ↦ rw (rest, e, ← same_true x s e, p)
    | inr e ↦ rw e rest
  ])
  | inr p ↦ rw p (elim (cases_Bool (is_same x s)) [
    | inl e ↦ rw (e, ← same_true x s e, p)
    | inr e ↦ rw e rest
  ])
])

pub unpinned_exact : (t : Learning) (port : ℕ) → 1 ≤ port → ListsName t → (s : Station)
    → stands (unpinned_on t port) s ≡ (ages (entry_at t s) && is_on (entry_at t s) port)
unpinned_exact t port some lists s =
    let back : port - 1 + 1 ≡ port = omega arith in
    rw (unpinned_there t (stations_at t.ports (port - 1)) s, lists.ports (port - 1) s, back) (told (entry_at t s))
  where
    told : (o : Option Entry) → (not (is_pinned o) && is_on o port) ≡ (ages o && is_on o port)
    told None = refl
    told (Some e) = refl

-- ---- the first one goes

-- a station of a list that isn't the one removed is looked up as before
same_after : (t : Learning) (s : Station) (x : Station) → is_same x s ≡ false
    → entry_at (after_removal t s) x ≡ entry_at t x
same_after t s x e = (removal_entry t s).others x (λ same. false≢true (sym e ∙ eq_same x s same))

apart_parts : (x : Station) (xs : List Station) (s : Station) → stands (x ∷ xs) s ≡ false
    → (is_same x s ≡ false) × (stands xs s ≡ false)
apart_parts x xs s h = (grind (arith, h), grind (arith, h))

-- a list without the station is read as before
due_stays : (t : Learning) (limit : ℕ) (s : Station) (ss : List Station) → stands ss s ≡ false
    → due_among (after_removal t s) limit ss ≡ due_among t limit ss
due_stays t limit s [] h = refl
due_stays t limit s (x ∷ xs) h = (let parts = apart_parts x xs s h in
    rw (same_after t s x parts.0, due_stays t limit s xs parts.1))

unpinned_stays : (t : Learning) (s : Station) (ss : List Station) → stands ss s ≡ false
    → unpinned_among (after_removal t s) ss ≡ unpinned_among t ss
unpinned_stays t s [] h = refl
unpinned_stays t s (x ∷ xs) h = (let parts = apart_parts x xs s h in
    rw (same_after t s x parts.0, unpinned_stays t s xs parts.1))

-- the station is known, by its place on a list
known_by : (test : Option Entry → Bool) (o : Option Entry) → test None ≡ false → test o ≡ true
    → (e : Entry) × (o ≡ Some e)
known_by test None none h = absurd (false≢true (sym none ∙ h))
known_by test (Some e) none h = (e, refl)

pub due_first : (t : Learning) (limit : ℕ) (s : Station) → ListsName t → slice_get (due_in t limit) 0 ≡ Some s
    → GoesFirst (λ u. due_in u limit) t s
due_first t limit s lists e = go t.ageing refl e
  where
    taken : (rest : List Station) → t.ageing ≡ s ∷ rest → is_due limit (entry_at t s) ≡ true
        → GoesFirst (λ u. due_in u limit) t s
    taken rest is due =
        let at = known_by (is_due limit) (entry_at t s) refl due in
        let less : (after_removal t s).ageing ≡ rest = rw (at.1, is, same_self s) in
        let first : due_among t limit t.ageing ≡ s ∷ due_among t limit rest = rw (is, due) in
        let stays = due_stays t limit s rest (rw is at lists.ageing_once).0 in
        record { known = rw at.1; rest = rw less (first ∙ ap (λ ss. s ∷ ss) (sym stays)) }

    go : (ss : List Station) → t.ageing ≡ ss → slice_get (due_among t limit ss) 0 ≡ Some s
        → GoesFirst (λ u. due_in u limit) t s
    go [] is h = cc
    go (x ∷ xs) is h = elim (cases_Bool (is_due limit (entry_at t x))) [
      | inl due ↦ (let same = same_Some x s (rw due at h) in taken xs (rw same at is) (rw same at due))
      | inr not_due ↦ absurd (none-some s (rw not_due at h))
    ]

-- taking the first unpinned one out of a list
unpinned_left : (t : Learning) (s : Station) (ss : List Station) → AreOnce ss
    → slice_get (unpinned_among t ss) 0 ≡ Some s → is_pinned (entry_at t s) ≡ false
    → unpinned_among t ss ≡ s ∷ unpinned_among (after_removal t s) (left s ss)
unpinned_left t s [] once h free = cc
unpinned_left t s (x ∷ xs) once h free = elim (cases_Bool (is_pinned (entry_at t x))) [
  | inl p ↦ (let other = ne_same x s (λ same. false≢true (sym free ∙ rw same at p)) in
      rw (p, other, same_after t s x other, p) (unpinned_left t s xs once.1 (rw p at h) free))
  | inr p ↦ (let same = same_Some x s (rw p at h) in
      rw (p, same, same_self s, unpinned_stays t s xs (rw same at once.0)))
]

-- whom a list of the unpinned begins with is one of them
unpinned_front : (t : Learning) (s : Station) (ss : List Station) → slice_get (unpinned_among t ss) 0 ≡ Some s
    → (stands ss s ≡ true) × (is_pinned (entry_at t s) ≡ false)
unpinned_front t s [] h = cc
unpinned_front t s (x ∷ xs) h = elim (cases_Bool (is_pinned (entry_at t x))) [
  | inl p ↦ (let r = unpinned_front t s xs (rw p at h) in (behind_too x xs s r.0, r.1))
  | inr p ↦ (let same = same_Some x s (rw p at h) in (rw (eq_same x s same), rw same at p))
]

pub unpinned_first : (t : Learning) (port : ℕ) (s : Station) → ListsName t → slice_get (unpinned_on t port) 0 ≡ Some s
    → GoesFirst (λ u. unpinned_on u port) t s
unpinned_first t port s lists e =
    let l = port - 1 in
    let front = unpinned_front t s (stations_at t.ports l) e in
    let at = known_by (λ o. is_on o (l + 1)) (entry_at t s) refl (sym (lists.ports l s) ∙ front.0) in
    let less : stations_at (after_removal t s).ports l ≡ left s (stations_at t.ports l) =
    rw at.1 (get_or-map_same (left s) t.ports l []) in
    record {
      known = rw at.1;
      rest = rw less (unpinned_left t s (stations_at t.ports l) (lists.ports_once l) e front.1);
    }

-- the front of the unpinned is what `first_of` tells
pub first_is : (t : Learning) (ss : List Station) → first_unpinned t ss ≡ slice_get (unpinned_among t ss) 0
first_is t [] = refl
first_is t (x ∷ xs) = elim (cases_Bool (is_pinned (entry_at t x))) [
  | inl p ↦ rw p (first_is t xs)
  | inr p ↦ rw p
]
