-- The results of a table of groups: a register's value, the owner of an address and a flood list are each read in one
-- group.
use Rattle.std.proofs.Common.{◌≡◌, ◌≢◌, ℕ, true, false, Option, Some, None, MatchOption, List, []}
use Rattle.std.proofs.Common.{◌∷◌, ◌++◌, inl, inr, refl, sym, ap, ◌∙◌, arith}
use Rattle.std.proofs.lemmas.Bool.Decides.{nat_tests}
use Rattle.std.proofs.lemmas.Bool.{cases_Bool, true≢false}
use Rattle.std.specs.declared.cmp.Ordering.{Ordering}
use Rattle.std.specs.Cmp.{tied_itself}
use Rattle.std.specs.Ordering.{is_eq, eq_by_cmp}
use Rattle.std.specs.FinMap.Entries.{find}
use Rattle.route_join.specs.Taken.{taken_of}
use Rattle.route_wire.specs.declared.update.Ip.{Ip}
use Rattle.route_wire.specs.declared.update.Key.{Key}
use Rattle.route_wire.specs.declared.update.Key.TheVariants.{Mac}
use Rattle.route_wire.specs.declared.update.Register.{Register}
use Rattle.route_wire.specs.declared.update.Advert.{Advert}
use Rattle.route_wire.specs.Fields.{Fields, IsUpdate}
use Rattle.route_wire.specs.Order.{register_cmp}
use Rattle.route_join.specs.Subject.{Subject, subject_cmp, subject_of}
use Rattle.route_join.specs.Table.{Table, entries_of, table_from, value_at, register_of, with_update}
use Rattle.route_join.specs.Table.{is_news, is_listed, IsOrdered, IsKept}
use Rattle.route_join.specs.Laws.{SameOwner}
use Rattle.route_join.specs.Owner.{advert_of, advert_at, owner, owner_among, IsOwner, IsUnowned}
use Rattle.route_join.specs.Flood.{is_flood, flooding, flood_of}
use Rattle.route_join.specs.Group.{AreAbout, IsGrouped, updates_in}
use Rattle.route_join.specs.Inner.Group.{IsLeader, IsSilent, told}
use Rattle.route_join.specs.Inner.Group.{entries_with, taken_in}
use Rattle.route_join.proofs.Tables.{same_register}
use Rattle.route_join.proofs.Edits.{found, listed_as, kept_put, table_put}
use Rattle.route_join.proofs.Owners.{owner_is, one_owner, owner_along}
use Rattle.route_join.specs.Inner.Ranks.{subject_total}
use Rattle.route_join.proofs.Subjects.{address, address_key}
use Rattle.route_join.proofs.Groupings.{Groups, Entries, entries_in_all, about_there, find_there}
use Rattle.route_join.proofs.Groupings.{AllAre, entries_if, made_there}
use Rattle.route_join.specs.Inner.Groups.{group_at}

-- ---- owners
-- an advert in a group is about the group's subject
told_about : (s : Subject) (es : Entries) (q : Register) (a : Advert) → AreAbout s es
    → advert_of (find register_cmp q es) ≡ Some a → subject_of q.key ≡ s
told_about s [] q a k h = cc
told_about s (e ∷ es) q a k h = elim (cases_Bool (eq_by_cmp register_cmp q e.0)) [
  | inl t ↦ rw (same_register q e.0 t) k.0
  | inr t ↦ told_about s es q a k.1 (rw t at h)
]

module _ (t : Table) (vni mac : ℕ) where
  abbrev Owned : Option ℕ → Type 0
  Owned o = MatchOption o (IsUnowned t vni mac) (IsOwner t vni mac)

  only : (o p : Option ℕ) → Owned o → Owned p → o ≡ p
  only None None h k = refl
  only None (Some p) h k = cc (h p k.ip)
  only (Some o) None h k = cc (k o h.ip)
  only (Some o) (Some p) h k = ap Some (one_owner t vni mac o p h k)

  -- the owner by the predicate `Owned` is the owner by the function `owner`
  pub owner_only : (o : Option ℕ) → Owned o → o ≡ owner t vni mac
  owner_only o h = only o (owner t vni mac) h (owner_is t vni mac)

  -- the originator of the best advert among the updates about an address owns the address
  module _ (us : List Fields) (about : AreAbout (address vni mac) (entries_of us))
      (there : (o : ℕ) (ip : Option Ip) → advert_at t o (Mac vni mac ip) ≡ told us (register_of o (Mac vni mac ip)))
    where
      leads : (o : ℕ) → IsLeader us o → IsOwner t vni mac o
      leads o l =
          let key = address_key vni mac l.register.key (told_about _ (entries_of us) l.register l.advert about l.own) in
          let named : l.register ≡ register_of o (Mac vni mac key.0) = rw (← l.named, ← key.1) in
          record {
            ip = key.0;
            advert = l.advert;
            own = rw (there o key.0) (rw named at l.own);
            best = λ p j b ne at. rw named at (l.best (register_of p (Mac vni mac j)) b (λ e. ne (e ∙ named))
                (sym (there p j) ∙ at));
          }

      led_by : (o : Option ℕ) → MatchOption o (IsSilent us) (IsLeader us) → Owned o
      led_by None q = λ o ip. there o ip ∙ q (register_of o (Mac vni mac ip))
      led_by (Some o) l = leads o l

-- tables with the same adverts of an address have the same owner
pub same_owner : SameOwner
same_owner s t vni mac same = owner_only t vni mac (owner s vni mac) (go (owner s vni mac) (owner_is s vni mac))
  where
    go : (o : Option ℕ) → Owned s vni mac o → Owned t vni mac o
    go None h = λ o ip. sym (same o ip) ∙ h o ip
    go (Some o) h = owner_along s t vni mac o same h

-- and is the owner among them
pub owner_in : (vni mac : ℕ) (us : List Fields) → IsOrdered us → AreAbout (address vni mac) (entries_of us)
    → (o : Option ℕ) → MatchOption o (IsSilent us) (IsLeader us) → o ≡ owner_among vni mac (entries_of us)
owner_in vni mac us s about o q =
    owner_only (table_from [] us) vni mac o (led_by (table_from [] us) vni mac us about
    (λ p ip. ap advert_of (found [] us (register_of p (Mac vni mac ip)) s)) o q)
    ∙ ap (owner_among vni mac) (listed_as [] us s)

-- ---- flood lists
flooding_append : (vni : ℕ) (es fs : Entries) → flooding vni (es ++ fs) ≡ flooding vni es ++ flooding vni fs
flooding_append vni [] fs = refl
flooding_append vni (e ∷ es) fs = grind (arith, flooding_append vni es fs)

flood_key : (vni : ℕ) (key : Key) → is_flood vni key ≡ true → subject_of key ≡ record { vni = vni; mac = None }
flood_key vni key h = grind (arith, nat_tests)

pub differs : (s t : Subject) (o : Ordering) → subject_cmp s t ≡ o → is_eq o ≡ false → t ≢ s
differs s t o e n same = true≢false (rw (sym e ∙ ap (subject_cmp s) same ∙ tied_itself subject_total s) at n)

flooding_apart : (vni : ℕ) (o : Ordering) (es : Entries) → is_eq o ≡ false
    → AllAre (record { vni = vni; mac = None }) o es → flooding vni es ≡ []
flooding_apart vni o [] n k = refl
flooding_apart vni o (e ∷ es) n k = elim (cases_Bool (is_flood vni e.0.key)) [
  | inl t ↦ absurd (differs _ (subject_of e.0.key) o k.0 n (flood_key vni e.0.key t))
  | inr t ↦ rw t (flooding_apart vni o es n k.1)
]

-- ---- the results of a table of groups
module _ {os : List ℕ} {gs : Groups} {t : Table} (k : IsGrouped os gs) (view : table_from os (updates_in gs) ≡ t) where
  pub value_there : (q : Register) {s : Subject} {o : Option (List Fields)} → s ≡ subject_of q.key → o ≡ group_at s gs
      → value_at t q ≡ find register_cmp q (entries_if o)
  value_there q named h = rw (← view, found os (updates_in gs) q k.kept.ordered, entries_in_all gs)
      (find_there q gs _ k.groups (sym (rw named at h)))

  module _ (vni mac : ℕ) {s : Subject} (named : s ≡ address vni mac) where
    pub unowned : None ≡ group_at s gs → IsUnowned t vni mac
    unowned h o ip = rw (value_there (register_of o (Mac vni mac ip)) named h)

    pub owned_by : {us : List Fields} → Some us ≡ group_at s gs → (o : Option ℕ)
        → MatchOption o (IsSilent us) (IsLeader us) → Owned t vni mac o
    owned_by {us} h = led_by t vni mac us (about_there gs k.groups named h)
        (λ p ip. ap advert_of (value_there (register_of p (Mac vni mac ip)) named h))

  pub flooding_there : (vni : ℕ) {s : Subject} {o : Option (List Fields)} → s ≡ record { vni = vni; mac = None }
      → o ≡ group_at s gs → flooding vni (entries_if o) ≡ flood_of t vni
  flooding_there vni named h = rw (← view, listed_as os (updates_in gs) k.kept.ordered, entries_in_all gs)
      (sym (made_there (flooding vni) (flooding_append vni) (record { vni = vni; mac = None }) (flooding_apart vni) gs
      _ k.groups (sym (rw named at h))))

-- ---- an update is taken
module _ {os : List ℕ} {us : List Fields} {t : Table} (k : IsKept os us) (view : table_from os us ≡ t) (u : Fields)
  where
    pub taken_is : taken_in (entries_of us) u ≡ taken_of t u
    taken_is = rw (← view, found os us u.register k.ordered)

    module _ (new : List Fields) (e : entries_of new ≡ entries_with (entries_of us) u) where
      pub kept_with : IsUpdate u → is_listed t u.register.originator ≡ true → IsKept os new
      kept_with formed listed = elim (cases_Bool (is_news (find register_cmp u.register (entries_of us)) u.value)) [
        | inl t ↦ kept_put os us new u formed k (rw t at e) (rw (← view) at listed)
        | inr t ↦ let same : entries_of new ≡ entries_of us = rw t at e in record {
          listeners = k.listeners;
          ordered = rw same k.ordered;
          listed = rw same k.listed;
          formed = rw same k.formed;
        }
      ]

      pub table_with : table_from os new ≡ with_update t u
      table_with = elim (cases_Bool (is_news (find register_cmp u.register (entries_of us)) u.value)) [
        | inl t ↦ rw (← view, found os us u.register k.ordered, t) (table_put os us new u k.ordered (rw t at e))
        | inr t ↦ rw (← view, found os us u.register k.ordered, t, rw t at e)
      ]
