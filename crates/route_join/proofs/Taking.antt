-- The effect of an update on all groups is its effect on its subject's group.
use Rattle.std.proofs.Common.{◌≡◌, ℕ, ◌+◌, true, Option, List, length, Result, Ok, Err, OnErr, refl, sym, ap, arith}
use Rattle.std.specs.declared.alloc.AllocError.{AllocError}
use Rattle.std.specs.BTreeMap.{insert_entry}
use Rattle.std.specs.FinMap.Entries.{find, is_sorted, length-put}
use Rattle.std.proofs.lemmas.List.{length-map}
use Rattle.std.proofs.lemmas.Result.{on_ok_weaker}
use Rattle.route_wire.specs.declared.update.Register.{Register}
use Rattle.route_wire.specs.declared.update.Value.{Value}
use Rattle.route_wire.specs.Fields.{Fields}
use Rattle.route_wire.specs.Order.{register_cmp}
use Rattle.route_wire.specs.Inner.Totals.{register_total}
use Rattle.route_join.specs.declared.table.Taken.{Taken}
use Rattle.route_join.specs.Subject.{Subject, subject_cmp, subject_of}
use Rattle.route_join.specs.Table.{entries_of, IsOrdered}
use Rattle.route_join.specs.Group.{AreAbout, AreGroups, updates_in}
use Rattle.route_join.specs.Inner.Group.{entries_with, added, Takes}
use Rattle.route_join.specs.Inner.Groups.{group_at}
use Rattle.route_join.proofs.Groupings.{Groups, Entries, entries_if, entries_in_all, about_there, find_there}
use Rattle.route_join.proofs.Groupings.{take_there, about_with, some_with, groups_insert}
use Rattle.route_join.proofs.Orders.{to_T}

-- ---- an update, and its subject's group, if there is one
module _ (gs : Groups) (u : Fields) {o : Option (List Fields)} (k : AreGroups gs)
    (h : o ≡ group_at (subject_of u.register.key) gs) where
  pub found_in : find register_cmp u.register (entries_of (updates_in gs)) ≡ find register_cmp u.register (entries_if o)
  found_in = rw (entries_in_all gs) (find_there u.register gs o k (sym h))

  -- the result of the call of the group's `take`, for all groups
  module _ (new : List Fields) {after : Groups}
      (w : after ≡ insert_entry subject_cmp gs (subject_of u.register.key) new) where
    pub groups_after : (r : Result Taken AllocError) {held more : ℕ}
        → Takes (entries_if o) u held r (entries_of new) more → OnErr r (after ≡ gs) → AreGroups after
    groups_after (Ok t) took n = rw w (groups_insert (subject_of u.register.key) new
        (rw took.entries (about_with _ (entries_if o) u (about_there gs k refl h) refl))
        (rw took.entries (some_with (entries_if o) u)) gs k)
    groups_after (Err x) took n = rw n k

    pub takes_after : {r : Result Taken AllocError} {held more : ℕ}
        → Takes (entries_if o) u held r (entries_of new) more
        → Takes (entries_of (updates_in gs)) u held r (entries_of (updates_in after)) more
    takes_after {r} took = record {
      taken = rw found_in took.taken;
      entries = on_ok_weaker r (λ e. rw (w, entries_in_all gs, entries_in_all) (take_there u gs o new k (sym h) e))
          took.entries;
      counted = rw found_in took.counted;
      few = took.few;
      absent = rw found_in took.absent;
      uncounted = took.uncounted;
    }

-- ---- how many registers there are
pub length_with : (es : Entries) (u : Fields) → is_sorted register_cmp es ≡ true
    → length (entries_with es u) ≡ length es + added es u
length_with es u s = let p = length-put register_cmp register_total u.register u.value es (to_T _ s) in grind arith

-- the held registers are still counted
pub counted_with : (us new : List Fields) (u : Fields) (held more : ℕ) → IsOrdered us
    → entries_of new ≡ entries_with (entries_of us) u → held ≡ length us → more ≡ held + added (entries_of us) u
    → more ≡ length new
counted_with us new u held more s e h m =
    let f : Fields → Register × Value = λ v. (v.register, v.value) in
    omega (arith, length-map us f, length-map new f, length_with (entries_of us) u s, ap length e)

-- ---- an update of a group's subject leaves the group about it
pub about_taken : (s : Subject) (us new : List Fields) (u : Fields) (r : Result Taken AllocError) (held more : ℕ)
    → AreAbout s (entries_of us) → subject_of u.register.key ≡ s
    → Takes (entries_of us) u held r (entries_of new) more → OnErr r (new ≡ us) → AreAbout s (entries_of new)
about_taken s us new u (Ok t) held more k h took e = rw took.entries (about_with s (entries_of us) u k h)
about_taken s us new u (Err x) held more k h took e = rw e k
