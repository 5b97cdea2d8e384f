-- The winner of a group: how it is found among some updates, and the winner after an edit.
use Rattle.std.proofs.Common.{◌≡◌, ◌≢◌, ℕ, suc, ◌+◌, ◌<◌, ◌≤◌, ◌^◌, Bool, true, false, cond, Option, Some, None, List}
use Rattle.std.proofs.Common.{[], ◌∷◌, ◌++◌, length, get_or, set, take, drop, refl, sym, ap, ◌∙◌, arith, add-one}
use Rattle.std.specs.List.{slice_get, insert}
use Rattle.std.specs.Cmp.{tied_itself}
use Rattle.std.specs.declared.alloc.AllocError.{AllocError}
use Rattle.std.specs.declared.cmp.Ordering.TheVariants.{Equal}
use Rattle.std.specs.FinMap.Entries.{find, put, find-put}
use Rattle.std.specs.Prelude.{nat_le, IfSome, OnOk, Result, Ok, Err}
use Rattle.std.specs.Result.{is_err}
use Rattle.std.proofs.lemmas.Bool.Decides.{nat_tests}
use Rattle.std.proofs.lemmas.List.{map-append, take-append-drop}
use Rattle.std.proofs.lemmas.List.Edits.{get_or-insert_at, get_or-insert_below, get_or-insert_above, length-insert}
use Rattle.std.proofs.lemmas.Option.{slice_get-get_or, slice_get_within, get_or_from_slice_get, slice_get_read}
use Rattle.std.proofs.Math.Seq.{drop-cons, take-suc}
use Rattle.route_wire.specs.declared.update.Register.{Register}
use Rattle.route_wire.specs.declared.update.Advert.{Advert}
use Rattle.route_wire.specs.declared.update.Value.{Value}
use Rattle.route_wire.specs.Fields.{Fields}
use Rattle.route_wire.specs.Order.{register_cmp, is_newer}
use Rattle.route_wire.specs.declared.update.Key.TheVariants.{Flood}
use Rattle.route_wire.specs.declared.update.Content.TheVariants.{Withdrawn}
use Rattle.route_join.specs.declared.table.Taken.TheVariants.{Newer, Known}
use Rattle.route_wire.specs.Inner.Totals.{register_total}
use Rattle.route_join.specs.Table.{entries_of, IsOrdered}
use Rattle.route_join.specs.Owner.{advert_in, advert_of, is_better_by}
use Rattle.route_join.specs.Inner.Group.{told, Leads, HasWinner, candidate_at, wins, better_place, leader_of, said_at}
use Rattle.route_join.specs.Inner.Group.{stays_best, moved, update_among, Takes}
use Rattle.route_join.proofs.Tables.{itself_register, other_register}
use Rattle.route_join.proofs.Places.{IsPlace, IsGap}
use Rattle.route_join.proofs.Edits.{ordered_put}
use Rattle.route_join.proofs.Owners.{IsBest, IsApart, was_silent, won, lost, find_last, find_before, fresh, as_good_at}
use Rattle.route_join.proofs.Within.{by_place}
use Rattle.route_join.proofs.WinnerTrees.{set_here, set_there}
use Rattle.std.proofs.lemmas.Map.Lookups.{exact_unsigned}

-- ---- one update more may win
module _ (us : List Fields) (says after : Register → Option Advert) (at : ℕ) (u : Fields)
    (stands : slice_get us at ≡ Some u) (same : after u.register ≡ advert_in u.value.content)
    (others : (q : Register) → q ≢ u.register → after q ≡ says q) where
  leader : (w : Option ℕ) → HasWinner us says w → IsBest says (leader_of us w)
  leader None h = h
  leader (Some i) l = rw (l.stands, l.advertises) record { own = l.own; best = l.best }

  still_leads : (w : Option ℕ) → HasWinner us says w → IsBest after (leader_of us w) → HasWinner us after w
  still_leads None h top = top
  still_leads (Some i) l top = let best = rw (l.stands, l.advertises) at top in record {
    update = l.update;
    stands = l.stands;
    advert = l.advert;
    advertises = l.advertises;
    own = best.own;
    best = best.best;
  }

  pub next_winner : (w : Option ℕ) → HasWinner us says w → IsApart u.register (leader_of us w)
      → HasWinner us after (better_place us at w)
  next_winner w h apart = go (wins (candidate_at us at) (leader_of us w)) refl
    where
      go : (b : Bool) → wins (candidate_at us at) (leader_of us w) ≡ b → HasWinner us after (cond b (Some at) w)
      go true t =
          let top =
          won says after u.register others (leader_of us w) (leader w h) (rw (stands, ← same) at t) in record {
            update = u;
            stands = stands;
            advert = top.0;
            advertises = sym same ∙ top.1.own;
            own = top.1.own;
            best = top.1.best;
          }
      go false t = still_leads w h (lost says after u.register others (leader_of us w) (leader w h) apart
          (rw (stands, ← same) at t))

  -- the update's register was new
  pub next_new : (w : Option ℕ) → HasWinner us says w → says u.register ≡ None
      → HasWinner us after (better_place us at w)
  next_new w h none = next_winner w h (was_silent says u.register (leader_of us w) (leader w h) none)

-- ---- the winner among the first updates, and one more
module _ (us : List Fields) (at : ℕ) (s : IsOrdered us) (h : at < length us) (d : Fields) where
  abbrev entry : Register × Value
  entry = ((get_or us at d).register, (get_or us at d).value)

  pub first_more : entries_of (take (at + 1) us) ≡ entries_of (take at us) ++ entry ∷ []
  first_more = rw (add-one, take-suc us at d h, map-append)

  pub split : entries_of (take at us) ++ entry ∷ entries_of (drop (suc at) us) ≡ entries_of us
  split = rw (map-append, drop-cons us at d h) at (ap entries_of (take-append-drop at us))

  pub not_yet : find register_cmp (get_or us at d).register (entries_of (take at us)) ≡ None
  not_yet = fresh (entries_of (take at us)) (entries_of (drop (suc at) us)) entry (rw split s)

  pub winner_more : (w : Option ℕ) → HasWinner us (told (take at us)) w
      → HasWinner us (told (take (at + 1) us)) (better_place us at w)
  winner_more w k =
      next_new us (told (take at us)) (told (take (at + 1) us)) at (get_or us at d) (slice_get-get_or us at d h)
      (rw (first_more, find_last (entries_of (take at us)) entry not_yet))
      (λ q ne. rw (first_more, find_before (entries_of (take at us)) entry not_yet q ne))
      w k (ap advert_of not_yet)

-- ---- updates in order have different places
one_place : (us : List Fields) (i j : ℕ) (x y : Fields) → IsOrdered us → slice_get us i ≡ Some x
    → slice_get us j ≡ Some y → x.register ≡ y.register → i ≡ j
one_place us i j x y s p q same = exact_unsigned i j (by_place us i j x y s p q
    ∙ rw same (tied_itself register_total y.register))

-- ---- the adverts after a put
module _ (us new : List Fields) (u : Fields) (e : entries_of new
    ≡ put register_cmp u.register u.value (entries_of us)) where
  told_same : told new u.register ≡ advert_in u.value.content
  told_same = rw (e, find-put register_cmp register_total, itself_register)

  told_other : (q : Register) → q ≢ u.register → told new q ≡ told us q
  told_other q ne = rw (e, find-put register_cmp register_total, other_register q u.register ne)

  next_put : (at : ℕ) → slice_get new at ≡ Some u → (w : Option ℕ) → HasWinner new (told us) w
      → IsApart u.register (leader_of new w) → HasWinner new (told new) (better_place new at w)
  next_put at here = next_winner new (told us) (told new) at u here told_same told_other

-- ---- a newer update at a place that isn't the winner's
leads_at : {us vs : List Fields} {says : Register → Option Advert} {i j : ℕ} (l : Leads us says i)
    → slice_get vs j ≡ Some l.update → Leads vs says j
leads_at l stands = record {
  update = l.update;
  stands = stands;
  advert = l.advert;
  advertises = l.advertises;
  own = l.own;
  best = l.best;
}

pub winner_set : (us : List Fields) (at : ℕ) (u : Fields) (w : Option ℕ) → IsOrdered us → IsPlace us u.register at
    → HasWinner us (told us) w → w ≢ Some at
    → HasWinner (set us at u) (told (set us at u)) (better_place (set us at u) at w)
winner_set us at u None s p h ne =
    next_put us (set us at u) u (p.write u refl) at (set_here us at u p.within) None h (λ c is same. cc)
winner_set us at u (Some i) s p l ne =
    let new = set us at u in
    let e = p.write u refl in
    let here = set_here us at u p.within in
    let there = set_there us at i u (λ e. ne (ap Some e)) ∙ l.stands in
    next_put us new u e at here (Some i) (leads_at l there) (λ c is same. ne (ap Some
    (one_place new i at l.update u (ordered_put [] us new u s e) there here
    (cc (rw (there, l.advertises) at is, same)))))

-- ---- a newer update at the winner's place with an advert that is no worse
told_no_worse : (was now : Option Advert) → stays_best was now ≡ true → (a : Advert) → was ≡ Some a
    → (n : Advert) × (now ≡ Some n) × (is_better_by a.is_static n.is_static a.sequence n.sequence Equal ≡ false)
told_no_worse was now t a is = grind arith

pub winner_stays : (us : List Fields) (at : ℕ) (u : Fields) → IsPlace us u.register at
    → HasWinner us (told us) (Some at) → stays_best (said_at us at) (advert_in u.value.content) ≡ true
    → HasWinner (set us at u) (told (set us at u)) (Some at)
winner_stays us at u p l t =
    let new = set us at u in
    let w = p.write u refl in
    let named = rw (get_or_from_slice_get us at l.update l.update l.stands) at (p.register l.update) in
    let now = told_no_worse (said_at us at) (advert_in u.value.content) t l.advert (rw l.stands l.advertises) in
    record {
      update = u;
      stands = set_here us at u p.within;
      advert = now.0;
      advertises = now.1;
      own = told_same us new u w ∙ now.1;
      best = λ q b ne is. as_good_at Equal (register_cmp u.register q) l.advert now.0 b now.2 (rw named at
          (l.best q b (λ s. ne (s ∙ named)) (sym (told_other us new u w q ne) ∙ is)));
    }

-- ---- a new update at a gap
stands_inserted : (us : List Fields) (at : ℕ) (u : Fields) → at ≤ length us → slice_get (insert us at u) at ≡ Some u
stands_inserted us at u h = slice_get_read (insert us at u) (length us + 1) at u (sym (length-insert us at u h))
    (omega arith) (sym (get_or-insert_at us at u u h))

moved_stands : (us : List Fields) (at i : ℕ) (u x : Fields) → at ≤ length us → slice_get us i ≡ Some x
    → slice_get (insert us at u) (cond (nat_le at i) (i + 1) i) ≡ Some x
moved_stands us at i u x l h =
    let within = slice_get_within us i x h in
    let value = get_or_from_slice_get us i x x h in
    slice_get_read (insert us at u) (length us + 1) (cond (nat_le at i) (i + 1) i) x (sym (length-insert us at u l))
    (grind (arith, nat_tests)) (grind (arith, nat_tests, get_or-insert_below, get_or-insert_above))

winner_moved : (us : List Fields) (at : ℕ) (u : Fields) (w : Option ℕ) → at ≤ length us → HasWinner us (told us) w
    → HasWinner (insert us at u) (told us) (moved at w)
winner_moved us at u None l h = h
winner_moved us at u (Some i) l h = leads_at h (moved_stands us at i u h.update l h.stands)

pub winner_inserted : (us : List Fields) (at : ℕ) (u : Fields) (w : Option ℕ) → IsGap us u.register at
    → HasWinner us (told us) w
    → HasWinner (insert us at u) (told (insert us at u)) (better_place (insert us at u) at (moved at w))
winner_inserted us at u w p h =
    let new = insert us at u in
    let e = p.write u refl in
    next_new new (told us) (told new) at u (stands_inserted us at u p.within) (told_same us new u e)
    (told_other us new u e) (moved at w) (winner_moved us at u w p.within h) (ap advert_of p.value)

-- ---- an update at a place, or none
pub among_there : (us : List Fields) (q : Register) (at : ℕ) (v : Fields) → IsPlace us q at → v ≡ get_or us at v
    → Some v ≡ update_among us q
among_there us q at v p e =
    let named : v.register ≡ q = rw (← e) at (p.register v) in
    rw (p.value v, ← e, ← named)

pub among_none : (us : List Fields) (q : Register) (at : ℕ) → IsGap us q at → None ≡ update_among us q
among_none us q at p = rw p.value

-- a winner among this few updates can be moved
pub winner_movable : (us : List Fields) (says : Register → Option Advert) (w : Option ℕ) → HasWinner us says w
    → length us < 2 ^ 63 → IfSome w (λ i. i + 1 < 2 ^ 64)
winner_movable us says None h l = tt
winner_movable us says (Some i) k l = omega (arith, slice_get_within us i k.update k.stands)

-- some update, for definitions that need one
pub some_update : Fields
some_update = record {
  register = record { originator = 0; key = Flood 0 };
  value = record { incarnation = 0; counter = 0; content = Withdrawn };
}

-- ---- the effect of an update on a group
module _ (us : List Fields) (u : Fields) {v : Value} (there : find register_cmp u.register (entries_of us) ≡ Some v)
    {b : Bool} (n : b ≡ is_newer u.value v) (held : ℕ) where
  pub known_takes : b ≡ false → Takes (entries_of us) u held (Ok Known) (entries_of us) held
  known_takes t = grind arith

  pub newer_takes : (new : List Fields) → entries_of new ≡ put register_cmp u.register u.value (entries_of us)
      → b ≡ true → Takes (entries_of us) u held (Ok Newer) (entries_of new) held
  newer_takes new w t = grind arith

module _ {es : List (Register × Value)} {u : Fields} (none : find register_cmp u.register es ≡ None) {held : ℕ} where
  pub new_takes : {new : List (Register × Value)} → new ≡ put register_cmp u.register u.value es
      → {more : ℕ} → more ≡ held + 1 → more < 2 ^ 64 → Takes es u held (Ok Newer) new more
  new_takes w one few = grind arith

  pub refused_takes : {x : AllocError} {new : List (Register × Value)} → Takes es u held (Err x) new held
  refused_takes = grind arith

-- a fact that holds if a call succeeded
pub on_ok : {X E : Type 0} (r : Result X E) (P : Type 0) → OnOk r P → is_err r ≡ false → P
on_ok (Ok x) P p e = p
on_ok (Err x) P p e = cc
