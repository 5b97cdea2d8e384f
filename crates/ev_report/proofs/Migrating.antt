-- The walk over a table's updates makes the migration of the set that the table is of.
use Rattle.std.proofs.Common.{◌≡◌, ◌⊎◌, inl, inr, ℕ, zero, suc, ◌≤◌, ◌<◌, Bool, true, false, cond, ◌&&◌, ◌==◌, List, []}
use Rattle.std.proofs.Common.{◌∷◌, length, drop, Contains, nat_cmp, refl, sym, ap, subst, ◌∙◌, arith}
use Rattle.std.specs.Prelude.{slice_index_or}
use Rattle.std.proofs.lemmas.Bool.Decides.{nat_tests}
use Rattle.std.proofs.lemmas.Cmp.{on_total, then_total, ranked}
use Rattle.std.specs.declared.cmp.Ordering.{Ordering}
use Rattle.std.specs.declared.cmp.Ordering.TheVariants.{Less, Equal, Greater}
use Rattle.std.specs.Cmp.{IsTotalOrder, nat_cmp_total, tied_itself, both_ways}
use Rattle.std.specs.Cmp.Lexicographic.{options_total}
use Rattle.std.specs.Ordering.{ordering_then, ordering_reverse, is_lt, is_eq}
use Rattle.std.specs.FinMap.Entries.{is_sorted, below_all}
use Rattle.route_wire.specs.declared.update.Key.{Key}
use Rattle.route_wire.specs.declared.update.Key.TheVariants.{Flood, Mac}
use Rattle.route_wire.specs.declared.update.Register.{Register}
use Rattle.route_wire.specs.declared.update.Value.{Value}
use Rattle.route_wire.specs.Fields.{Fields}
use Rattle.route_wire.specs.Order.{ip_cmp, ip_of, vni_of, place_of, rank_of, sequence_of, label2_of, is_newer}
use Rattle.route_wire.specs.Order.{register_cmp}
use Rattle.route_wire.specs.Inner.Totals.{ip_total}
use Rattle.route_join.specs.Table.{Table, IsOrdered, IsTableOf, entries_of}
use Rattle.route_join.specs.Updates.{all_updates, AreAllUpdates}
use Rattle.route_join.proofs.Orders.{less}
use Rattle.route_join.proofs.Tables.{same_register}
use Rattle.route_join.proofs.Abouts.{all_updates_are}
use Rattle.ev_report.specs.Ends.{Devices, Passes}
use Rattle.ev_report.specs.Report.{taken_of}
use Rattle.ev_report.specs.Migrations.{migration, Migrates}
use Rattle.ev_report.proofs.Finishing.{passed_renders}
use Rattle.ev_report.specs.Migrated.{is_same_subject, is_same_old, old_cmp, is_newer_old, IsNewest, withdrawn_for}
use Rattle.ev_report.specs.Migrated.{migrated_at, AreMigrated, newer_old, newest_along, entering}
use Rattle.ev_report.specs.Inner.Migrated.{behind}
use Rattle.ev_report.specs.Migrated.{migrated_along, migrated_all, migrated_of}
use Rattle.std.proofs.lemmas.Bool.{and_parts as both}
use Rattle.route_join.proofs.Basics.{first_there as at_first}
use Rattle.ev_report.specs.declared.status.Status.{Status}

-- ---- old registers

-- what two registers of an old one share
pub record Shares (r q : Register) : Type 0 where
  pub originator : r.originator ≡ q.originator
  pub vni : vni_of r.key ≡ vni_of q.key
  pub place : place_of r.key ≡ place_of q.key

same_subject_is : (k l : Key) → is_same_subject k l ≡ true → (vni_of k ≡ vni_of l) × (place_of k ≡ place_of l)
same_subject_is (Flood v) (Flood w) e = (grind (arith, nat_tests), refl)
same_subject_is (Flood v) (Mac w n j) e = cc
same_subject_is (Mac v m i) (Flood w) e = cc
same_subject_is (Mac v m i) (Mac w n j) e =
    let p = both (v == w) (m == n) e in
    let a = p.0 in
    let b = p.1 in
    (grind (arith, nat_tests), grind (arith, nat_tests))

same_subject_from : (k l : Key) → vni_of k ≡ vni_of l → place_of k ≡ place_of l → is_same_subject k l ≡ true
same_subject_from (Flood v) (Flood w) a b = grind (arith, nat_tests)
same_subject_from (Flood v) (Mac w n j) a b = absurd (omega arith)
same_subject_from (Mac v m i) (Flood w) a b = absurd (omega arith)
same_subject_from (Mac v m i) (Mac w n j) a b = grind (arith, nat_tests)

pub shares : (r q : Register) → is_same_old r q ≡ true → Shares r q
shares r q e =
    let p = both (r.originator == q.originator) (is_same_subject r.key q.key) e in
    let o = p.0 in
    let s = same_subject_is r.key q.key p.1 in
    record { originator = grind (arith, nat_tests); vni = s.0; place = s.1 }

pub shared : (r q : Register) → Shares r q → is_same_old r q ≡ true
shared r q s = let o = s.originator in let e : (r.originator == q.originator) ≡ true = grind (arith, nat_tests) in
    ap (λ b. b && is_same_subject r.key q.key) e ∙ same_subject_from r.key q.key s.vni s.place

pub same_itself : (r : Register) → is_same_old r r ≡ true
same_itself r = shared r r (record { originator = refl; vni = refl; place = refl })

pub same_back : (r q : Register) → is_same_old r q ≡ true → is_same_old q r ≡ true
same_back r q e = let s = shares r q e in shared q r (record {
  originator = sym s.originator;
  vni = sym s.vni;
  place = sym s.place;
})

pub same_on : (r q p : Register) → is_same_old r q ≡ true → is_same_old q p ≡ true → is_same_old r p ≡ true
same_on r q p e f =
    let s = shares r q e in
    let t = shares q p f in
    shared r p (record { originator = s.originator ∙ t.originator; vni = s.vni ∙ t.vni; place = s.place ∙ t.place })

-- registers of an old one are the same to all others
pub same_left : (r q p : Register) → is_same_old r q ≡ true → is_same_old r p ≡ is_same_old q p
same_left r q p e = both_ways (is_same_old r p) (is_same_old q p) (same_on q r p (same_back r q e)) (same_on r q p e)

-- in the order of a report the registers of an old one stand side by side
lex_less : (m n : ℕ) (o : Ordering) → ordering_then (nat_cmp m n) o ≡ Less → (m ≤ n) × (m ≡ n → o ≡ Less)
lex_less m n o e = go (nat_cmp m n) refl e
  where
    go : (x : Ordering) → nat_cmp m n ≡ x → ordering_then x o ≡ Less → (m ≤ n) × (m ≡ n → o ≡ Less)
    go Less p h = let l = ranked m n Less (sym p) in (omega arith, λ s. absurd (omega arith))
    go Equal p h = let l = ranked m n Equal (sym p) in (omega arith, λ s. h)
    go Greater p h = cc

pub between : (a b c : Register) → register_cmp a b ≡ Less → register_cmp b c ≡ Less → is_same_old a c ≡ true
    → is_same_old a b ≡ true
between a b c e f h =
    let s = shares a c h in
    let sv = s.vni in
    let sp = s.place in
    let so = s.originator in
    let ab = lex_less (vni_of a.key) (vni_of b.key) _ e in
    let bc = lex_less (vni_of b.key) (vni_of c.key) _ f in
    let ab0 = ab.0 in
    let bc0 = bc.0 in
    let v : vni_of a.key ≡ vni_of b.key = omega arith in
    let w : vni_of b.key ≡ vni_of c.key = omega arith in
    let ab1 = lex_less (place_of a.key) (place_of b.key) _ (ab.1 v) in
    let bc1 = lex_less (place_of b.key) (place_of c.key) _ (bc.1 w) in
    let ab10 = ab1.0 in
    let bc10 = bc1.0 in
    let p : place_of a.key ≡ place_of b.key = omega arith in
    let q : place_of b.key ≡ place_of c.key = omega arith in
    let ab2 = lex_less a.originator b.originator _ (ab1.1 p) in
    let bc2 = lex_less b.originator c.originator _ (bc1.1 q) in
    let ab20 = ab2.0 in
    let bc20 = bc2.0 in
    shared a b (record { originator = omega arith; vni = v; place = p })

-- ---- the order of updates of an old register

pub old_total : IsTotalOrder old_cmp
old_total =
    then_total (on_total (λ (u : Fields). u.value.incarnation) nat_cmp_total)
    (then_total (on_total (λ (u : Fields). u.value.counter) nat_cmp_total)
    (then_total (on_total (λ (u : Fields). rank_of u.value.content) nat_cmp_total)
    (then_total (on_total (λ (u : Fields). sequence_of u.value.content) nat_cmp_total)
    (then_total (on_total (λ (u : Fields). ip_of u.register.key) ip_total)
    (on_total (λ (u : Fields). label2_of u.value.content) (options_total nat_cmp_total))))))

pub newest_on : (u v w : Fields) → is_newer_old u v ≡ false → is_newer_old v w ≡ false → is_newer_old u w ≡ false
newest_on u v w e f = go (old_cmp w v) refl (is_lt (old_cmp w u)) refl
  where
    go : (x : Ordering) → old_cmp w v ≡ x → (b : Bool) → is_lt (old_cmp w u) ≡ b → is_lt (old_cmp w u) ≡ false
    go x p false q = q
    go Less p true q = let g = ap is_lt p in cc
    go Equal p true q = let g = ap is_lt (old_total.congr w v u p) in cc
    go Greater p true q =
        let back : old_cmp v w ≡ Less = old_total.antisymm v w ∙ ap ordering_reverse p in
        let g = ap is_lt (old_total.trans v w u back (less (old_cmp w u) q)) in
        cc

pub newer_not_back : (u v : Fields) → is_newer_old u v ≡ true → is_newer_old v u ≡ false
newer_not_back u v e = ap is_lt (old_total.antisymm u v ∙ ap ordering_reverse (less (old_cmp v u) e))

pub not_newer_itself : (u : Fields) → is_newer_old u u ≡ false
not_newer_itself u = ap is_lt (tied_itself old_total u)

-- ---- where an old register ends, which depends on nothing but the old register

newer_same : (best u : Fields) → is_same_old best.register u.register ≡ true
    → is_same_old best.register (newer_old best u).register ≡ true
newer_same best u e = go (is_newer_old u best)
  where
    go : (b : Bool) → is_same_old best.register (cond b u best).register ≡ true
    go true = e
    go false = same_itself best.register

newest_same : (best : Fields) (us : List Fields) → is_same_old best.register (newest_along best us).register ≡ true
newest_same best [] = same_itself best.register
newest_same best (u ∷ us) = go (newest_same (newer_old best u) us) (is_same_old best.register u.register) refl
  where
    go : is_same_old (newer_old best u).register (newest_along (newer_old best u) us).register ≡ true → (b : Bool)
        → is_same_old best.register u.register ≡ b → is_same_old best.register
        (cond b (newest_along (newer_old best u) us) best).register ≡ true
    go rest true e = same_on best.register (newer_old best u).register (newest_along (newer_old best u) us).register
        (newer_same best u e) rest
    go rest false e = same_itself best.register

behind_same : (a b : Fields) (us : List Fields) → is_same_old a.register b.register ≡ true → behind a us ≡ behind b us
behind_same a b [] e = refl
behind_same a b (u ∷ us) e = go (behind_same (newer_old a u) (newer_old b u) us) (is_same_old a.register u.register)
    refl
  where
    go : (is_same_old (newer_old a u).register (newer_old b u).register ≡ true
        → behind (newer_old a u) us ≡ behind (newer_old b u) us) → (x : Bool) → is_same_old a.register u.register ≡ x
        → behind a (u ∷ us) ≡ behind b (u ∷ us)
    go rest true h =
        let k : is_same_old b.register u.register ≡ true = sym (same_left a.register b.register u.register e) ∙ h in
        ap (λ x. cond x (behind (newer_old a u) us) (u ∷ us)) h
        ∙ rest
        (same_on (newer_old a u).register a.register (newer_old b u).register
        (same_back a.register (newer_old a u).register (newer_same a u h))
        (same_on a.register b.register (newer_old b u).register e (newer_same b u k)))
        ∙ ap (λ x. cond x (behind (newer_old b u) us) (u ∷ us)) (sym k)
    go rest false h =
        let k : is_same_old b.register u.register ≡ false = sym (same_left a.register b.register u.register e) ∙ h in
        ap (λ x. cond x (behind (newer_old a u) us) (u ∷ us)) h
        ∙ ap (λ x. cond x (behind (newer_old b u) us) (u ∷ us)) (sym k)

behind_itself : (u : Fields) (us : List Fields) → behind u (u ∷ us) ≡ behind u us
behind_itself u us = ap (λ x. cond x (behind (newer_old u u) us) (u ∷ us)) (same_itself u.register)
    ∙ behind_same (newer_old u u) u us (same_back u.register (newer_old u u).register
    (newer_same u u (same_itself u.register)))

pub behind_first : (u : Fields) (us : List Fields) → behind (newest_along u us) (u ∷ us) ≡ behind u us
behind_first u us = behind_same (newest_along u us) u (u ∷ us)
    (same_back u.register (newest_along u us).register (newest_same u us)) ∙ behind_itself u us

-- the leading iterator when the following one advances by an update
pub entered_is : (newest u n : Fields) (us ahead ahead' : List Fields) → ahead ≡ drop 1 (behind newest (u ∷ us))
    → (is_same_old newest.register u.register ≡ true → (n ≡ newest) × (ahead' ≡ ahead))
    → (is_same_old newest.register u.register ≡ false → (n ≡ newest_along u ahead) × (ahead' ≡ drop 1 (behind u ahead)))
    → (n ≡ entering newest u us) × (ahead' ≡ drop 1 (behind n us))
entered_is newest u n us ahead ahead' is same other = go (is_same_old newest.register u.register) refl
  where
    go : (b : Bool) → is_same_old newest.register u.register ≡ b
        → (n ≡ entering newest u us) × (ahead' ≡ drop 1 (behind n us))
    go true e =
        let h = same e in
        let on : behind newest (u ∷ us) ≡ behind newest us =
        ap (λ x. cond x (behind (newer_old newest u) us) (u ∷ us)) e
        ∙ behind_same (newer_old newest u) newest us
        (same_back newest.register (newer_old newest u).register (newer_same newest u e)) in (
          h.0 ∙ ap (λ x. cond x newest (newest_along u us)) (sym e),
          h.1 ∙ is ∙ ap (drop 1) on ∙ ap (λ (x : Fields). drop 1 (behind x us)) (sym h.0),
        )
    go false e =
        let h = other e in
        let rest : ahead ≡ us = is ∙ ap (λ x. drop 1 (cond x (behind (newer_old newest u) us) (u ∷ us))) e in
        let first : n ≡ newest_along u us = h.0 ∙ ap (newest_along u) rest in (
          first ∙ ap (λ x. cond x newest (newest_along u us)) (sym e),
          h.1 ∙ ap (λ x. drop 1 (behind u x)) rest ∙ ap (drop 1)
              (behind_same u (newest_along u us) us (newest_same u us))
              ∙ ap (λ (x : Fields). drop 1 (behind x us)) (sym first),
        )

-- ---- lists in order

-- each of them comes after the register
abbrev Above : Register → List Fields → Type 0
Above r [] = Unit {0}
Above r (u ∷ us) = (register_cmp r u.register ≡ Less) × Above r us

abbrev Rising : List Fields → Type 0
Rising [] = Unit {0}
Rising (u ∷ us) = Above u.register us × Rising us

above_is : (r : Register) (us : List Fields) → below_all register_cmp r (entries_of us) ≡ true → Above r us
above_is r [] e = tt
above_is r (u ∷ us) e = let p = both (is_lt (register_cmp r u.register)) (below_all register_cmp r (entries_of us)) e in
    (less (register_cmp r u.register) p.0, above_is r us p.1)

rising_is : (us : List Fields) → IsOrdered us → Rising us
rising_is [] e = tt
rising_is (u ∷ us) e = let p = both (below_all register_cmp u.register (entries_of us))
    (is_sorted register_cmp (entries_of us)) e in (above_is u.register us p.0, rising_is us p.1)

-- none of them is of r's old register
abbrev Apart : Register → List Fields → Type 0
Apart r [] = Unit {0}
Apart r (u ∷ us) = (is_same_old r u.register ≡ false) × Apart r us

-- those of r's old register come first
abbrev Side : Register → List Fields → Type 0
Side r [] = Unit {0}
Side r (u ∷ us) = (is_same_old r u.register ≡ true → Side r us) × (is_same_old r u.register ≡ false → Apart r us)

apart_above : (r q : Register) (us : List Fields) → register_cmp r q ≡ Less → is_same_old r q ≡ false → Above q us
    → Apart r us
apart_above r q [] l n a = tt
apart_above r q (u ∷ us) l n a = (go (is_same_old r u.register) refl, apart_above r q us l n a.1)
  where
    go : (b : Bool) → is_same_old r u.register ≡ b → is_same_old r u.register ≡ false
    go true e = let t = between r q u.register l a.0 e in cc
    go false e = e

side_above : (r : Register) (us : List Fields) → Above r us → Rising us → Side r us
side_above r [] a s = tt
side_above r (u ∷ us) a s = (λ e. side_above r us a.1 s.1, λ e. apart_above r u.register us a.0 e s.0)

apart_same : (r q : Register) (us : List Fields) → is_same_old r q ≡ true → Apart r us → Apart q us
apart_same r q [] e a = tt
apart_same r q (u ∷ us) e a = (sym (same_left r q u.register e) ∙ a.0, apart_same r q us e a.1)

side_same : (r q : Register) (us : List Fields) → is_same_old r q ≡ true → Side r us → Side q us
side_same r q [] e s = tt
side_same r q (u ∷ us) e s = (
  λ t. side_same r q us e (s.0 (same_left r q u.register e ∙ t)),
  λ t. apart_same r q us e (s.1 (same_left r q u.register e ∙ t)),
)

-- an element of a list with a first element
first_or_rest : (u : Fields) (us : List Fields) (w : Fields) → Contains (u ∷ us) w → (u ≡ w) ⊎ Contains us w
first_or_rest u us w c = go c.0 c.1 c.2
  where
    go : (k : ℕ) → k < length (u ∷ us) → slice_index_or (u ∷ us) k w ≡ w → (u ≡ w) ⊎ Contains us w
    go zero l e = inl e
    go (suc k) l e = inr (k, omega (arith, l), e)

in_rest : (u : Fields) (us : List Fields) (w : Fields) → Contains us w → Contains (u ∷ us) w
in_rest u us w c = (suc c.0, omega (arith, c.1), c.2)

apart_none : (r : Register) (us : List Fields) (w : Fields) → Apart r us → Contains us w
    → is_same_old r w.register ≡ false
apart_none r [] w a c = absurd (omega (arith, c.1))
apart_none r (u ∷ us) w a c = go (apart_none r us w a.1) (first_or_rest u us w c)
  where
    go : (Contains us w → is_same_old r w.register ≡ false) → (u ≡ w) ⊎ Contains us w → is_same_old r w.register ≡ false
    go rest (inl e) = ap (λ (x : Fields). is_same_old r x.register) (sym e) ∙ a.0
    go rest (inr h) = rest h

-- ---- the newest of an old register

-- n is the newest of `best` and the later updates of its old register
record Leads (best : Fields) (us : List Fields) (n : Fields) : Type 0 where
  own : (n ≡ best) ⊎ Contains us n
  same : is_same_old best.register n.register ≡ true
  first : is_newer_old best n ≡ false
  newest : (w : Fields) → Contains us w → is_same_old best.register w.register ≡ true → is_newer_old w n ≡ false

leads_alone : (best : Fields) (us : List Fields) → Apart best.register us → Leads best us best
leads_alone best us a = record {
  own = inl refl;
  same = same_itself best.register;
  first = not_newer_itself best;
  newest = λ w c e. let n = apart_none best.register us w a c in cc;
}

leads_over : (best u : Fields) (us : List Fields) (n : Fields) → is_same_old best.register u.register ≡ true
    → is_newer_old u best ≡ true → Leads u us n → Leads best (u ∷ us) n
leads_over best u us n s e l = record {
  own = inr (go l.own);
  same = same_on best.register u.register n.register s l.same;
  first = newest_on best u n (newer_not_back u best e) l.first;
  newest = λ w c t. those w t (first_or_rest u us w c);
}
  where
    go : (n ≡ u) ⊎ Contains us n → Contains (u ∷ us) n
    go (inl h) = subst (Contains (u ∷ us)) (sym h) (at_first u us)
    go (inr c) = in_rest u us n c

    those : (w : Fields) → is_same_old best.register w.register ≡ true → (u ≡ w) ⊎ Contains us w
        → is_newer_old w n ≡ false
    those w t (inl h) = ap (λ x. is_newer_old x n) (sym h) ∙ l.first
    those w t (inr c) = l.newest w c (sym (same_left best.register u.register w.register s) ∙ t)

leads_still : (best u : Fields) (us : List Fields) (n : Fields) → is_newer_old u best ≡ false → Leads best us n
    → Leads best (u ∷ us) n
leads_still best u us n e l = record {
  own = go l.own;
  same = l.same;
  first = l.first;
  newest = λ w c t. those w t (first_or_rest u us w c);
}
  where
    go : (n ≡ best) ⊎ Contains us n → (n ≡ best) ⊎ Contains (u ∷ us) n
    go (inl h) = inl h
    go (inr c) = inr (in_rest u us n c)

    those : (w : Fields) → is_same_old best.register w.register ≡ true → (u ≡ w) ⊎ Contains us w
        → is_newer_old w n ≡ false
    those w t (inl h) = ap (λ x. is_newer_old x n) (sym h) ∙ newest_on u best n e l.first
    those w t (inr c) = l.newest w c t

newest_leads : (best : Fields) (us : List Fields) → Side best.register us → Leads best us (newest_along best us)
newest_leads best [] s = leads_alone best [] tt
newest_leads best (u ∷ us) s = go (λ b. newest_leads b us) (is_same_old best.register u.register) refl
    (is_newer_old u best) refl
  where
    go : ((b : Fields) → Side b.register us → Leads b us (newest_along b us)) → (b : Bool)
        → is_same_old best.register u.register ≡ b → (c : Bool) → is_newer_old u best ≡ c
        → Leads best (u ∷ us) (cond b (newest_along (cond c u best) us) best)
    go rest false e c f = leads_alone best (u ∷ us) (e, s.1 e)
    go rest true e true f = leads_over best u us (newest_along u us) e f
        (rest u (side_same best.register u.register us e (s.0 e)))
    go rest true e false f = leads_still best u us (newest_along best us) f (rest best (s.0 e))

-- ---- the walk

module _ (all : List Fields) where
  -- the result for each, one after the other
  abbrev pub Each : List Fields → List Fields → Type 0
  Each [] [] = Unit {0}
  Each [] (w ∷ ws) = ⊥
  Each (u ∷ us) [] = ⊥
  Each (u ∷ us) (w ∷ ws) = ((n : Fields) × IsNewest all u.register n × (w ≡ migrated_at n u.register)) × Each us ws

  -- how far the walk is
  record Walks (best : Fields) (us : List Fields) : Type 0 where
    best_is : (u : Fields) → Contains us u → is_same_old best.register u.register ≡ true → IsNewest all u.register best
    among : (u : Fields) → Contains us u → Contains all u
    whole : (w u : Fields) → Contains all w → Contains us u → is_same_old best.register u.register ≡ false
        → is_same_old w.register u.register ≡ true → Contains us w
    side : Side best.register us
    rising : Rising us

  -- goes on behind an update of the same old register
  goes_on : (best u : Fields) (us : List Fields) → Walks best (u ∷ us) → is_same_old best.register u.register ≡ true
      → Walks best us
  goes_on best u us h e = record {
    best_is = λ x c s. h.best_is x (in_rest u us x c) s;
    among = λ x c. h.among x (in_rest u us x c);
    whole = λ w x d c n s. there w x n s (first_or_rest u us w (h.whole w x d (in_rest u us x c) n s));
    side = h.side.0 e;
    rising = h.rising.1;
  }
    where
      there : (w x : Fields) → is_same_old best.register x.register ≡ false → is_same_old w.register x.register ≡ true
          → (u ≡ w) ⊎ Contains us w → Contains us w
      there w x n s (inr c) = c
      there w x n s (inl p) = let t = same_on best.register u.register x.register e
          (subst (λ (y : Fields). is_same_old y.register x.register ≡ true) (sym p) s) in
          absurd (let no : true ≡ false = sym t ∙ n in cc)

  -- enters the next old register
  entered : (best u : Fields) (us : List Fields) → Walks best (u ∷ us) → is_same_old best.register u.register ≡ false
      → IsNewest all u.register (newest_along u us)
  entered best u us h e = record {
    own = go l.own;
    same = same_back u.register (newest_along u us).register l.same;
    newest = λ w d s. those w s (first_or_rest u us w (h.whole w u d (at_first u us) e s));
  }
    where
      l : Leads u us (newest_along u us)
      l = newest_leads u us (side_above u.register us h.rising.0 h.rising.1)

      go : (newest_along u us ≡ u) ⊎ Contains us (newest_along u us) → Contains all (newest_along u us)
      go (inl p) = h.among (newest_along u us) (subst (Contains (u ∷ us)) (sym p) (at_first u us))
      go (inr c) = h.among (newest_along u us) (in_rest u us (newest_along u us) c)

      those : (w : Fields) → is_same_old w.register u.register ≡ true → (u ≡ w) ⊎ Contains us w
          → is_newer_old w (newest_along u us) ≡ false
      those w s (inl p) = ap (λ x. is_newer_old x (newest_along u us)) (sym p) ∙ l.first
      those w s (inr c) = l.newest w c (same_back w.register u.register s)

  enters : (best u : Fields) (us : List Fields) → Walks best (u ∷ us) → is_same_old best.register u.register ≡ false
      → Walks (newest_along u us) us
  enters best u us h e = record {
    best_is = λ x c s. record {
      own = i.own;
      same = s;
      newest =
          λ w d t. i.newest w d (same_on w.register x.register u.register t
          (same_on x.register n.register u.register (same_back n.register x.register s) i.same));
    };
    among = λ x c. h.among x (in_rest u us x c);
    whole = λ w x d c m s. there w x c m s (first_or_rest u us w
        (h.whole w x d (in_rest u us x c) (apart_none best.register us x (h.side.1 e) c) s));
    side = side_same u.register n.register us (same_back n.register u.register i.same)
        (side_above u.register us h.rising.0 h.rising.1);
    rising = h.rising.1;
  }
    where
      n : Fields
      n = newest_along u us

      i : IsNewest all u.register n
      i = entered best u us h e

      there : (w x : Fields) → Contains us x → is_same_old n.register x.register ≡ false
          → is_same_old w.register x.register ≡ true → (u ≡ w) ⊎ Contains us w → Contains us w
      there w x c m s (inr d) = d
      there w x c m s (inl p) =
          let t = same_on n.register u.register x.register i.same
          (subst (λ (y : Fields). is_same_old y.register x.register ≡ true) (sym p) s) in
          absurd (let no : true ≡ false = sym t ∙ m in cc)

  walked : (best : Fields) (us : List Fields) → Walks best us → Each us (migrated_along best us)
  walked best [] h = tt
  walked best (u ∷ us) h = go (λ b. walked b us) (is_same_old best.register u.register) refl
    where
      go : ((b : Fields) → Walks b us → Each us (migrated_along b us)) → (b : Bool)
          → is_same_old best.register u.register ≡ b → Each (u ∷ us)
          (migrated_at (cond b best (newest_along u us)) u.register
          ∷ migrated_along (cond b best (newest_along u us)) us)
      go rest true e = ((best, h.best_is u (at_first u us) e, refl), rest best (goes_on best u us h e))
      go rest false e = (
        (newest_along u us, entered best u us h e, refl),
        rest (newest_along u us) (enters best u us h e),
      )

-- ---- the output

-- what becomes of a register is at that register
pub at_register : (n : Fields) (r : Register) → (migrated_at n r).register ≡ r
at_register n r = go (is_eq (register_cmp n.register r)) refl
  where
    go : (b : Bool) → is_eq (register_cmp n.register r) ≡ b → (cond b n (withdrawn_for n r)).register ≡ r
    go true e = same_register n.register r e
    go false e = refl

module _ (all : List Fields) where
  made_in : (us ws : List Fields) → Each all us ws → (w : Fields) → Contains ws w
      → (u : Fields) × Contains us u × (u.register ≡ w.register) × (n : Fields) × IsNewest all w.register n
      × (w ≡ migrated_at n w.register)
  made_in [] [] e w c = absurd (omega (arith, c.1))
  made_in [] (x ∷ ws) e w c = absurd e
  made_in (u ∷ us) [] e w c = absurd e
  made_in (u ∷ us) (x ∷ ws) e w c = go (made_in us ws e.1 w) (first_or_rest x ws w c)
    where
      go : (Contains ws w → (v : Fields) × Contains us v × (v.register ≡ w.register) × (n : Fields)
          × IsNewest all w.register n × (w ≡ migrated_at n w.register)) → (x ≡ w) ⊎ Contains ws w
          → (v : Fields) × Contains (u ∷ us) v × (v.register ≡ w.register) × (n : Fields) × IsNewest all w.register n
          × (w ≡ migrated_at n w.register)
      go rest (inl p) =
          let n = e.0.0 in
          let r : u.register ≡ w.register = sym (at_register n u.register)
          ∙ ap (λ (y : Fields). y.register) (sym e.0.2 ∙ p) in
          (u, at_first u us, r, n, subst (λ q. IsNewest all q n) r e.0.1, sym p ∙ e.0.2 ∙ ap (migrated_at n) r)
      go rest (inr d) = let h = rest d in (h.0, in_rest u us h.0 h.1, h.2, h.3, h.4, h.5)

  each_made : (us ws : List Fields) → Each all us ws → (u : Fields) → Contains us u
      → (n : Fields) × IsNewest all u.register n × Contains ws (migrated_at n u.register)
  each_made [] [] e u c = absurd (omega (arith, c.1))
  each_made [] (x ∷ ws) e u c = absurd e
  each_made (v ∷ us) [] e u c = absurd e
  each_made (v ∷ us) (x ∷ ws) e u c = go (each_made us ws e.1 u) (first_or_rest v us u c)
    where
      go : (Contains us u → (n : Fields) × IsNewest all u.register n × Contains ws (migrated_at n u.register))
          → (v ≡ u) ⊎ Contains us u → (n : Fields) × IsNewest all u.register n
          × Contains (x ∷ ws) (migrated_at n u.register)
      go rest (inl p) = (
        e.0.0,
        subst (λ (y : Fields). IsNewest all y.register e.0.0) p e.0.1,
        subst (λ (y : Fields). Contains (x ∷ ws) (migrated_at e.0.0 y.register)) p
            (subst (Contains (x ∷ ws)) e.0.2 (at_first x ws)),
      )
      go rest (inr d) = let h = rest d in (h.0, h.1, in_rest x ws (migrated_at h.0 u.register) h.2)

  same_places : (r : Register) (us ws : List Fields) → Each all us ws
      → below_all register_cmp r (entries_of ws) ≡ below_all register_cmp r (entries_of us)
  same_places r [] [] e = refl
  same_places r [] (x ∷ ws) e = absurd e
  same_places r (u ∷ us) [] e = absurd e
  same_places r (u ∷ us) (x ∷ ws) e =
      let q : x.register ≡ u.register = ap (λ (y : Fields). y.register) e.0.2 ∙ at_register e.0.0 u.register in
      ap (λ (k : Register). is_lt (register_cmp r k) && below_all register_cmp r (entries_of ws)) q
      ∙ ap (λ b. is_lt (register_cmp r u.register) && b) (same_places r us ws e.1)

  same_order : (us ws : List Fields) → Each all us ws → is_sorted register_cmp (entries_of ws)
      ≡ is_sorted register_cmp (entries_of us)
  same_order [] [] e = refl
  same_order [] (x ∷ ws) e = absurd e
  same_order (u ∷ us) [] e = absurd e
  same_order (u ∷ us) (x ∷ ws) e =
      let q : x.register ≡ u.register = ap (λ (y : Fields). y.register) e.0.2 ∙ at_register e.0.0 u.register in
      ap (λ (k : Register). below_all register_cmp k (entries_of ws) && is_sorted register_cmp (entries_of ws)) q
      ∙ ap (λ b. b && is_sorted register_cmp (entries_of ws)) (same_places u.register us ws e.1)
      ∙ ap (λ b. below_all register_cmp u.register (entries_of us) && b) (same_order us ws e.1)

-- the walk makes the migration of the updates that it goes along
begins : (u : Fields) (us : List Fields) → Rising (u ∷ us) → Walks (u ∷ us) (newest_along u us) (u ∷ us)
begins u us r = record {
  best_is = λ x c s. record {
    own = go l.own;
    same = s;
    newest = λ w d t. those w (same_on u.register n.register w.register l.same
        (same_on n.register x.register w.register s (same_back w.register x.register t))) (first_or_rest u us w d);
  };
  among = λ x c. c;
  whole = λ w x d c m s. d;
  side = side_same u.register n.register (u ∷ us) l.same (
    λ e. side_above u.register us r.0 r.1,
    λ e. absurd (let no : true ≡ false = sym (same_itself u.register) ∙ e in cc),
  );
  rising = r;
}
  where
    n : Fields
    n = newest_along u us

    l : Leads u us n
    l = newest_leads u us (side_above u.register us r.0 r.1)

    go : (n ≡ u) ⊎ Contains us n → Contains (u ∷ us) n
    go (inl p) = subst (Contains (u ∷ us)) (sym p) (at_first u us)
    go (inr c) = in_rest u us n c

    those : (w : Fields) → is_same_old u.register w.register ≡ true → (u ≡ w) ⊎ Contains us w → is_newer_old w n ≡ false
    those w s (inl p) = ap (λ x. is_newer_old x n) (sym p) ∙ l.first
    those w s (inr c) = l.newest w c s

each_walked : (us : List Fields) → IsOrdered us → Each us us (migrated_all us)
each_walked [] o = tt
each_walked (u ∷ us) o = walked (u ∷ us) (newest_along u us) (u ∷ us) (begins u us (rising_is (u ∷ us) o))

-- ---- a table's updates and the set that it is of

lex_first : (m n : ℕ) (o p : Ordering) → (m ≡ n → is_lt o ≡ false → is_lt p ≡ false)
    → is_lt (ordering_then (nat_cmp m n) o) ≡ false → is_lt (ordering_then (nat_cmp m n) p) ≡ false
lex_first m n o p f e = go (nat_cmp m n) refl e
  where
    go : (x : Ordering) → nat_cmp m n ≡ x → is_lt (ordering_then x o) ≡ false → is_lt (ordering_then x p) ≡ false
    go Less q h = cc
    go Equal q h = f (ranked m n Equal (sym q)) h
    go Greater q h = refl

then_itself : (o p : Ordering) → o ≡ Equal → is_lt p ≡ false → is_lt (ordering_then o p) ≡ false
then_itself o p e h = ap (λ x. is_lt (ordering_then x p)) e ∙ h

-- for one register, an update that is no newer is no newer in the old order
same_newer : (r : Register) (v w : Value) → is_newer v w ≡ false
    → is_newer_old (record { register = r; value = v }) (record { register = r; value = w }) ≡ false
same_newer r v w e =
    lex_first w.incarnation v.incarnation _ _ (λ _. lex_first w.counter v.counter _ _
    (λ _. lex_first (rank_of w.content) (rank_of v.content) _ _
    (λ _. lex_first (sequence_of w.content) (sequence_of v.content) _ _
    (λ _ h. then_itself (ip_cmp (ip_of r.key) (ip_of r.key)) _ (tied_itself ip_total (ip_of r.key)) h)))) e

module _ (us : List Fields) (t : Table) (h : IsTableOf us t) where
  own_are : AreAllUpdates t (all_updates t)
  own_are = all_updates_are t

  in_set : (u : Fields) → Contains (all_updates t) u → Contains us u
  in_set u c = h.from u.register u.value (own_are.own u c)

  newest_in : (r : Register) (n : Fields) → IsNewest (all_updates t) r n → IsNewest us r n
  newest_in r n i = record {
    own = in_set n i.own;
    same = i.same;
    newest = λ w c s.
        let v = h.newest w c in
        newest_on w (record { register = w.register; value = v.0 }) n (same_newer w.register w.value v.0 v.2)
        (i.newest (record { register = w.register; value = v.0 }) (own_are.all w.register v.0 v.1) s);
  }

  pub migration_is : AreMigrated us (migrated_of t)
  migration_is = record {
    named = λ w c. let m = made_in all all' all'' each w c in (m.0, in_set m.0 m.1, m.2);
    made = λ w c. let m = made_in all all' all'' each w c in (m.3, newest_in w.register m.3 m.4, m.5);
    all = λ v c.
        let x = h.newest v c in
        let m = each_made all all' all'' each (record { register = v.register; value = x.0 })
        (own_are.all v.register x.0 x.1) in
        (m.0, newest_in v.register m.0 m.1, m.2);
    ordered = same_order all all' all'' each ∙ own_are.ordered;
  }
    where
      all : List Fields
      all = all_updates t

      all' : List Fields
      all' = all_updates t

      all'' : List Fields
      all'' = migrated_all (all_updates t)

      each : Each all all' all''
      each = each_walked (all_updates t) own_are.ordered

-- a migration that octets were held for
pub passed_migrates : (originators : List ℕ) (before held after : Devices) (status last : Status)
    → Passes before.out.failures before.notes.failures held after status last
    → Migrates originators before held status → Migrates originators before after last
passed_migrates originators before held after status last p m =
    let run = passed_renders before held after status last p 2 migration originators m.run in
    record { run = run; migrated = migration_is (taken_of run.outcomes) run.table run.taken.table_of }
