-- The walk over a table's registers finds the owner of an address, and there is at most one.
use Rattle.std.proofs.Common.{◌≡◌, ◌≢◌, ℕ, Bool, true, false, cond, Option, Some, None, MatchOption, List, [], ◌∷◌}
use Rattle.std.proofs.Common.{◌++◌, refl, sym, ap, subst, ◌∙◌, append_assoc, append-nil, arith}
use Rattle.std.proofs.lemmas.Bool.Decides.{nat_tests}
use Rattle.std.proofs.Math.Logic.{⊎_elim}
use Rattle.std.specs.declared.cmp.Ordering.{Ordering}
use Rattle.std.specs.declared.cmp.Ordering.TheVariants.{Less, Equal}
use Rattle.std.specs.Option.{option_map, option_and_then}
use Rattle.std.specs.Cmp.{IsStrictWeakOrder, tied_itself}
use Rattle.std.specs.Ordering.{is_lt, ordering_reverse}
use Rattle.std.proofs.lemmas.List.MinMax.{ranks_by}
use Rattle.std.specs.FinMap.{entries, entries_sorted, get-entries}
use Rattle.std.specs.FinMap.Entries.{find, find-append, is_sorted, below_all}
use Rattle.route_wire.specs.declared.update.Ip.{Ip}
use Rattle.route_wire.specs.declared.update.Key.TheVariants.{Mac}
use Rattle.route_wire.specs.declared.update.Register.{Register}
use Rattle.route_wire.specs.declared.update.Advert.{Advert}
use Rattle.route_wire.specs.declared.update.Value.{Value}
use Rattle.route_wire.specs.Order.{register_cmp}
use Rattle.route_wire.specs.Inner.Totals.{register_total, register_exact}
use Rattle.route_join.specs.Table.{Table, register_of, value_at}
use Rattle.route_join.specs.Owner.{advert_in, advert_of, IsBetterBy, IsBetter, IsOwner, IsUnowned, is_better_by}
use Rattle.route_join.specs.Owner.{advert_at, is_better, is_about, said_of, better_of, best_among, owner}
use Rattle.route_join.specs.Inner.Group.{wins}
use Rattle.route_join.specs.Laws.{OneOwner, OwnerAlong}
use Rattle.route_join.proofs.Orders.{less, from_T}
use Rattle.route_join.proofs.Subjects.{address_key, about_address, about_itself}
use Rattle.route_join.proofs.Tables.{itself_register, same_or_other, other_register}
use Rattle.std.proofs.lemmas.Bool.{and_parts as both}

-- ---- which of two adverts is better, by the order of their registers
abbrev IsBetterAt : Ordering → Advert → Advert → Type 0
IsBetterAt o a b = IsBetterBy a.is_static b.is_static a.sequence b.sequence o

abbrev is_better_at : Ordering → Advert → Advert → Bool
is_better_at o a b = is_better_by a.is_static b.is_static a.sequence b.sequence o

better_at : (o : Ordering) (a b : Advert) → is_better_at o a b ≡ true → IsBetterAt o a b
better_at o a b t = grind (arith, nat_tests)

beaten_at : (o : Ordering) (a b : Advert) → o ≢ Equal → is_better_at o a b ≡ false → IsBetterAt (ordering_reverse o) b a
beaten_at o a b ne t = grind (arith, nat_tests)

one_way_at : (o : Ordering) (a b : Advert) → IsBetterAt o a b → IsBetterAt (ordering_reverse o) b a → ⊥
one_way_at o a b h k = grind arith

-- an advert that is no worse
pub as_good_at : (o p : Ordering) (a now b : Advert) → is_better_at o a now ≡ false → IsBetterAt p a b
    → IsBetterAt p now b
as_good_at o p a now b t h = grind (arith, nat_tests)

along_at : (o p q : Ordering) (a b c : Advert) → (o ≡ Less → p ≡ Less → q ≡ Less) → IsBetterAt o a b
    → IsBetterAt p b c → IsBetterAt q a c
along_at o p q a b c less h k = grind arith

not_back_at : (o : Ordering) (a b : Advert) → is_better_at o a b ≡ true → is_better_at (ordering_reverse o) b a ≡ false
not_back_at o a b t = grind (arith, nat_tests)

chain_at : (o p q : Ordering) (a b c : Advert) → (is_lt o ≡ false → is_lt p ≡ false → is_lt q ≡ false)
    → is_better_at o a b ≡ false → is_better_at p b c ≡ false → is_better_at q a c ≡ false
chain_at o p q a b c chain s t = grind (arith, nat_tests)

-- ---- of two registers one is better
pub not_better_is : (a : Advert) (r : Register) (b : Advert) (q : Register) → r ≢ q → is_better a r b q ≡ false
    → IsBetter b q a r
not_better_is a r b q ne t = rw (register_total.antisymm q r)
    (beaten_at (register_cmp r q) a b (λ e. ne (register_exact r q e)) t)

pub better_ranks : IsStrictWeakOrder (λ (c d : Register × Advert). is_better c.1 c.0 d.1 d.0)
better_ranks = record {
  one_way = λ c d t. rw (register_total.antisymm d.0 c.0) (not_back_at (register_cmp c.0 d.0) c.1 d.1 t);
  chain = λ c d e. chain_at (register_cmp c.0 d.0) (register_cmp d.0 e.0) (register_cmp c.0 e.0) c.1 d.1 e.1
      ((ranks_by register_total (λ r. r)).chain c.0 d.0 e.0);
}

-- ---- the best of some adverts
-- r advertises by a, which is better than the advert of each other register
pub record IsBestAmong (says : Register → Option Advert) (r : Register) (a : Advert) : Type 0 where
  pub own : says r ≡ Some a
  pub best : (q : Register) (b : Advert) → q ≢ r → says q ≡ Some b → IsBetter a r b q

abbrev pub Candidate : Type 0
Candidate = Option (Register × Advert)

abbrev pub IsBest : (Register → Option Advert) → Candidate → Type 0
IsBest says None = (q : Register) → says q ≡ None
IsBest says (Some best) = IsBestAmong says best.0 best.1

abbrev pub advert_by : Register → Option Advert → Candidate
advert_by r o = option_map (λ (a : Advert). (r, a)) o

abbrev pub IsApart : Register → Candidate → Type 0
IsApart e best = (c : Register × Advert) → best ≡ Some c → c.0 ≢ e

pub was_silent : (says : Register → Option Advert) (e : Register) (best : Candidate) → IsBest says best
    → says e ≡ None → IsApart e best
was_silent says e None h none c is same = cc
was_silent says e (Some d) h none c is same = cc (h.own)

-- the advert of one register is another one now
module _ (says after : Register → Option Advert) (e : Register)
    (others : (q : Register) → q ≢ e → after q ≡ says q) where
  winner_says : (best : Candidate) → wins (advert_by e (after e)) best ≡ true
      → (b : Advert) × (after e ≡ Some b)
  winner_says best t = grind arith

  silent : wins (advert_by e (after e)) None ≡ false → after e ≡ None
  silent t = grind arith

  better_is : (best : Candidate)
      → cond (wins (advert_by e (after e)) best) (advert_by e (after e)) best ≡ better_of e (after e) best
  better_is best = grind arith

  beats : (b : Advert) (best : Candidate) → IsBest says best → wins (Some (e, b)) best ≡ true
      → (q : Register) (d : Advert) → says q ≡ Some d → IsBetter b e d q
  beats b None h t q d is = cc (h q)
  beats b (Some c) h t q d is =
      let better = better_at (register_cmp e c.0) b c.1 t in
      ⊎_elim (λ same. let equal : d ≡ c.1 = cc in rw same (rw equal better))
      (λ other. along_at (register_cmp e c.0) (register_cmp c.0 q) (register_cmp e q) b c.1 d
      (register_total.trans e c.0 q) better (h.best q d other is)) (same_or_other q c.0)

  pub won : (best : Candidate) → IsBest says best → wins (advert_by e (after e)) best ≡ true
      → (b : Advert) × IsBestAmong after e b
  won best h t = let b = winner_says best t in (
    b.0,
    record {
      own = b.1;
      best = λ q d ne is. beats b.0 best h (rw b.1 at t) q d (sym (others q ne) ∙ is);
    },
  )

  pub lost : (best : Candidate) → IsBest says best → IsApart e best
      → wins (advert_by e (after e)) best ≡ false → IsBest after best
  lost None h apart t = λ q. ⊎_elim (λ same. rw same (silent t)) (λ ne. others q ne ∙ h q)
      (same_or_other q e)
  lost (Some c) h apart t = record {
    own = others c.0 (apart c refl) ∙ h.own;
    best = λ q b ne is. ⊎_elim
        (λ same. rw same (not_better_is b e c.1 c.0 (λ here. apart c refl (sym here)) (rw (rw same at is) at t)))
        (λ other. h.best q b ne (sym (others q other) ∙ is)) (same_or_other q e);
  }

  next_best : (best : Candidate) → IsBest says best → IsApart e best
      → IsBest after (better_of e (after e) best)
  next_best best h apart = subst (IsBest after) (better_is best) (go (wins (advert_by e (after e)) best) refl)
    where
      go : (t : Bool) → wins (advert_by e (after e)) best ≡ t → IsBest after (cond t (advert_by e (after e)) best)
      go true t = let top = (won best h t).1 in rw top.own top
      go false t = lost best h apart t

-- ---- there is at most one owner
pub one_owner : OneOwner
one_owner t vni mac o p a b =
    let r = register_of o (Mac vni mac a.ip) in
    let q = register_of p (Mac vni mac b.ip) in
    ⊎_elim (ap (λ (r : Register). r.originator))
    (λ ne. absurd (one_way_at (register_cmp r q) a.advert b.advert
    (a.best p b.ip b.advert (λ h. ne (sym h)) b.own)
    (rw (register_total.antisymm q r) at (b.best o a.ip a.advert ne a.own)))) (same_or_other r q)

-- ---- the walk, register by register
abbrev pub in_list : List (Register × Value) → Register → Option Advert
in_list es q = advert_of (find register_cmp q es)

module _ (es : List (Register × Value)) (e : Register × Value) (absent : find register_cmp e.0 es ≡ None) where
  pub find_last : find register_cmp e.0 (es ++ e ∷ []) ≡ Some e.1
  find_last = rw (find-append register_cmp register_total es e.0 e.1 e.0 absent, itself_register)

  pub find_before : (q : Register) → q ≢ e.0 → find register_cmp q (es ++ e ∷ []) ≡ find register_cmp q es
  find_before q ne = rw (find-append register_cmp register_total es e.0 e.1 q absent, other_register q e.0 ne)

pub not_less_itself : (k q : Register) → register_cmp k q ≡ Less → k ≡ q → ⊥
not_less_itself k q l same = cc (tied_itself register_total k)

-- in a list in order, a later register is not among those before it
pub below_last : (k : Register) (es fs : List (Register × Value)) (e : Register × Value)
    → below_all register_cmp k (es ++ e ∷ fs) ≡ true → register_cmp k e.0 ≡ Less
below_last k [] fs e h = less (register_cmp k e.0) (both _ _ h).0
below_last k (x ∷ es) fs e h = below_last k es fs e (both _ _ h).1

pub fresh : (ps es : List (Register × Value)) (e : Register × Value) → is_sorted register_cmp (ps ++ e ∷ es) ≡ true
    → find register_cmp e.0 ps ≡ None
fresh [] es e s = refl
fresh (p ∷ ps) es e s =
    let parts = both _ _ s in
    rw (other_register e.0 p.0 (λ same. not_less_itself p.0 e.0 (below_last p.0 ps es e parts.0) (sym same)))
    (fresh ps es e parts.1)

pub in_table : (t : Table) (r : Register) → in_list (entries t.registers) r ≡ advert_of (value_at t r)
in_table t r = rw get-entries

-- the advert of a value, if a test is passed
passed : (b : Bool) (o : Option Value) (a : Advert)
    → option_and_then (λ (v : Value). cond b (advert_in v.content) None) o ≡ Some a → b ≡ true
passed b o a e = grind arith

told_by : (b : Bool) (o : Option Value) → b ≡ true
    → option_and_then (λ (v : Value). cond b (advert_in v.content) None) o ≡ advert_of o
told_by b o e = grind arith

module _ (vni mac : ℕ) where
  -- the register's advert of the address
  abbrev told : List (Register × Value) → Register → Option Advert
  told es q = option_and_then (said_of vni mac q) (find register_cmp q es)

  walk : (ps es : List (Register × Value)) (best : Candidate) → is_sorted register_cmp (ps ++ es) ≡ true
      → IsBest (told ps) best → IsBest (told (ps ++ es)) (best_among vni mac es best)
  walk ps [] best s h = rw append-nil h
  walk ps (e ∷ es) best s h =
      let absent = fresh ps es e s in
      let more = ps ++ e ∷ [] in
      let top = next_best (told ps) (told more) e.0 (λ q ne. rw (find_before ps e absent q ne)) best h
      (was_silent (told ps) e.0 best h (rw absent)) in
      rw (← append_assoc ps (e ∷ []) es) (walk more es (better_of e.0 (said_of vni mac e.0 e.1) best)
      (rw append_assoc s) (rw (find_last ps e absent) at top))

  told_is : (t : Table) (o : ℕ) (ip : Option Ip)
      → told (entries t.registers) (register_of o (Mac vni mac ip)) ≡ advert_at t o (Mac vni mac ip)
  told_is t o ip = let r = register_of o (Mac vni mac ip) in
      rw (← get-entries t.registers r)
      (told_by (is_about vni mac r.key) (value_at t r) (about_itself vni mac r.key refl))

-- the walk returns the owner, or `None` if no originator advertises the address
pub owner_is : (t : Table) (vni mac : ℕ) → MatchOption (owner t vni mac) (IsUnowned t vni mac) (IsOwner t vni mac)
owner_is t vni mac = go (best_among vni mac (entries t.registers) None)
    (walk vni mac [] (entries t.registers) None (from_T _ (entries_sorted t.registers)) (λ q. refl))
  where
    go : (best : Candidate) → IsBest (told vni mac (entries t.registers)) best
        → MatchOption (option_map (λ (best : Register × Advert). best.0.originator) best) (IsUnowned t vni mac)
        (IsOwner t vni mac)
    go None h = λ o ip. sym (told_is vni mac t o ip) ∙ h (register_of o (Mac vni mac ip))
    go (Some best) h =
        let found = find register_cmp best.0 (entries t.registers) in
        let about = passed (is_about vni mac best.0.key) found best.1 h.own in
        let key = address_key vni mac best.0.key (about_address vni mac best.0.key about) in
        let named : best.0 ≡ register_of best.0.originator (Mac vni mac key.0) =
        λ i. register_of best.0.originator (key.1 i) in
        let leads = rw named at h in record {
          ip = key.0;
          advert = best.1;
          own = sym (told_is vni mac t best.0.originator key.0) ∙ leads.own;
          best = λ p j b ne is. leads.best (register_of p (Mac vni mac j)) b ne (told_is vni mac t p j ∙ is);
        }

-- equal adverts keep the owner
pub owner_along : OwnerAlong
owner_along s t vni mac o same h = record {
  ip = h.ip;
  advert = h.advert;
  own = sym (same o h.ip) ∙ h.own;
  best = λ p j b ne is. h.best p j b ne (same p j ∙ is);
}
