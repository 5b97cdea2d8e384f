-- The order of registers of one subject: by their originators, then by their IP addresses; and among updates in order,
-- by their places.
use Rattle.std.proofs.Common.{◌≡◌, ℕ, true, zero, suc, ◌<◌, Option, Some, None, List, [], ◌∷◌, refl, sym, ◌∙◌, length}
use Rattle.std.proofs.Common.{get_or, Ok, arith}
use Rattle.std.specs.List.{slice_get}
use Rattle.std.specs.Option.{option_map}
use Rattle.std.specs.Cmp.{nat_cmp_is, tied_itself}
use Rattle.std.specs.declared.cmp.Ordering.{Ordering}
use Rattle.std.specs.declared.cmp.Ordering.TheVariants.{Less, Equal, Greater}
use Rattle.std.specs.Ordering.{nat_cmp, ordering_then}
use Rattle.std.specs.FinMap.Entries.{below_all, is_sorted}
use Rattle.std.proofs.lemmas.Bool.Decides.{nat_tests}
use Rattle.std.proofs.lemmas.Option.{slice_get_read}
use Rattle.std.proofs.Math.Numerals.{one-add}
use Rattle.route_wire.specs.declared.update.Ip.{Ip}
use Rattle.route_wire.specs.declared.update.Advert.{Advert}
use Rattle.route_wire.specs.declared.update.Register.{Register}
use Rattle.route_wire.specs.Fields.{Fields}
use Rattle.route_wire.specs.Order.{ip_of, ip_cmp, register_cmp}
use Rattle.route_wire.specs.Inner.Totals.{register_total, register_exact}
use Rattle.route_join.specs.Subject.{subject_of}
use Rattle.route_join.specs.Table.{entries_of, IsOrdered}
use Rattle.route_join.specs.Inner.Place.{place_of}
use Rattle.route_join.specs.Inner.Group.{candidate_at, said_at, wins, wins_by}
use Rattle.route_join.proofs.Orders.{less}
use Rattle.route_join.specs.Inner.Ranks.{subject_total}
use Rattle.route_join.proofs.Subjects.{by_subject}
use Rattle.std.proofs.lemmas.Bool.{and_parts as both}

-- ---- IP addresses
pub none_first : (x : Ip) → ip_cmp None (Some x) ≡ Less
none_first x = grind arith

pub none_last : (x : Ip) → ip_cmp (Some x) None ≡ Greater
none_last x = grind arith

-- ---- registers of one subject
pub within : (r q : Register) → subject_of r.key ≡ subject_of q.key
    → register_cmp r q ≡ ordering_then (nat_cmp r.originator q.originator) (ip_cmp (ip_of r.key) (ip_of q.key))
within r q same = rw (by_subject, same, tied_itself subject_total)

pub behind_lower : (r q : Register) → subject_of r.key ≡ subject_of q.key → q.originator < r.originator
    → register_cmp r q ≡ Greater
behind_lower r q same lower = rw (within r q same, ← nat_cmp_is r.originator q.originator Greater lower)

-- ---- updates in the order of their registers
pub below_at : (k : Register) (us : List Fields) (i : ℕ) (x : Fields) → below_all register_cmp k (entries_of us) ≡ true
    → slice_get us i ≡ Some x → register_cmp k x.register ≡ Less
below_at k [] i x b h = cc
below_at k (u ∷ us) zero x b h = let same : u ≡ x = cc in rw same at (less (register_cmp k u.register) (both _ _ b).0)
below_at k (u ∷ us) (suc i) x b h = below_at k us i x (both _ _ b).1 h

next_by : (n m : ℕ) → nat_cmp n m ≡ nat_cmp (suc n) (suc m)
next_by n m = grind (arith, nat_tests)

pub by_place : (us : List Fields) (i j : ℕ) (x y : Fields) → IsOrdered us → slice_get us i ≡ Some x
    → slice_get us j ≡ Some y → nat_cmp i j ≡ register_cmp x.register y.register
by_place [] i j x y s p q = cc
by_place (u ∷ us) zero zero x y s p q =
    let same : x ≡ y = cc in
    rw same (sym (tied_itself register_total y.register))
by_place (u ∷ us) zero (suc j) x y s p q =
    let here : u ≡ x = cc in
    sym (nat_cmp_is 0 (suc j) Less (omega arith)) ∙ sym (rw here at (below_at u.register us j y (both _ _ s).0 q))
by_place (u ∷ us) (suc i) zero x y s p q =
    let here : u ≡ y = cc in
    let above = rw here at (below_at u.register us i x (both _ _ s).0 p) in
    sym (nat_cmp_is (suc i) 0 Greater (omega arith)) ∙ sym (rw (register_total.antisymm x.register y.register, above))
by_place (u ∷ us) (suc i) (suc j) x y s p q = sym (next_by i j) ∙ by_place us i j x y (both _ _ s).1 p q

-- an update of the register is at the register's place
pub found_near : (us : List Fields) (q : Register) (g : ℕ) (u : Fields) → IsOrdered us → g < length us
    → u ≡ get_or us g u → register_cmp q u.register ≡ Equal → place_of us q ≡ Ok g
found_near [] q g u s l h e = absurd (omega arith)
found_near (v ∷ us) q zero u s l h e = rw (← h, e)
found_near (v ∷ us) q (suc g) u s l h e =
    let there = slice_get_read us (length us) g u refl (omega arith) h in
    let parts = both (below_all register_cmp v.register (entries_of us)) (is_sorted register_cmp (entries_of us)) s in
    let below = below_at v.register us g u parts.0 there in
    let above : register_cmp q v.register ≡ Greater =
    rw (register_exact q u.register e, register_total.antisymm u.register v.register, below) in
    rw (above, found_near us q g u parts.1 (omega arith) h e, one-add)

-- ---- which of two updates wins
pub both_say : (r q : Register) (a b : Option Advert) (o : Ordering) → o ≡ register_cmp r q
    → wins_by a b o ≡ wins (option_map (λ (c : Advert). (r, c)) a) (option_map (λ (c : Advert). (q, c)) b)
both_say r q (Some a) (Some b) o e = rw e
both_say r q _ _ o e = refl

-- against no update
pub wins_alone : (us : List Fields) (at : ℕ) (o : Ordering)
    → wins_by (said_at us at) None o ≡ wins (candidate_at us at) None
wins_alone us at o = grind arith

-- against another one
pub wins_at : (us : List Fields) (at i : ℕ) → IsOrdered us
    → wins_by (said_at us at) (said_at us i) (nat_cmp at i) ≡ wins (candidate_at us at) (candidate_at us i)
wins_at us at i s = grind (arith, by_place)
