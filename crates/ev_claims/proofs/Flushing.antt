-- The unpinned stations behind a port go one after another, from the front of the port's list.
use Rattle.std.proofs.Common.{◌≡◌, ℕ, suc, ◌+◌, ◌-◌, ◌<◌, true, false, cond, Option, Some, None, List, [], ◌∷◌, ◌++◌}
use Rattle.std.proofs.Common.{refl, sym, ap, ◌∙◌, arith}
use Rattle.std.specs.Prelude.{slice_get, Contains}
use Rattle.std.specs.List.{range_with_len}
use Rattle.std.proofs.Math.ListN.{get_or-map}
use Rattle.std.proofs.lemmas.Bool.{ne_eqb, eqb-true, false≢true, and_parts, or_parts, or_left}
use Rattle.std.proofs.lemmas.List.FromFn.{length-range_with_len, get_or-range_with_len}
use Rattle.ether_wire.specs.Ports.{has_port, ports_after}
use Rattle.ether_wire.proofs.PortLemmas.{in_filter}
use Rattle.mac_arena.specs.declared.station.Station.{Station}
use Rattle.mac_arena.specs.declared.station.Entry.{Entry}
use Rattle.mac_arena.specs.Station.{is_same}
use Rattle.mac_arena.specs.Learning.{Learning, entry_at, is_pinned, stations_at, left, after_removal as gone}
use Rattle.mac_arena.specs.Learning.{after_removal_at}
use Rattle.mac_arena.specs.ListsName.{ListsName, stands, is_on, ages}
use Rattle.mac_arena.specs.Laws.{unpinned_among, unpinned_on, GoesFirst}
use Rattle.mac_arena.proofs.Entries.{same_self, eq_same}
use Rattle.mac_arena.proofs.Going.{unpinned_exact, unpinned_first}
use Rattle.ev_claims.specs.LocalRoutes.{LocalRoutes, after_removal, after_removals}
use Rattle.ev_claims.specs.Leaving.{flushed_at}
use Rattle.ev_claims.specs.Inner.Leaving.{AreKept}
use Rattle.ev_claims.proofs.Learnt.{removal_there}

-- ---- a station that is not on a list has no part in it
left_absent : (s : Station) (xs : List Station) → stands xs s ≡ false → left s xs ≡ xs
left_absent s [] h = refl
left_absent s (x ∷ xs) h = let off = or_parts (is_same x s) (stands xs s) h in
    λ i. cond (off.0 i) xs (x ∷ left_absent s xs off.1 i)

unpinned_stays : (t : Learning) (s : Station) (xs : List Station) → stands xs s ≡ false
    → unpinned_among (gone t s) xs ≡ unpinned_among t xs
unpinned_stays t s [] h = refl
unpinned_stays t s (x ∷ xs) h =
    let off = or_parts (is_same x s) (stands xs s) h in
    let rest = unpinned_stays t s xs off.1 in
    λ i. cond (is_pinned (removal_there t s x (λ same. false≢true (sym off.0 ∙ eq_same x s same)) i)) (rest i)
    (x ∷ rest i)

-- ---- the stations of a port: the first unpinned one, and the rest after its removal
pub record IsFirst (t : Learning) (port : ℕ) (s : Station) : Type 0 where
  pub goes : GoesFirst (λ u. unpinned_on u port) t s
  pub others : AreKept t (gone t s) port

pub first_is : {t : Learning} {s : Station} → ListsName t → (port : ℕ) → 0 < port
    → slice_get (unpinned_on t port) 0 ≡ Some s → IsFirst t port s
first_is {t} {s} lists port some first = record {
  goes = goes;
  others = λ q some_q ne. off (entry_at t s) refl (and_parts (ages (entry_at t s)) (is_on (entry_at t s) port)
      (sym (unpinned_exact t port some lists s) ∙ ap (λ xs. stands xs s) goes.rest
      ∙ or_left (is_same s s) _ (same_self s))).1 q some_q ne;
}
  where
    goes : GoesFirst (λ u. unpinned_on u port) t s
    goes = unpinned_first t port s lists first

    off : (o : Option Entry) → entry_at t s ≡ o → is_on o port ≡ true → AreKept t (gone t s) port
    off None is on q some_q ne = cc
    off (Some x) is on q some_q ne =
        let xs = stations_at t.ports (q - 1) in
        let absent = lists.ports (q - 1) s ∙ ap (λ o. is_on o (q - 1 + 1)) is
        ∙ ne_eqb x.port (q - 1 + 1) (λ same. ne (omega (arith, same, eqb-true x.port port on, some_q))) in
        ap (λ o. unpinned_among (gone t s) (stations_at (after_removal_at t s o).ports (q - 1))) is
        ∙ ap (unpinned_among (gone t s)) (get_or-map (left s) t.ports (q - 1) [] ∙ left_absent s xs absent)
        ∙ unpinned_stays t s xs absent

pub nobody_left : (xs : List Station) → slice_get xs 0 ≡ None → xs ≡ []
nobody_left [] e = refl
nobody_left (x ∷ xs) e = cc

-- ---- several ports
pub removals_joined : (e : LocalRoutes) (xs ys : List Station)
    → after_removals e (xs ++ ys) ≡ after_removals (after_removals e xs) ys
removals_joined e [] ys = refl
removals_joined e (x ∷ xs) ys = removals_joined (after_removal e x) xs ys

pub flushed_same : (t u : Learning) (ps : List ℕ) → ((q : ℕ) → Contains ps q → unpinned_on u q ≡ unpinned_on t q)
    → flushed_at u ps ≡ flushed_at t ps
flushed_same t u [] h = refl
flushed_same t u (p ∷ ps) h = λ i. h p (0, omega arith, refl) i
    ++ flushed_same t u ps (λ q c. h q (suc c.0, (omega (arith, c.1)), c.2)) i

pub later_ports : (set : ℕ) {p q : ℕ} → Contains (ports_after set p) q → p < q
unfolding ports_after
later_ports set {p} {q} c =
    let is = (in_filter (has_port set) (range_with_len (p + 1) (64 - p)) q c).0 in
    omega (
      arith,
      (sym is.2 ∙ get_or-range_with_len (p + 1) (64 - p) is.0 q (omega
          (arith, is.1, length-range_with_len (p + 1) (64 - p)))),
    )
