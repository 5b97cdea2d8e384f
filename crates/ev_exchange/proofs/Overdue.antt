-- An edge is overdue by the second at which its last connection has ended, whatever happens to other edges.
use Rattle.std.proofs.Common.{◌≡◌, ℕ, ◌-◌, ◌≤◌, Bool, true, false, cond, eqb, ◌==◌, not}
use Rattle.std.proofs.Common.{nat_le, nat_lt, ◌&&◌, ◌||◌, length}
use Rattle.std.proofs.Common.{List, [], ◌∷◌, ◌++◌, map, refl, sym, ◌∙◌, arith}
use Rattle.std.specs.List.{All, list_any, slice_index_or}
use Rattle.std.proofs.lemmas.Bool.{eq-eqb, eqb-true, true≢false}
use Rattle.std.proofs.lemmas.List.Elements.{All-append, All-cons, All-map, All-nil}
use Rattle.ev_exchange.specs.declared.sessions.Session.{Session}
use Rattle.ev_exchange.specs.declared.sessions.Change.{Change}
use Rattle.ev_exchange.specs.declared.sessions.Change.TheVariants.{Begins, Ends, Marks}
use Rattle.ev_exchange.specs.Sessions.{is_of, changed, at_edge, first_session, after_begin, after_end}
use Rattle.ev_exchange.specs.Sessions.{Happening, begins, ends, takes, after_one, after_these, is_about}
use Rattle.ev_exchange.specs.Sessions.{OverdueAfterHold}

-- if the session is that of the edge, it is over no connection since second t
abbrev Ended : ℕ → ℕ → Session → Type 0
Ended edge t s = s.edge ≡ edge → (s.connections ≡ 0) × (s.since ≡ t)

same_edge : (c : Change) (s : Session) → (changed c s).edge ≡ s.edge
same_edge Begins s = refl
same_edge (Ends now) s = refl
same_edge (Marks is_away) s = refl

end_one : (edge t : ℕ) (s : Session) → (s.edge ≡ edge → s.connections ≤ 1) → Ended edge t (at_edge edge (Ends t) s)
end_one edge t s few = go (is_of edge s) refl
  where
    go : (b : Bool) → is_of edge s ≡ b → Ended edge t (cond b (changed (Ends t) s) s)
    go true e = λ same. let one = few same in (omega arith, refl)
    go false e = λ same. absurd (true≢false (sym (eq-eqb s.edge edge same) ∙ e))

module _ (edge t : ℕ) where
  -- a change of another edge's session
  other_one : (other : ℕ) → (other == edge) ≡ false → (c : Change) (s : Session) → Ended edge t s
      → Ended edge t (at_edge other c s)
  other_one other apart c s h = go (is_of other s) refl
    where
      go : (b : Bool) → is_of other s ≡ b → Ended edge t (cond b (changed c s) s)
      go true e = λ same. absurd (true≢false (sym (eq-eqb other edge (sym (eqb-true s.edge other e)
          ∙ sym (same_edge c s) ∙ same)) ∙ apart))
      go false e = h

  mark_one : (other : ℕ) (is_away : Bool) (s : Session) → Ended edge t s
      → Ended edge t (at_edge other (Marks is_away) s)
  mark_one other is_away s h = go (is_of other s)
    where
      go : (b : Bool) → Ended edge t (cond b (changed (Marks is_away) s) s)
      go true = h
      go false = h

  map_ended : (f : Session → Session) → ((s : Session) → Ended edge t s → Ended edge t (f s)) → (all : List Session)
      → All (Ended edge t) all → All (Ended edge t) (map f all)
  map_ended f each all h = All-map (Ended edge t) f all (λ k d there. each (slice_index_or all k d) (h k d there))

  first_one : (other : ℕ) → (other == edge) ≡ false → Ended edge t (first_session other)
  first_one other apart = λ same. absurd (true≢false (sym (eq-eqb other edge same) ∙ apart))

  begin_other : (other : ℕ) → (other == edge) ≡ false → (all : List Session) → All (Ended edge t) all
      → All (Ended edge t) (after_begin other all)
  begin_other other apart all h = go (list_any (is_of other) all) (nat_lt (length all) 64)
    where
      go : (b c : Bool)
          → All (Ended edge t) (cond b (map (at_edge other Begins) all) (cond c (all ++ first_session other ∷ []) all))
      go true c = map_ended (at_edge other Begins) (other_one other apart Begins) all h
      go false true = All-append (Ended edge t) all (first_session other ∷ []) h
          (All-cons (Ended edge t) (first_session other) [] (first_one other apart) (All-nil (Ended edge t)))
      go false false = h

  one_more : (x : Happening) → is_about edge x ≡ false → (all : List Session) → All (Ended edge t) all
      → All (Ended edge t) (after_one x all)
  one_more (begins other) apart all h = begin_other other apart all h
  one_more (ends other now) apart all h = map_ended (at_edge other (Ends now)) (other_one other apart (Ends now)) all h
  one_more (takes turn) apart all h =
      map_ended (at_edge turn.edge (Marks turn.is_away)) (mark_one turn.edge turn.is_away) all h

  no_first : (a b : Bool) → (a || b) ≡ false → (a ≡ false) × (b ≡ false)
  no_first true b h = absurd (true≢false h)
  no_first false b h = (refl, h)

  all_more : (since : List Happening) → list_any (is_about edge) since ≡ false → (all : List Session)
      → All (Ended edge t) all → All (Ended edge t) (after_these since all)
  all_more [] apart all h = h
  all_more (x ∷ more) apart all h =
      let n = no_first (is_about edge x) (list_any (is_about edge) more) apart in
      all_more more n.1 (after_one x all) (one_more x n.0 all h)

pub overdue_after_hold : OverdueAfterHold
overdue_after_hold edge t now hold all since few apart =
    let ended = All-map (Ended edge t) (at_edge edge (Ends t)) all
    (λ k d there. end_one edge t (slice_index_or all k d) (few k d there)) in
    λ k d there same.
    let p = all_more edge t since apart (after_end edge t all) ended k d there same in
    λ i. eqb (p.0 i) 0 && not (eqb hold 0) && nat_le hold (now - p.1 i)
