-- The streams of two joined processes. One of them sends back the registers that it held of the other's edge.
use Rattle.std.proofs.Common.{◌≡◌, ◌⊎◌, inl, inr, ℕ, List, [], ◌∷◌, ◌++◌, Contains, Some, sym, subst, ◌∙◌, arith}
use Rattle.std.proofs.Common.{eq-eqb}
use Rattle.std.specs.List.{flat_map}
use Rattle.std.proofs.lemmas.List.Elements.{Contains-append_left, Contains-append_right, Contains-append_cases}
use Rattle.std.proofs.lemmas.Map.Views.{exact_unsigned_eq}
use Rattle.route_wire.specs.declared.update.Register.{Register}
use Rattle.route_wire.specs.Fields.{Fields}
use Rattle.route_join.specs.Table.{Table, value_at, IsTableOf}
use Rattle.ev_exchange.specs.declared.announcing.EdgeTable.{EdgeTable}
use Rattle.ev_exchange.specs.Sending.{is_own, own_of, own_updates}
use Rattle.ev_exchange.specs.SendLoop.{Step, announces, says_back, said_at, said_of, sent_by}
use Rattle.ev_exchange.specs.Laws.{Carries, TookBack, announced_by, IsUnnamed, HasEdge, stream_of, StreamCarries}
use Rattle.ev_exchange.specs.Laws.{SaidBack, Came, JoinedAgrees}
use Rattle.ev_exchange.proofs.Arriving.{first_in, first_or_later, filter_in, filter_has, said_is_carried, meets}

-- the updates for one of several items are sent
in_flat : {X Y : Type 0} (f : X → List Y) (xs : List X) (x : X) (y : Y) → Contains xs x → Contains (f x) y
    → Contains (flat_map f xs) y
in_flat f [] x y c d = absurd (omega (arith, c.1))
in_flat f (z ∷ xs) x y c d = go (λ c. in_flat f xs x y c d) (first_or_later z xs x c)
  where
    go : (Contains xs x → Contains (flat_map f xs) y) → (z ≡ x) ⊎ Contains xs x → Contains (f z ++ flat_map f xs) y
    go rest (inl same) = Contains-append_left (f z) (flat_map f xs) y (subst (λ w. Contains (f w) y) (sym same) d)
    go rest (inr c) = Contains-append_right (f z) (flat_map f xs) y (rest c)

-- ---- announced updates, and updates that are sent back
announced_in : (steps : List Step) (u : Fields) → Contains (announced_by steps) u → Contains (sent_by steps) u
announced_in [] u c = absurd (omega (arith, c.1))
announced_in (announces v ∷ steps) u c = go (announced_in steps u) (first_or_later v (announced_by steps) u c)
  where
    go : (Contains (announced_by steps) u → Contains (sent_by steps) u) → (v ≡ u) ⊎ Contains (announced_by steps) u
        → Contains (v ∷ sent_by steps) u
    go rest (inl same) = subst (λ w. Contains (v ∷ sent_by steps) w) same (first_in v (sent_by steps))
    go rest (inr c) = Contains-append_right (v ∷ []) (sent_by steps) u (rest c)
announced_in (says_back o ts ∷ steps) u c = Contains-append_right (said_of (Some o) ts) (sent_by steps) u
    (announced_in steps u c)

-- each update that is sent back is of the named originator
back_of : (o : ℕ) (ts : List EdgeTable) (u : Fields) → Contains (said_of (Some o) ts) u → u.register.originator ≡ o
back_of o [] u c = absurd (omega (arith, c.1))
back_of o (t ∷ ts) u c = go (back_of o ts u)
    (Contains-append_cases (own_of o t.updates.items) (said_of (Some o) ts) u c)
  where
    go : (Contains (said_of (Some o) ts) u → u.register.originator ≡ o)
        → Contains (own_of o t.updates.items) u ⊎ Contains (said_of (Some o) ts) u → u.register.originator ≡ o
    go rest (inl c) = exact_unsigned_eq u.register.originator o (filter_in (is_own o) t.updates.items u c).0
    go rest (inr c) = rest c

later : (o : ℕ) (x : Step) (steps : List Step) → IsUnnamed o (x ∷ steps) → IsUnnamed o steps
later o x steps unnamed ts c = unnamed ts (Contains-append_right (x ∷ []) steps (says_back o ts) c)

-- of an originator that isn't named only announced updates are sent
sent_from : (o : ℕ) (steps : List Step) → IsUnnamed o steps → (u : Fields) → u.register.originator ≡ o
    → Contains (sent_by steps) u → Contains (announced_by steps) u
sent_from o [] unnamed u is c = absurd (omega (arith, c.1))
sent_from o (announces v ∷ steps) unnamed u is c =
    go (sent_from o steps (later o (announces v) steps unnamed) u is) (first_or_later v (sent_by steps) u c)
  where
    go : (Contains (sent_by steps) u → Contains (announced_by steps) u) → (v ≡ u) ⊎ Contains (sent_by steps) u
        → Contains (v ∷ announced_by steps) u
    go rest (inl same) = subst (λ w. Contains (v ∷ announced_by steps) w) same (first_in v (announced_by steps))
    go rest (inr c) = Contains-append_right (v ∷ []) (announced_by steps) u (rest c)
sent_from o (says_back p ts ∷ steps) unnamed u is c =
    go (sent_from o steps (later o (says_back p ts) steps unnamed) u is)
    (Contains-append_cases (said_of (Some p) ts) (sent_by steps) u c)
  where
    go : (Contains (sent_by steps) u → Contains (announced_by steps) u)
        → Contains (said_of (Some p) ts) u ⊎ Contains (sent_by steps) u → Contains (announced_by steps) u
    go rest (inl c) =
        let same : p ≡ o = sym (back_of p ts u c) ∙ is in
        absurd (unnamed ts (subst (λ (q : ℕ). Contains (says_back p ts ∷ steps) (says_back q ts)) same
        (first_in (says_back p ts) steps)))
    go rest (inr c) = rest c

pub stream_carries : StreamCarries
stream_carries edges steps o start h = record {
  said = carried.said;
  announced = λ u c is. carried.announced u (announced_in steps u c) is;
  none_else = λ u c is. go u is (carried.none_else u c is);
}
  where
    carried : Carries o start (sent_by steps) (stream_of edges steps)
    carried = said_is_carried edges (sent_by steps) o start h.there h.one

    go : (u : Fields) → u.register.originator ≡ o → Contains (own_updates start o) u ⊎ Contains (sent_by steps) u
        → Contains (own_updates start o) u ⊎ Contains (announced_by steps) u
    go u is (inl own) = inl own
    go u is (inr c) = inr (sent_from o steps h.unnamed u is c)

-- ---- both streams
-- the updates that a table holds of an originator are sent back
pub in_back : (o : ℕ) (held : Table) (back : List Step) → SaidBack o held back → (u : Fields)
    → Contains (own_updates held o) u → Contains (sent_by back) u
in_back o held back h u c = in_flat said_at back (says_back o h.tables) u h.named
    (in_flat (λ (t : EdgeTable). own_of o t.updates.items) h.tables h.table u h.one_of
    (subst (λ (us : List Fields). Contains (own_of o us) u) (sym h.is_held) c))

module _ (edges : List (ℕ × Table)) (steps back : List Step) (o : ℕ) (us came ws : List Fields)
    (start now before after : Table) (edge : HasEdge o start edges steps) (old : IsTableOf ws before)
    (new : IsTableOf (ws ++ stream_of edges steps) after) (held : SaidBack o before back)
    (cm : Came o ws back came) where
  -- the stream, the updates announced since, and those of o that came back
  abbrev written : List Fields
  written = stream_of edges steps

  abbrev since : List Fields
  since = announced_by steps

  abbrev mine : List Fields
  mine = own_of o came

  -- the table took those already
  mine_taken : (u : Fields) → Contains mine u → Contains ws u
  mine_taken u c =
      let found = filter_in (is_own o) came u c in
      cm.taken u found.1 (exact_unsigned_eq u.register.originator o found.0)

  carried : Carries o start (since ++ came) (written ++ mine)
  carried = record {
    said = λ u c. Contains-append_left written mine u (k.said u c);
    announced = λ u c is. still u is (Contains-append_cases since came u c);
    none_else = λ u c is. no_more u is (Contains-append_cases written mine u c);
  }
    where
      k : Carries o start since written
      k = stream_carries edges steps o start edge

      still : (u : Fields) → u.register.originator ≡ o → Contains since u ⊎ Contains came u
          → Contains (written ++ mine) u
      still u is (inl c) = Contains-append_left written mine u (k.announced u c is)
      still u is (inr c) = Contains-append_right written mine u
          (filter_has (is_own o) came u (eq-eqb u.register.originator o is) c)

      of_written : (u : Fields) → Contains (own_updates start o) u ⊎ Contains since u
          → Contains (own_updates start o) u ⊎ Contains (since ++ came) u
      of_written u (inl own) = inl own
      of_written u (inr c) = inr (Contains-append_left since came u c)

      no_more : (u : Fields) → u.register.originator ≡ o → Contains written u ⊎ Contains mine u
          → Contains (own_updates start o) u ⊎ Contains (since ++ came) u
      no_more u is (inl c) = of_written u (k.none_else u c is)
      no_more u is (inr c) = inr (Contains-append_right since came u (filter_in (is_own o) came u c).1)

  taken : IsTableOf (ws ++ (written ++ mine)) after
  taken = record {
    from = λ r v e. more (record { register = r; value = v })
        (Contains-append_cases ws written (record { register = r; value = v }) (new.from r v e));
    newest = λ u c. new.newest u (less u (Contains-append_cases ws (written ++ mine) u c));
  }
    where
      more : (u : Fields) → Contains ws u ⊎ Contains written u → Contains (ws ++ (written ++ mine)) u
      more u (inl c) = Contains-append_left ws (written ++ mine) u c
      more u (inr c) = Contains-append_right ws (written ++ mine) u (Contains-append_left written mine u c)

      of_stream : (u : Fields) → Contains written u ⊎ Contains mine u → Contains (ws ++ written) u
      of_stream u (inl c) = Contains-append_right ws written u c
      of_stream u (inr c) = Contains-append_left ws written u (mine_taken u c)

      less : (u : Fields) → Contains ws u ⊎ Contains (written ++ mine) u → Contains (ws ++ written) u
      less u (inl c) = Contains-append_left ws written u c
      less u (inr c) = of_stream u (Contains-append_cases written mine u c)

  took : TookBack o before (us ++ (since ++ came))
  took u c = Contains-append_right us (since ++ came) u
      (Contains-append_right since came u (cm.all u (in_back o before back held u c)))

  joined : IsTableOf us start → IsTableOf (us ++ (since ++ came)) now → (r : Register) → r.originator ≡ o
      → value_at after r ≡ value_at now r
  joined began went_on r is =
      meets o us (since ++ came) (written ++ mine) start now began went_on carried ws before after old taken took r is

pub joined_agrees : JoinedAgrees
joined_agrees edges steps back o us came ws start now before after edge began went_on old new held cm r is =
    joined edges steps back o us came ws start now before after edge old new held cm began went_on r is
