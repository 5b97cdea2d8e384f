-- Two joined processes of any number of edges.
use Rattle.std.proofs.Common.{◌≡◌, ◌⊎◌, inl, inr, true, ℕ, List, [], ◌∷◌, ◌++◌, Contains, Some, sym, subst, ◌∙◌, arith}
use Rattle.std.proofs.Common.{eq-eqb}
use Rattle.std.proofs.lemmas.List.Elements.{Contains-append_left, Contains-append_right, Contains-append_cases}
use Rattle.std.proofs.lemmas.Map.Views.{exact_unsigned_eq}
use Rattle.route_wire.specs.declared.update.Register.{Register}
use Rattle.route_wire.specs.Fields.{Fields}
use Rattle.route_join.specs.Table.{Table, value_at, IsTableOf}
use Rattle.route_join.specs.Updates.{all_updates}
use Rattle.ev_exchange.specs.declared.announcing.EdgeTable.{EdgeTable}
use Rattle.ev_exchange.specs.Sending.{is_own, own_of, own_updates}
use Rattle.ev_exchange.specs.SendLoop.{Step, announces, says_back, said_of, sent_by}
use Rattle.ev_exchange.specs.Laws.{Carries, TookBack, HasEdge, announced_by, said_by, stream_of}
use Rattle.ev_exchange.specs.JoinedProcesses.{Process, IsEdge, news, Joins, ProcessesAgree, EarlierLivesEnd}
use Rattle.ev_exchange.proofs.Arriving.{first_in, first_or_later, filter_in, filter_has, own_updates_are, said_from}
use Rattle.ev_exchange.proofs.Arriving.{meets}
use Rattle.ev_exchange.proofs.Joining.{in_back, stream_carries}

-- the update is one of the named originator in a table that is sent back for an item
abbrev IsBack : List Step → Fields → Type 0
IsBack steps u =
    (o : ℕ) × (ts : List EdgeTable) × (t : EdgeTable) × Contains steps (says_back o ts) × Contains ts t
    × Contains (own_of o t.updates.items) u

-- an update of the named originator is in one of the tables
in_tables : (o : ℕ) (ts : List EdgeTable) (u : Fields) → Contains (said_of (Some o) ts) u
    → (t : EdgeTable) × Contains ts t × Contains (own_of o t.updates.items) u
in_tables o [] u c = absurd (omega (arith, c.1))
in_tables o (t ∷ ts) u c = go (in_tables o ts u)
    (Contains-append_cases (own_of o t.updates.items) (said_of (Some o) ts) u c)
  where
    Found : List EdgeTable → Type 0
    Found xs = (t : EdgeTable) × Contains xs t × Contains (own_of o t.updates.items) u

    go : (Contains (said_of (Some o) ts) u → Found ts)
        → Contains (own_of o t.updates.items) u ⊎ Contains (said_of (Some o) ts) u → Found (t ∷ ts)
    go rest (inl c) = (t, first_in t ts, c)
    go rest (inr c) =
        let h = rest c in
        (h.0, Contains-append_right (t ∷ []) ts h.0 h.1, h.2)

-- each update that is sent for an item is announced or sent back
sent_is : (steps : List Step) (u : Fields) → Contains (sent_by steps) u
    → Contains (announced_by steps) u ⊎ IsBack steps u
sent_is [] u c = absurd (omega (arith, c.1))
sent_is (announces v ∷ steps) u c = go (sent_is steps u) (first_or_later v (sent_by steps) u c)
  where
    later : Contains (announced_by steps) u ⊎ IsBack steps u
        → Contains (v ∷ announced_by steps) u ⊎ IsBack (announces v ∷ steps) u
    later (inl c) = inl (Contains-append_right (v ∷ []) (announced_by steps) u c)
    later (inr b) = inr (
      b.0,
      b.1,
      b.2,
      Contains-append_right (announces v ∷ []) steps (says_back b.0 b.1) b.3,
      b.4,
      b.5,
    )

    go : (Contains (sent_by steps) u → Contains (announced_by steps) u ⊎ IsBack steps u)
        → (v ≡ u) ⊎ Contains (sent_by steps) u
        → Contains (v ∷ announced_by steps) u ⊎ IsBack (announces v ∷ steps) u
    go rest (inl same) = inl (subst (λ w. Contains (v ∷ announced_by steps) w) same (first_in v (announced_by steps)))
    go rest (inr c) = later (rest c)
sent_is (says_back o ts ∷ steps) u c = go (sent_is steps u)
    (Contains-append_cases (said_of (Some o) ts) (sent_by steps) u c)
  where
    later : Contains (announced_by steps) u ⊎ IsBack steps u
        → Contains (announced_by steps) u ⊎ IsBack (says_back o ts ∷ steps) u
    later (inl c) = inl c
    later (inr b) = inr (
      b.0,
      b.1,
      b.2,
      Contains-append_right (says_back o ts ∷ []) steps (says_back b.0 b.1) b.3,
      b.4,
      b.5,
    )

    go : (Contains (sent_by steps) u → Contains (announced_by steps) u ⊎ IsBack steps u)
        → Contains (said_of (Some o) ts) u ⊎ Contains (sent_by steps) u
        → Contains (announced_by steps) u ⊎ IsBack (says_back o ts ∷ steps) u
    go rest (inl c) =
        let h = in_tables o ts u c in
        inr (o, ts, h.0, first_in (says_back o ts) steps, h.1, h.2)
    go rest (inr c) = later (rest c)

module _ (p q : Process) (jp : Joins p q) (jq : Joins q p) (o m : ℕ) (eo : IsEdge p o) (em : IsEdge q m) where
  -- o's table when the connection began, and the streams of both processes
  abbrev start : Table
  start = eo.0

  abbrev stream : List Fields
  stream = stream_of p.edges p.steps

  abbrev other : List Fields
  other = stream_of q.edges q.steps

  -- the updates that m had taken when its table was sent back, and those of o that came back
  abbrev ws : List Fields
  ws = q.took m ++ q.more m

  abbrev mine : List Fields
  mine = own_of o other

  abbrev written : List Fields
  written = news q p ++ mine

  -- an edge of q isn't o
  not_o : (u : Fields) → u.register.originator ≡ o → IsEdge q u.register.originator → ⊥
  not_o u is e = jp.takes.apart o eo (subst (λ (n : ℕ). IsEdge q n) is e)

  edge : HasEdge o start p.edges p.steps
  edge = record {
    there = eo.1;
    one = λ t c. jp.takes.one o t start c eo.1;
    unnamed = λ ts c. jp.takes.apart o eo (jp.sends.named o ts c);
  }

  k : Carries o start (announced_by p.steps) stream
  k = stream_carries p.edges p.steps o start edge

  carried : Carries o start (news p q) written
  carried = record {
    said = λ u c. Contains-append_left (news q p) mine u
        (Contains-append_right (announced_by q.steps) stream u (k.said u c));
    announced = λ u c is. still u is (Contains-append_cases (announced_by p.steps) other u c);
    none_else = λ u c is. no_more u is (Contains-append_cases (news q p) mine u c);
  }
    where
      still : (u : Fields) → u.register.originator ≡ o → Contains (announced_by p.steps) u ⊎ Contains other u
          → Contains written u
      still u is (inl c) = Contains-append_left (news q p) mine u
          (Contains-append_right (announced_by q.steps) stream u (k.announced u c is))
      still u is (inr c) = Contains-append_right (news q p) mine u
          (filter_has (is_own o) other u (eq-eqb u.register.originator o is) c)

      of_stream : (u : Fields) → Contains (own_updates start o) u ⊎ Contains (announced_by p.steps) u
          → Contains (own_updates start o) u ⊎ Contains (news p q) u
      of_stream u (inl c) = inl c
      of_stream u (inr c) = inr (Contains-append_left (announced_by p.steps) other u c)

      of_news : (u : Fields) → u.register.originator ≡ o → Contains (announced_by q.steps) u ⊎ Contains stream u
          → Contains (own_updates start o) u ⊎ Contains (news p q) u
      of_news u is (inl c) = absurd (not_o u is (jq.sends.own u c))
      of_news u is (inr c) = of_stream u (k.none_else u c is)

      no_more : (u : Fields) → u.register.originator ≡ o → Contains (news q p) u ⊎ Contains mine u
          → Contains (own_updates start o) u ⊎ Contains (news p q) u
      no_more u is (inl c) = of_news u is (Contains-append_cases (announced_by q.steps) stream u c)
      no_more u is (inr c) = inr (Contains-append_right (announced_by p.steps) other u
          (filter_in (is_own o) other u c).1)

  -- m had taken the updates of o that came back
  mine_taken : (u : Fields) → Contains mine u → Contains ws u
  mine_taken u c = of_other (Contains-append_cases (said_by q.edges) (sent_by q.steps) u found.1)
    where
      found : (is_own o u ≡ true) × Contains other u
      found = filter_in (is_own o) other u c

      is : u.register.originator ≡ o
      is = exact_unsigned_eq u.register.originator o found.0

      back : IsBack q.steps u → Contains ws u
      back b = (jq.takes.then_held m em).from u.register u.value (at_m ∙ at_n)
        where
          named : u.register.originator ≡ b.0
          named = exact_unsigned_eq u.register.originator b.0
              (filter_in (is_own b.0) b.2.updates.items u b.5).0

          held : (n : ℕ) × IsEdge q n × (b.2.updates.items ≡ all_updates (q.held n))
          held = jq.sends.tables b.0 b.1 b.2 b.3 b.4

          at_n : value_at (q.held held.0) u.register ≡ Some u.value
          at_n = (own_updates_are (q.held held.0) b.0).own u
              (subst (λ (us : List Fields). Contains (own_of b.0 us) u) held.2 b.5)

          at_m : value_at (q.held m) u.register ≡ value_at (q.held held.0) u.register
          at_m = jq.sends.same m held.0 u.register em held.1
              (subst (λ (n : ℕ). IsEdge p n) (sym named) (jq.sends.named b.0 b.1 b.3))

      of_item : Contains (announced_by q.steps) u ⊎ IsBack q.steps u → Contains ws u
      of_item (inl c) = absurd (not_o u is (jq.sends.own u c))
      of_item (inr b) = back b

      of_other : Contains (said_by q.edges) u ⊎ Contains (sent_by q.steps) u → Contains ws u
      of_other (inl c) =
          let h = said_from q.edges u c in
          absurd (not_o u is (h.0, h.1))
      of_other (inr c) = of_item (sent_is q.steps u c)

  taken : IsTableOf (ws ++ written) (q.after m)
  taken = record {
    from = λ r v e. more (record { register = r; value = v })
        (Contains-append_cases (q.took m) (news q p) (record { register = r; value = v }) (new.from r v e));
    newest = λ u c. new.newest u (less u (Contains-append_cases ws written u c));
  }
    where
      new : IsTableOf (q.took m ++ news q p) (q.after m)
      new = jq.takes.ended m em

      more : (u : Fields) → Contains (q.took m) u ⊎ Contains (news q p) u → Contains (ws ++ written) u
      more u (inl c) = Contains-append_left ws written u (Contains-append_left (q.took m) (q.more m) u c)
      more u (inr c) = Contains-append_right ws written u (Contains-append_left (news q p) mine u c)

      had : (u : Fields) → Contains (q.took m) u ⊎ Contains (q.more m) u → Contains (q.took m ++ news q p) u
      had u (inl c) = Contains-append_left (q.took m) (news q p) u c
      had u (inr c) = Contains-append_right (q.took m) (news q p) u (jq.takes.of_news m u em c)

      of_ws : (u : Fields) → Contains ws u → Contains (q.took m ++ news q p) u
      of_ws u c = had u (Contains-append_cases (q.took m) (q.more m) u c)

      of_written : (u : Fields) → Contains (news q p) u ⊎ Contains mine u → Contains (q.took m ++ news q p) u
      of_written u (inl c) = Contains-append_right (q.took m) (news q p) u c
      of_written u (inr c) = of_ws u (mine_taken u c)

      less : (u : Fields) → Contains ws u ⊎ Contains written u → Contains (q.took m ++ news q p) u
      less u (inl c) = of_ws u c
      less u (inr c) = of_written u (Contains-append_cases (news q p) mine u c)

  took_back : TookBack o (q.held m) (p.took o ++ news p q)
  took_back u c = Contains-append_right (p.took o) (news p q) u (Contains-append_right (announced_by p.steps) other u
      (Contains-append_right (said_by q.edges) (sent_by q.steps) u
      (in_back o (q.held m) q.steps (jq.sends.back o m eo em) u c)))

  agree : (r : Register) → r.originator ≡ o → value_at (q.after m) r ≡ value_at (p.after o) r
  agree r is = meets o (p.took o) (news p q) written start (p.after o) (jp.takes.began o start eo.1)
      (jp.takes.ended o eo) carried ws (q.held m) (q.after m) (jq.takes.then_held m em) taken took_back r is

pub processes_agree : ProcessesAgree
processes_agree p q jp jq o m eo em r is = agree p q jp jq o m eo em r is

pub earlier_lives_end : EarlierLivesEnd
earlier_lives_end p q jp jq o m life eo em present r v is at =
    present r v is (sym (processes_agree p q jp jq o m eo em r is) ∙ at)
