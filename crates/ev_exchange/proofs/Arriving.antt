-- The effect of a stream on the table that takes it.
use Rattle.std.proofs.Common.{◌≡◌, ◌⊎◌, inl, inr, ℕ, ◌==◌, Bool, true, false, cond, Option, Some, None, List, [], ◌∷◌}
use Rattle.std.proofs.Common.{◌++◌, T, Contains, refl, sym, ap, subst, ◌∙◌, arith, eq-eqb}
use Rattle.std.proofs.lemmas.List.Elements.{Contains-append_left, Contains-append_right, Contains-append_cases}
use Rattle.std.proofs.lemmas.List.Elements.{Contains-push, Contains-push_cases}
use Rattle.std.proofs.lemmas.Map.Views.{exact_unsigned_eq}
use Rattle.std.specs.List.{filter}
use Rattle.std.specs.FinMap.{same_map}
use Rattle.std.specs.FinMap.Entries.{where_key, is_sorted, is_sorted-where_key}
use Rattle.route_wire.specs.declared.update.Register.{Register}
use Rattle.route_wire.specs.declared.update.Value.{Value}
use Rattle.route_wire.specs.Fields.{Fields}
use Rattle.route_wire.specs.Order.{register_cmp, is_newer}
use Rattle.route_wire.specs.Inner.Totals.{register_total, register_exact, neither_newer}
use Rattle.route_join.specs.Table.{Table, value_at, with_updates, table_from, entries_of, IsTableOf}
use Rattle.route_join.specs.Updates.{all_updates}
use Rattle.route_join.specs.Joins.{newer_of, join}
use Rattle.route_join.specs.Report.{report_of}
use Rattle.route_join.proofs.Abouts.{all_updates_are}
use Rattle.route_join.proofs.Joins.{not_newer_trans, none_taken, all_taken, join_of_tables, join_is}
use Rattle.route_join.proofs.Orders.{from_T}
use Rattle.route_join.proofs.Tables.{one_table}
use Rattle.ev_exchange.specs.Sending.{is_own, own_updates}
use Rattle.ev_exchange.specs.Laws.{OwnUpdatesAre, SaidIsCarried, NewestArrives, OwnRegistersAgree, BothAgree}
use Rattle.ev_exchange.specs.Laws.{MeetingAgrees, said_by, Carries, IsDelivered, TookBack}

-- ---- lists
module _ {X : Type 0} where
  pub first_in : (x : X) (xs : List X) → Contains (x ∷ xs) x
  first_in x xs = Contains-append_left (x ∷ []) xs x (Contains-push [] x)

  pub first_or_later : (x : X) (xs : List X) (y : X) → Contains (x ∷ xs) y → (x ≡ y) ⊎ Contains xs y
  first_or_later x xs y c = go (Contains-append_cases (x ∷ []) xs y c)
    where
      first : Contains [] y ⊎ (x ≡ y) → (x ≡ y) ⊎ Contains xs y
      first (inl none) = absurd (omega (arith, none.1))
      first (inr e) = inl e

      go : Contains (x ∷ []) y ⊎ Contains xs y → (x ≡ y) ⊎ Contains xs y
      go (inl one) = first (Contains-push_cases [] x y one)
      go (inr more) = inr more

  pub filter_in : (p : X → Bool) (xs : List X) (y : X) → Contains (filter p xs) y → (p y ≡ true) × Contains xs y
  filter_in p [] y c = absurd (omega (arith, c.1))
  filter_in p (x ∷ xs) y c = go (filter_in p xs y) (p x) refl c
    where
      later : (p y ≡ true) × Contains xs y → (p y ≡ true) × Contains (x ∷ xs) y
      later r = (r.0, Contains-append_right (x ∷ []) xs y r.1)

      either : (Contains (filter p xs) y → (p y ≡ true) × Contains xs y) → p x ≡ true
          → (x ≡ y) ⊎ Contains (filter p xs) y → (p y ≡ true) × Contains (x ∷ xs) y
      either rest e (inl same) = (subst (λ z. p z ≡ true) same e, subst (λ z. Contains (x ∷ xs) z) same (first_in x xs))
      either rest e (inr c) = later (rest c)

      go : (Contains (filter p xs) y → (p y ≡ true) × Contains xs y) → (b : Bool) → p x ≡ b
          → Contains (cond b (x ∷ filter p xs) (filter p xs)) y → (p y ≡ true) × Contains (x ∷ xs) y
      go rest true e c = either rest e (first_or_later x (filter p xs) y c)
      go rest false e c = later (rest c)

  pub filter_has : (p : X → Bool) (xs : List X) (y : X) → p y ≡ true → Contains xs y → Contains (filter p xs) y
  filter_has p [] y e c = absurd (omega (arith, c.1))
  filter_has p (x ∷ xs) y e c = go (filter_has p xs y e) (p x) refl (first_or_later x xs y c)
    where
      go : (Contains xs y → Contains (filter p xs) y) → (b : Bool) → p x ≡ b → (x ≡ y) ⊎ Contains xs y
          → Contains (cond b (x ∷ filter p xs) (filter p xs)) y
      go rest true f (inl same) = subst (λ z. Contains (x ∷ filter p xs) z) same (first_in x (filter p xs))
      go rest true f (inr c) = Contains-append_right (x ∷ []) (filter p xs) y (rest c)
      go rest false f (inl same) = let yes : p x ≡ true = subst (λ z. p z ≡ true) (sym same) e in cc
      go rest false f (inr c) = rest c

-- ---- the updates that an edge sends
own_entries : (o : ℕ) (us : List Fields) → entries_of (filter (is_own o) us)
    ≡ where_key register_cmp (λ (r : Register). r.originator == o) (entries_of us)
own_entries o [] = refl
own_entries o (u ∷ us) = go (own_entries o us) (u.register.originator == o)
  where
    -- the entries of one originator
    own : List (Register × Value) → List (Register × Value)
    own es = where_key register_cmp (λ (r : Register). r.originator == o) es

    go : entries_of (filter (is_own o) us) ≡ own (entries_of us) → (b : Bool)
        → entries_of (cond b (u ∷ filter (is_own o) us) (filter (is_own o) us))
        ≡ cond b ((u.register, u.value) ∷ own (entries_of us)) (own (entries_of us))
    go rest true = ap (λ x. (u.register, u.value) ∷ x) rest
    go rest false = rest

pub own_updates_are : OwnUpdatesAre
own_updates_are t o = record {
  named = λ u c. exact_unsigned_eq u.register.originator o (filter_in (is_own o) (all_updates t) u c).0;
  own = λ u c. (all_updates_are t).own u (filter_in (is_own o) (all_updates t) u c).1;
  all = λ r v e at. filter_has (is_own o) (all_updates t) (record { register = r; value = v }) (eq-eqb r.originator o e)
      ((all_updates_are t).all r v at);
  ordered = ap (is_sorted register_cmp) (own_entries o (all_updates t))
      ∙ from_T _ (is_sorted-where_key register_cmp (λ (r : Register). r.originator == o) (entries_of (all_updates t))
      (subst T (sym (all_updates_are t).ordered) tt));
}

-- ---- the updates that a stream carries
said_of : (edges : List (ℕ × Table)) (o : ℕ) (t : Table) (u : Fields) → Contains edges (o, t)
    → Contains (own_updates t o) u → Contains (said_by edges) u
said_of [] o t u c own = absurd (omega (arith, c.1))
said_of (e ∷ edges) o t u c own = go (λ more. said_of edges o t u more own) (first_or_later e edges (o, t) c)
  where
    go : (Contains edges (o, t) → Contains (said_by edges) u) → (e ≡ (o, t)) ⊎ Contains edges (o, t)
        → Contains (own_updates e.1 e.0 ++ said_by edges) u
    go rest (inl same) = Contains-append_left (own_updates e.1 e.0) (said_by edges) u
        (subst (λ (x : ℕ × Table). Contains (own_updates x.1 x.0) u) (sym same) own)
    go rest (inr c) = Contains-append_right (own_updates e.1 e.0) (said_by edges) u (rest c)

-- each sent update is of one of the edges
pub said_from : (edges : List (ℕ × Table)) (u : Fields) → Contains (said_by edges) u
    → (t : Table) × Contains edges (u.register.originator, t) × Contains (own_updates t u.register.originator) u
said_from [] u c = absurd (omega (arith, c.1))
said_from (e ∷ edges) u c = go (said_from edges u) (Contains-append_cases (own_updates e.1 e.0) (said_by edges) u c)
  where
    Found : List (ℕ × Table) → Type 0
    Found es = (t : Table) × Contains es (u.register.originator, t) × Contains (own_updates t u.register.originator) u

    go : (Contains (said_by edges) u → Found edges) → Contains (own_updates e.1 e.0) u ⊎ Contains (said_by edges) u
        → Found (e ∷ edges)
    go rest (inl own) =
        let is : e.0 ≡ u.register.originator = sym ((own_updates_are e.1 e.0).named u own) in (
          e.1,
          subst (λ (n : ℕ). Contains (e ∷ edges) (n, e.1)) is (first_in e edges),
          subst (λ (n : ℕ). Contains (own_updates e.1 n) u) is own,
        )
    go rest (inr c) =
        let h = rest c in
        (h.0, Contains-append_right (e ∷ []) edges (u.register.originator, h.0) h.1, h.2)

pub said_is_carried : SaidIsCarried
said_is_carried edges since o start there one = record {
  said = λ u c. Contains-append_left (said_by edges) since u (said_of edges o start u there c);
  announced = λ u c is. Contains-append_right (said_by edges) since u c;
  none_else = λ u c is. go u is (Contains-append_cases (said_by edges) since u c);
}
  where
    go : (u : Fields) → u.register.originator ≡ o → Contains (said_by edges) u ⊎ Contains since u
        → Contains (own_updates start o) u ⊎ Contains since u
    go u is (inl c) =
        let h = said_from edges u c in
        let same = one h.0 (subst (λ (n : ℕ). Contains edges (n, h.0)) is h.1) in
        inl (subst (λ (t : Table). Contains (own_updates t o) u) same
        (subst (λ (n : ℕ). Contains (own_updates h.0 n) u) is h.2))
    go u is (inr c) = inr c

-- ---- the effect on a table
-- u is no newer than the table's value at its register
abbrev IsThere : Table → Fields → Type 0
IsThere t u = (v : Value) × (value_at t u.register ≡ Some v) × (is_newer u.value v ≡ false)

-- if each of the two sets' updates of a register is in the other set's table, the tables agree on it
same_at : (us vs : List Fields) (s t : Table) (r : Register) → IsTableOf us s → IsTableOf vs t
    → ((v : Value) → Contains us (record { register = r; value = v }) → IsThere t (record { register = r; value = v }))
    → ((v : Value) → Contains vs (record { register = r; value = v }) → IsThere s (record { register = r; value = v }))
    → value_at s r ≡ value_at t r
same_at us vs s t r a b there back = go (value_at s r) refl (value_at t r) refl
  where
    go : (x : Option Value) → value_at s r ≡ x → (y : Option Value) → value_at t r ≡ y → value_at s r ≡ value_at t r
    go None p None q = p ∙ sym q
    go None p (Some w) q = let n = back w (b.from r w q) in let there = n.1 in cc
    go (Some v) p None q = let n = there v (a.from r v p) in let there = n.1 in cc
    go (Some v) p (Some w) q =
        let n = there v (a.from r v p) in
        let m = back w (b.from r w q) in
        let nw : n.0 ≡ w = let e = n.1 in cc in
        let mv : m.0 ≡ v = let e = m.1 in cc in
        p ∙ ap Some (neither_newer v w (ap (is_newer v) (sym nw) ∙ n.2) (ap (is_newer w) (sym mv) ∙ m.2)) ∙ sym q

-- carried updates are in the other edge's table
module _ (o : ℕ) (us since written : List Fields) (start now : Table) (began : IsTableOf us start)
    (went_on : IsTableOf (us ++ since) now) (carried : Carries o start since written) where
  -- the updates that o's table took are in a table that took `written`
  own_there : (taken : List Fields) (after : Table) → ((u : Fields) → Contains written u → Contains taken u)
      → IsTableOf taken after → (r : Register) → r.originator ≡ o → (v : Value)
      → Contains (us ++ since) (record { register = r; value = v }) → IsThere after (record { register = r; value = v })
  own_there taken after all table r is v c = go (Contains-append_cases us since (record { register = r; value = v }) c)
    where
      said : (w : Value) → value_at start r ≡ Some w → Contains written (record { register = r; value = w })
      said w at = carried.said (record { register = r; value = w }) ((own_updates_are start o).all r w is at)

      go : Contains us (record { register = r; value = v }) ⊎ Contains since (record { register = r; value = v })
          → IsThere after (record { register = r; value = v })
      go (inl c) =
          let n = began.newest (record { register = r; value = v }) c in
          let m = table.newest (record { register = r; value = n.0 }) (all _ (said n.0 n.1)) in
          (m.0, m.1, not_newer_trans m.0 n.0 v m.2 n.2)
      go (inr c) = table.newest (record { register = r; value = v }) (all _ (carried.announced _ c is))

  -- o's table took the updates of o in `written`
  from_own : (u : Fields) → Contains written u → u.register.originator ≡ o → Contains (us ++ since) u
  from_own u c is = go (carried.none_else u c is)
    where
      go : Contains (own_updates start o) u ⊎ Contains since u → Contains (us ++ since) u
      go (inl own) = Contains-append_left us since u (began.from u.register u.value
          ((own_updates_are start o).own u own))
      go (inr c) = Contains-append_right us since u c

  pub agrees : (taken : List Fields) (after : Table) → IsDelivered o (us ++ since) written taken → IsTableOf taken after
      → (r : Register) → r.originator ≡ o → value_at after r ≡ value_at now r
  agrees taken after d table r is = same_at taken (us ++ since) after now r table went_on
      (λ v c. went_on.newest (record { register = r; value = v }) (d.announced _ c is))
      (own_there taken after d.all table r is)

  pub arrives : (ws : List Fields) (before after : Table) → IsTableOf ws before → IsTableOf (ws ++ written) after
      → (r : Register) → r.originator ≡ o → value_at after r ≡ newer_of (value_at before r) (value_at now r)
  arrives ws before after old new r is =
      ap (λ m. value (record { originators = after.originators; registers = m }))
      (one_table (ws ++ written) (ws ++ written) after (join before alone)
      (record { there = λ u c. c; back = λ u c. c })
      new (join_of_tables ws written before alone old apart))
      ∙ join_is before alone r
      ∙ ap (newer_of (value_at before r)) (same_at written (us ++ since) alone now r apart went_on
      (λ v c. went_on.newest (record { register = r; value = v }) (from_own _ c is))
      (own_there written alone (λ u c. c) apart r is))
    where
      value : Table → Option Value
      value t = value_at t r

      -- the table of `written`
      alone : Table
      alone = with_updates (table_from [] []) written

      apart : IsTableOf written alone
      apart = all_taken [] written (table_from [] []) (none_taken [])

  pub meets : (ws : List Fields) (before after : Table) → IsTableOf ws before → IsTableOf (ws ++ written) after
      → TookBack o before (us ++ since) → (r : Register) → r.originator ≡ o → value_at after r ≡ value_at now r
  meets ws before after old new back r is = same_at (ws ++ written) (us ++ since) after now r new went_on known
      (own_there (ws ++ written) after (λ u c. Contains-append_right ws written u c) new r is)
    where
      -- the updates of o that the table had, for example from an earlier life, were sent back
      held : (v : Value) → Contains ws (record { register = r; value = v })
          → IsThere now (record { register = r; value = v })
      held v c =
          let n = old.newest (record { register = r; value = v }) c in
          let m = went_on.newest (record { register = r; value = n.0 })
          (back _ ((own_updates_are before o).all r n.0 is n.1)) in
          (m.0, m.1, not_newer_trans m.0 n.0 v m.2 n.2)

      go : (v : Value) → Contains ws (record { register = r; value = v })
          ⊎ Contains written (record { register = r; value = v }) → IsThere now (record { register = r; value = v })
      go v (inl c) = held v c
      go v (inr c) = went_on.newest (record { register = r; value = v }) (from_own _ c is)

      known : (v : Value) → Contains (ws ++ written) (record { register = r; value = v })
          → IsThere now (record { register = r; value = v })
      known v c = go v (Contains-append_cases ws written (record { register = r; value = v }) c)

pub newest_arrives : NewestArrives
newest_arrives o us since written ws start now before after a b c old new =
    arrives o us since written start now a b c ws before after old new

pub own_registers_agree : OwnRegistersAgree
own_registers_agree o us since written taken start now after a b c d table =
    agrees o us since written start now a b c taken after d table

pub meeting_agrees : MeetingAgrees
meeting_agrees o us since written ws start now before after a b c old new back =
    meets o us since written start now a b c ws before after old new back

pub both_agree : BothAgree
both_agree o p us since written vs later back a a' b b' one other there here mine theirs = (same, ap_report same)
  where
    at_o : (r : Register) → r.originator ≡ o → value_at b' r ≡ value_at a' r
    at_o = agrees o us since written a a' one.began one.went_on one.carried (vs ++ later) b' there other.went_on

    at_p : (r : Register) → r.originator ≡ p → value_at a' r ≡ value_at b' r
    at_p = agrees p vs later back b b' other.began other.went_on other.carried (us ++ since) a' here one.went_on

    either : (r : Register) → (r.originator ≡ o) ⊎ (r.originator ≡ p) → value_at a' r ≡ value_at b' r
    either r (inl is) = sym (at_o r is)
    either r (inr is) = at_p r is

    go : (r : Register) (x : Option Value) → value_at a' r ≡ x → (y : Option Value) → value_at b' r ≡ y
        → value_at a' r ≡ value_at b' r
    go r (Some v) e y f = either r (mine r v e)
    go r None e (Some w) f = either r (theirs r w f)
    go r None e None f = e ∙ sym f

    same : a'.registers ≡ b'.registers
    same = same_map register_total register_exact a'.registers b'.registers
        (λ r. go r (value_at a' r) refl (value_at b' r) refl)

    ap_report : a'.registers ≡ b'.registers → report_of a' ≡ report_of b'
    ap_report e = ap (λ registers. report_of (record { originators = []; registers = registers })) e
