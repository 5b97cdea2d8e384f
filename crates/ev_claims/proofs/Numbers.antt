-- the invariant of own registers when the edge makes or takes an update
use Rattle.std.proofs.Common.{◌≡◌, ◌≢◌, ◌⊎◌, inl, inr, ℕ, ◌≤◌, Bool, true, false, cond, Option, Some, None, List}
use Rattle.std.proofs.Common.{[], ◌∷◌, ◌++◌, refl, sym, ap, ◌∙◌, arith}
use Rattle.std.proofs.lemmas.Option.{same_Some}
use Rattle.std.proofs.lemmas.List.Elements.{Contains-push_cases}
use Rattle.std.specs.Prelude.{Contains}
use Rattle.std.specs.List.{list_any}
use Rattle.std.specs.Ordering.{eq_by_cmp}
use Rattle.route_wire.specs.declared.update.Key.{Key}
use Rattle.route_wire.specs.declared.update.Register.{Register}
use Rattle.route_wire.specs.declared.update.Content.{Content}
use Rattle.route_wire.specs.declared.update.Value.{Value}
use Rattle.route_wire.specs.Fields.{Fields}
use Rattle.route_wire.specs.Order.{register_cmp}
use Rattle.route_join.specs.Table.{register_of, is_news, with_update}
use Rattle.route_join.specs.Owner.{advert_at}
use Rattle.route_join.proofs.Tables.{same_or_other, at_same, at_other}
use Rattle.route_join.proofs.Joins.{update_other}
use Rattle.route_join.proofs.Merging.{same_listeners}
use Rattle.ev_claims.specs.Pending.{marked}
use Rattle.ev_claims.specs.Speaker.{Speaker, own_register, own, KeepsNumbers, next_value, after_originating}
use Rattle.ev_claims.specs.Inner.Speaker.{HasRooms}
use Rattle.ev_claims.specs.Speaker.{after_importing}
use Rattle.route_wire.proofs.Newer.{next_newer}

pub key_or_other : (k j : Key) → (k ≡ j) ⊎ (k ≢ j)
key_or_other k j = elim (same_or_other (register_of 0 k) (register_of 0 j)) [
  | inl e ↦ inl (ap (λ (r : Register). r.key) e)
  | inr ne ↦ inr (λ e. ne (rw e))
]

pub own_same : (e : Speaker) (k : Key) (c : Content) → own (after_originating e k c) k ≡ Some (next_value e c)
own_same e k c = at_same e.table (own_register e k) (next_value e c)

pub own_other : (e : Speaker) (k : Key) (c : Content) (j : Key) → j ≢ k → own (after_originating e k c) j ≡ own e j
own_other e k c j ne = at_other e.table (own_register e k) _ (own_register e j)
    (λ h. ne (ap (λ (r : Register). r.key) h))

pub key_stays : (e : Speaker) (k : Key) (c : Content) (j : Key) (o : ℕ) → j ≢ k
    → advert_at (after_originating e k c).table o j ≡ advert_at e.table o j
key_stays e k c j o ne = rw (at_other e.table (own_register e k) _ (register_of o j) (λ h. ne (ap (λ
    (q : Register). q.key) h)))

-- ---- the registers that wait

pub marked_only : (rs : List Register) (r q : Register) → Contains (marked rs r) q → Contains rs q ⊎ (r ≡ q)
marked_only rs r q = go (list_any (eq_by_cmp register_cmp r) rs)
  where
    go : (b : Bool) → Contains (cond b rs (rs ++ r ∷ [])) q → Contains rs q ⊎ (r ≡ q)
    go true h = inl h
    go false h = Contains-push_cases rs r q h

-- ---- saying something

module _ (e : Speaker) (k : Key) (c : Content) where
  pub now_said : {j : Key} {v : Value} → j ≡ k → own (after_originating e k c) j ≡ Some v → next_value e c ≡ v
  now_said {v = v} same is = same_Some (next_value e c) v (sym (own_same e k c) ∙ rw same at is)

  pub said_before : {j : Key} {v : Value} → j ≢ k → own (after_originating e k c) j ≡ Some v → own e j ≡ Some v
  said_before {j} ne is = sym (own_other e k c j ne) ∙ is

  -- the table that takes the next own update has it, if the present value has an earlier number
  pub news_joins : ((v : Value) → own e k ≡ Some v → v.incarnation ≤ e.incarnation)
      → ((v : Value) → own e k ≡ Some v → v.incarnation ≡ e.incarnation → v.counter ≤ e.counter)
      → with_update e.table (record { register = own_register e k; value = next_value e c })
      ≡ (after_originating e k c).table
  news_joins past counted = rw (go (own e k) refl)
    where
      go : (o : Option Value) → own e k ≡ o → is_news o (next_value e c) ≡ true
      go None is = refl
      go (Some v) is = next_newer v _ (past v is) (λ same. omega (arith, counted v is same))

  pub said_numbers : KeepsNumbers e → KeepsNumbers (after_originating e k c)
  said_numbers h = record {
    counted = λ j v is present. elim (key_or_other j k) [
      | inl same ↦ rw (← now_said same is) (omega arith)
      | inr ne ↦ omega (arith, h.counted j v (said_before ne is) present)
    ];
    distinct = λ i j v w at_i at_j here there same. elim (key_or_other i k) [
      | inl i_is ↦ elim (key_or_other j k) [
        | inl j_is ↦ i_is ∙ sym j_is
        | inr ne ↦ absurd (omega (
          arith,
          ap (λ (q : Value). q.counter) (now_said i_is at_i),
          h.counted j w
              (said_before ne at_j) there,
        ))
      ]
      | inr ne ↦ elim (key_or_other j k) [
        | inl j_is ↦ absurd (omega (
          arith,
          ap (λ (q : Value). q.counter) (now_said j_is at_j),
          h.counted i v
              (said_before ne at_i) here,
        ))
        | inr other ↦ h.distinct i j v w (said_before ne at_i) (said_before other at_j) here there same
      ]
    ];
    past = λ j v is. elim (key_or_other j k) [
      | inl same ↦ rw (← now_said same is) (omega arith)
      | inr ne ↦ h.past j v (said_before ne is)
    ];
    alive = λ j v is some. elim (key_or_other j k) [
      | inl same ↦ rw (← now_said same is)
      | inr ne ↦ h.alive j v (said_before ne is) some
    ];
    known = h.known;
    pending = λ r in'. elim (same_or_other r (own_register e k)) [
      | inl same ↦ (next_value e c, rw same (own_same e k c), refl, rw same)
      | inr ne ↦ elim (marked_only e.pending (own_register e k) r in') [
        | inl earlier ↦ let p = h.pending r earlier in (
          p.0,
          at_other e.table (own_register e k) (next_value e c) r ne ∙ p.1,
          p.2,
          p.3,
        )
        | inr same ↦ absurd (ne (sym same))
      ]
    ];
  }

  -- so the table that takes it has it
  pub said_joins : KeepsNumbers e → with_update e.table (record {
    register = own_register e k;
    value = next_value e c;
  }) ≡ (after_originating e k c).table
  said_joins h = news_joins (h.past k) (h.counted k)

  pub said_rooms : (known : List Register) → Contains known (own_register e k) → HasRooms e known
      → HasRooms (after_originating e k c) known
  said_rooms known here h j v is present = elim (key_or_other j k) [
    | inl same ↦ rw same here
    | inr ne ↦ h j v (said_before ne is) present
  ]

-- ---- hearing something of another
pub own_stays : (e : Speaker) (u : Fields) → u.register.originator ≢ e.address → (k : Key)
    → own (after_importing e u) k ≡ own e k
own_stays e u other k = update_other e.table u.register u.value (own_register e k)
    (λ same. other (ap (λ (r : Register). r.originator) (sym same)))

pub heard_numbers : (e : Speaker) (u : Fields) → u.register.originator ≢ e.address → KeepsNumbers e
    → KeepsNumbers (after_importing e u)
heard_numbers e u other h = record {
  counted = λ k v is. h.counted k v (before k is);
  distinct = λ k j v w at_k at_j. h.distinct k j v w (before k at_k) (before j at_j);
  past = λ k v is. h.past k v (before k is);
  alive = λ k v is. h.alive k v (before k is);
  known = rw (same_listeners e.table u) h.known;
  pending = λ r in'. let p = h.pending r in' in (
    p.0,
    update_other e.table u.register u.value r
        (λ same. other (ap (λ (q : Register). q.originator) (sym same) ∙ p.3)) ∙ p.1,
    p.2,
    p.3,
  );
}
  where
    before : (k : Key) {v : Value} → own (after_importing e u) k ≡ Some v → own e k ≡ Some v
    before k is = sym (own_stays e u other k) ∙ is

pub heard_rooms : (e : Speaker) (u : Fields) (known : List Register) → u.register.originator ≢ e.address
    → HasRooms e known → HasRooms (after_importing e u) known
heard_rooms e u known other h k v is = h k v (sym (own_stays e u other k) ∙ is)
