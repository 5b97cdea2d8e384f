-- The pool still accounts for an edge's table when the edge makes, takes or announces an update.
use Rattle.std.proofs.Common.{◌≡◌, ◌≢◌, ◌⊎◌, inl, inr, ℕ, zero, suc, ◌+◌, ◌<◌, Bool, true, false, cond, Some, None}
use Rattle.std.proofs.Common.{List, [], ◌∷◌, ◌++◌, refl, sym, ap, subst, ◌∙◌, arith}
use Rattle.std.proofs.lemmas.Bool.{cases_Bool, or_cases, or_right}
use Rattle.std.proofs.lemmas.List.Elements.{Contains-append_left, Contains-push, Contains-push_cases}
use Rattle.std.specs.Prelude.{Contains}
use Rattle.std.specs.List.{list_any}
use Rattle.std.specs.Ordering.{eq_by_cmp}
use Rattle.route_wire.specs.declared.update.Key.{Key}
use Rattle.route_wire.specs.declared.update.Key.TheVariants.{Flood, Mac}
use Rattle.route_wire.specs.declared.update.Register.{Register}
use Rattle.route_wire.specs.declared.update.Content.{Content}
use Rattle.route_wire.specs.declared.update.Content.TheVariants.{Withdrawn}
use Rattle.route_wire.specs.declared.update.Value.{Value}
use Rattle.route_wire.specs.Fields.{Fields}
use Rattle.route_wire.specs.Order.{register_cmp, is_newer}
use Rattle.route_wire.proofs.Newer.{not_newer_lower, not_newer_itself}
use Rattle.route_join.specs.Table.{Table, value_at, is_news, with_value, with_update}
use Rattle.route_join.proofs.Tables.{same_or_other, same_register, itself_register, at_same, at_other}
use Rattle.route_join.proofs.Joins.{update_other}
use Rattle.ev_claims.specs.Pending.{marked}
use Rattle.ev_claims.specs.Speaker.{Speaker, KeepsNumbers, own_register, next_value, after_originating, after_importing}
use Rattle.ev_claims.specs.Speaker.{after_importing_own, is_newest, is_ahead, is_returning}
use Rattle.ev_claims.proofs.Numbers.{said_numbers}
use Rattle.ev_claims.proofs.Hearing.{not_present, past_if_newest, refuted_is}
use Rattle.ev_fabric.specs.Sound.{update_of, IsBehind, IsTold}

-- ---- the pending registers
-- a register of the list is found, and no other
found : (rs : List Register) (r : Register) → list_any (eq_by_cmp register_cmp r) rs ≡ true → Contains rs r
found [] r e = cc
found (x ∷ rs) r e = elim (or_cases _ _ e) [
  | inl here ↦ (0, omega arith, sym (same_register r x here))
  | inr later ↦ let h = found rs r later in (suc h.0, omega (arith, h.1), h.2)
]

has_any : (rs : List Register) (r : Register) → Contains rs r → list_any (eq_by_cmp register_cmp r) rs ≡ true
has_any [] r (k, lt, is) = absurd (omega arith)
has_any (x ∷ rs) r (zero, lt, is) = rw (is, itself_register r)
has_any (x ∷ rs) r (suc k, lt, is) = or_right _ _ (has_any rs r (k, omega arith, is))

-- it is marked already, or comes last
pub marked_cases : (rs : List Register) (r : Register) → (Contains rs r × (marked rs r ≡ rs))
    ⊎ ((Contains rs r → ⊥) × (marked rs r ≡ rs ++ r ∷ []))
marked_cases rs r = elim (cases_Bool (list_any (eq_by_cmp register_cmp r) rs)) [
  | inl e ↦ inl (found rs r e, rw e)
  | inr e ↦ inr (λ in'. cc (has_any rs r in'), rw e)
]

marked_keeps : (rs : List Register) (r q : Register) → Contains rs q → Contains (marked rs r) q
marked_keeps rs r q in' = elim (marked_cases rs r) [
  | inl h ↦ rw h.1 in'
  | inr h ↦ rw h.1 (Contains-append_left rs (r ∷ []) q in')
]

marked_has : (rs : List Register) (r : Register) → Contains (marked rs r) r
marked_has rs r = elim (marked_cases rs r) [ inl h ↦ rw h.1 h.0 | inr h ↦ rw h.1 (Contains-push rs r) ]

pub behind_not_newer : {n : ℕ} {t : Table} {u : Fields} (b : IsBehind n t u) → is_newer u.value b.says ≡ false
behind_not_newer {u = u} b = elim b.order [
  | inl equal ↦ rw (← equal) (not_newer_itself u.value)
  | inr less ↦ not_newer_lower u.value b.says (b.present ∙ sym b.alive) less
]

-- ---- an own register changes
said_behind : {e : Speaker} (k : Key) (c : Content) → KeepsNumbers e → {u : Fields} → u.register.originator ≡ e.address
    → IsBehind e.incarnation e.table u → IsBehind e.incarnation (after_originating e k c).table u
said_behind {e} k c h {u} mine b = elim (same_or_other u.register (own_register e k)) [
  | inl same ↦ record {
    present = b.present;
    says = next_value e c;
    there = rw same (at_same e.table (own_register e k) (next_value e c));
    alive = refl;
    order = inr (lower b.order);
  }
  | inr ne ↦ record {
    present = b.present;
    says = b.says;
    there = at_other e.table (own_register e k) (next_value e c) u.register ne ∙ b.there;
    alive = b.alive;
    order = b.order;
  }
]
  where
    named : u.register ≡ own_register e u.register.key
    named = λ i. let q : Register = record { originator = mine i; key = u.register.key } in q

    bound : b.says.counter < e.counter + 1
    bound = omega (arith, h.counted u.register.key b.says (rw (← named) b.there) b.alive)

    lower : (u.value ≡ b.says) ⊎ (u.value.counter < b.says.counter) → u.value.counter < e.counter + 1
    lower (inl same) = omega (arith, ap (λ (w : Value). w.counter) same, bound)
    lower (inr less) = omega (arith, bound)

said_told : {pool : List Fields} {e : Speaker} (k : Key) (c : Content) → KeepsNumbers e → IsTold pool e
    → IsTold pool (after_originating e k c)
said_told {e} k c h told = record {
  foreign = λ r v other is. told.foreign r v other (sym
      (at_other e.table (own_register e k) (next_value e c) r
      (λ same. other (rw same))) ∙ is);
  own = λ r v mine is quiet. elim (same_or_other r (own_register e k)) [
    | inl same ↦ absurd (quiet (rw same (marked_has e.pending (own_register e k))))
    | inr ne ↦ told.own r v mine (sym (at_other e.table (own_register e k) (next_value e c) r ne) ∙ is)
        (λ in'. quiet (marked_keeps e.pending (own_register e k) r in'))
  ];
  behind = λ u in' mine. elim (told.behind u in' mine) [
    | inl earlier ↦ inl earlier
    | inr b ↦ inr (said_behind k c h mine b)
  ];
}

-- ---- an update of the pool is taken
heard_cases : (t : Table) (u : Fields) (r : Register) {v : Value} → value_at (with_update t u) r ≡ Some v
    → (value_at t r ≡ Some v) ⊎ ((r ≡ u.register) × (v ≡ u.value))
heard_cases t u r {v} is = elim (same_or_other r u.register) [
  | inl same ↦ here same (is_news (value_at t u.register) u.value) is
  | inr ne ↦ inl (sym (update_other t u.register u.value r ne) ∙ is)
]
  where
    here : r ≡ u.register → (b : Bool) → value_at (cond b (with_value t u.register u.value) t) r ≡ Some v
        → (value_at t r ≡ Some v) ⊎ ((r ≡ u.register) × (v ≡ u.value))
    here same false is = inl is
    here same true is =
        let both : Some u.value ≡ Some v = sym (at_same t u.register u.value)
        ∙ ap (value_at (with_value t u.register u.value)) (sym same) ∙ is in
        inr (same, cc)

was_announced : (pool : List Fields) (u : Fields) (r : Register) (v : Value) → Contains pool u → r ≡ u.register
    → v ≡ u.value → Contains pool (update_of r v)
was_announced pool u r v in' same equal = subst (Contains pool) (λ i. update_of (sym same i) (sym equal i)) in'

-- it replaces none of the edge's own values of this incarnation
taken_told : {pool : List Fields} {e : Speaker} {u : Fields} → Contains pool u
    → ((r : Register) (v : Value) → r.originator ≡ e.address → value_at e.table r ≡ Some v
    → v.incarnation ≡ e.incarnation → r ≢ u.register)
    → IsTold pool e → IsTold pool (after_importing e u)
taken_told {pool} {e} {u} in' other told = record {
  foreign = λ r v ne is. elim (heard_cases e.table u r is) [
    | inl before ↦ told.foreign r v ne before
    | inr new ↦ was_announced pool u r v in' new.0 new.1
  ];
  own = λ r v mine is quiet. elim (heard_cases e.table u r is) [
    | inl before ↦ told.own r v mine before quiet
    | inr new ↦ was_announced pool u r v in' new.0 new.1
  ];
  behind = λ w there mine. elim (told.behind w there mine) [
    | inl earlier ↦ inl earlier
    | inr b ↦ inr (record {
      present = b.present;
      says = b.says;
      there = update_other e.table u.register u.value w.register (other w.register b.says mine b.there b.alive)
          ∙ b.there;
      alive = b.alive;
      order = b.order;
    })
  ];
}

-- another's
pub heard_told : {pool : List Fields} {e : Speaker} {u : Fields} → Contains pool u → u.register.originator ≢ e.address
    → IsTold pool e → IsTold pool (after_importing e u)
heard_told in' other = taken_told in'
    (λ r v mine is alive same. other (rw (← same) mine))

pub own_told : {pool : List Fields} {e : Speaker} {u : Fields} → Contains pool u → KeepsNumbers e
    → u.register.originator ≡ e.address → is_ahead e u ≡ false → IsTold pool e → IsTold pool (after_importing_own e u)
own_told {e = e} {u = u} in' h mine ahead told = elim (cases_Bool (is_returning e u)) [
  | inl back ↦ rw (back, refuted_is e u Withdrawn mine) (said_told u.register.key Withdrawn h told)
  | inr stays ↦ rw stays (elim (cases_Bool (is_newest e u)) [
    | inl newest ↦ taken_told in'
        (λ r v _ is alive same. not_present e u v newest (past_if_newest e u ahead newest) (rw (← same) is) alive) told
    | inr known ↦ rw known told
  ])
]

-- ---- announcing

-- the pool grows by another's update
pub grown_told : {pool : List Fields} (u : Fields) {e : Speaker} → u.register.originator ≢ e.address → IsTold pool e
    → IsTold (pool ++ u ∷ []) e
grown_told {pool} u other told = record {
  foreign = λ r v ne is. Contains-append_left pool (u ∷ []) _ (told.foreign r v ne is);
  own = λ r v mine is quiet. Contains-append_left pool (u ∷ []) _ (told.own r v mine is quiet);
  behind = λ w in' mine. elim (Contains-push_cases pool u w in') [
    | inl before ↦ told.behind w before mine
    | inr same ↦ absurd (other (rw same mine))
  ];
}

-- the edge itself announces: its first pending register, with its own value
pub announced_told : {pool : List Fields} {e : Speaker} (r : Register) (rs : List Register) {v : Value}
    → e.pending ≡ r ∷ rs → value_at e.table r ≡ Some v → v.incarnation ≡ e.incarnation → IsTold pool e
    → IsTold (pool ++ update_of r v ∷ []) (record e { pending = rs })
announced_told {pool} {e} r rs {v} at is present told = record {
  foreign = λ q w ne here. Contains-append_left pool _ _ (told.foreign q w ne here);
  own = λ q w mine here quiet. elim (same_or_other q r) [
    | inl same ↦
        let at_r : value_at e.table r ≡ Some w = rw same at here in
        let equal : v ≡ w = cc in
        subst (Contains (pool ++ update_of r v ∷ [])) (λ i. update_of (sym same i) (equal i))
        (Contains-push pool (update_of r v))
    | inr ne ↦ Contains-append_left pool _ _ (told.own q w mine here
        (λ in'. quiet (first_gone q ne (subst (λ l. Contains l q) at in'))))
  ];
  behind = λ w in' mine. elim (Contains-push_cases pool (update_of r v) w in') [
    | inl before ↦ told.behind w before mine
    | inr same ↦ inr (record {
      present = rw (← same) present;
      says = v;
      there = rw (← same) is;
      alive = present;
      order = inl (rw (← same));
    })
  ];
}
  where
    first_gone : (q : Register) → q ≢ r → Contains (r ∷ rs) q → Contains rs q
    first_gone q ne (zero, lt, is) = absurd (ne (sym is))
    first_gone q ne (suc i, lt, is) = (i, omega arith, is)

-- ---- own values change only by own updates

-- a key with no IP address
abbrev pub is_bare : Key → Bool
is_bare (Flood v) = true
is_bare (Mac v m None) = true
is_bare (Mac v m (Some ip)) = false

pub data Talks (e : Speaker) : Speaker → Type 0 where
  Quiet : Talks e e
  Says : (v : Speaker) (k : Key) (c : Content) → is_bare k ≡ true → Talks e v → Talks e (after_originating v k c)

pub talks_numbers : {e v : Speaker} → Talks e v → KeepsNumbers e → KeepsNumbers v
talks_numbers Quiet h = h
talks_numbers (Says v k c bare t) h = said_numbers v k c (talks_numbers t h)

pub talks_told : {pool : List Fields} {e v : Speaker} → Talks e v → KeepsNumbers e → IsTold pool e → IsTold pool v
talks_told Quiet h told = told
talks_told (Says v k c bare t) h told = said_told k c (talks_numbers t h)
    (talks_told t h told)

pub talks_further : {e v w : Speaker} → Talks e v → Talks v w → Talks e w
talks_further t Quiet = t
talks_further t (Says w k c bare s) = Says w k c bare (talks_further t s)

-- the edge's address and incarnation, and the originators that it lists
pub record AreOne (e v : Speaker) : Type 0 where
  pub address : v.address ≡ e.address
  pub incarnation : v.incarnation ≡ e.incarnation
  pub originators : v.table.originators ≡ e.table.originators

pub talks_one : {e v : Speaker} → Talks e v → AreOne e v
talks_one Quiet = assumption
talks_one (Says v k c bare t) = let h = talks_one t in assumption
