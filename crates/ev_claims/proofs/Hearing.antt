-- the effect of an own update of an earlier incarnation on an edge's own registers
use Rattle.std.proofs.Common.{◌≡◌, ◌≢◌, inl, inr, ℕ, zero, suc, ◌+◌, ◌≤◌, ◌<◌, Bool, true, false, cond, nat_lt, eqb}
use Rattle.std.proofs.Common.{Option, Some, None, List, [], ◌∷◌, Result, Ok, Err, drop, refl, sym, ap, ◌∙◌}
use Rattle.std.proofs.Common.{arith}
use Rattle.std.specs.Prelude.{IsSome, is_some, Contains, OnOk, OnErr, ◌&&◌, ◌||◌, nat_le, slice_get}
use Rattle.std.specs.List.{list_any}
use Rattle.std.proofs.lemmas.Bool.Decides.{nat_tests}
use Rattle.std.specs.Option.{IfNone, option_map}
use Rattle.std.specs.FinMap.{insert, empty, get-empty, same_map}
use Rattle.std.proofs.lemmas.Bool.{eq-eqb, false≢true}
use Rattle.std.proofs.lemmas.Option.{same_Some}
use Rattle.route_wire.specs.Order.{register_cmp}
use Rattle.route_wire.specs.Inner.Totals.{register_total, register_exact}
use Rattle.route_wire.specs.declared.update.Key.{Key}
use Rattle.route_wire.specs.declared.update.Register.{Register}
use Rattle.route_wire.specs.declared.update.Content.{Content}
use Rattle.route_wire.specs.declared.update.Content.TheVariants.{Withdrawn, Advert as Advertised}
use Rattle.route_wire.specs.declared.update.Advert.{Advert}
use Rattle.route_wire.specs.declared.update.Value.{Value}
use Rattle.route_wire.specs.Fields.{Fields}
use Rattle.route_join.specs.Table.{Table, value_at, update_at, is_news, with_value, with_update}
use Rattle.route_join.specs.declared.table.Taken.{Taken}
use Rattle.route_join.specs.declared.table.TakeError.{TakeError}
use Rattle.route_join.specs.Owner.{advert_of, advert_in}
use Rattle.route_join.proofs.Tables.{same_or_other, at_same, at_other}
use Rattle.route_join.proofs.Joins.{update_other}
use Rattle.route_join.proofs.Merging.{same_listeners}
use Rattle.ev_claims.specs.Speaker.{Speaker, own_register, own, own_advert, IsPresent, KeepsNumbers}
use Rattle.ev_claims.specs.Inner.Speaker.{IsSpeaker}
use Rattle.ev_claims.specs.Inner.Speaker.{HasRooms}
use Rattle.ev_claims.specs.Speaker.{is_newest, is_ahead, is_returning, after_originating, after_importing}
use Rattle.ev_claims.specs.Speaker.{after_importing_own}
use Rattle.ev_claims.specs.Speaker.{after_announcing, silent}
use Rattle.ev_claims.proofs.Numbers.{key_or_other, own_same, key_stays}
use Rattle.ev_claims.proofs.Values.{not_newer_earlier}

-- ---- a look-up by number

-- none of the first ones of these registers has the number
abbrev pub IsNoneBefore : Speaker → List Register → ℕ → ℕ → Type 0
IsNoneBefore e known n places = (j : ℕ) (r : Register) → j < places → slice_get known j ≡ Some r → (v : Value)
    → own e r.key ≡ Some v → IsPresent e v → v.counter ≢ n

-- ---- an own update of an earlier incarnation

-- a register whose newest update is of an earlier incarnation has no update of this one
pub not_present : (e : Speaker) (u : Fields) (v : Value) → is_newest e u ≡ true → u.value.incarnation < e.incarnation
    → value_at e.table u.register ≡ Some v → v.incarnation ≢ e.incarnation
not_present e u v newest past at present =
    let newer = ap (λ o. is_news o u.value) (sym at) ∙ newest in
    cc (not_newer_earlier v u.value (omega (arith, present, past)))

register_is : (e : Speaker) (u : Fields) → u.register.originator ≡ e.address → u.register
    ≡ own_register e u.register.key
register_is e u same = λ i. record { originator = same i; key = u.register.key }

-- it isn't advertised in this incarnation
pub not_said : (e : Speaker) (u : Fields) → KeepsNumbers e → u.register.originator ≡ e.address → is_newest e u ≡ true
    → u.value.incarnation < e.incarnation → own_advert e u.register.key ≡ None
not_said e u h mine newest past = go (own e u.register.key) refl
  where
    none : (a : Option Advert) → (IsSome a → ⊥) → a ≡ None
    none None silent = refl
    none (Some a) silent = absurd (silent refl)

    go : (o : Option Value) → own e u.register.key ≡ o → own_advert e u.register.key ≡ None
    go None at = ap advert_of at
    go (Some v) at = ap advert_of at ∙ none (advert_in v.content)
        (λ some. not_present e u v newest past ((rw (register_is e u mine)) ∙ at)
        (h.alive u.register.key v at some))

module _ (e : Speaker) (u : Fields) (mine : u.register.originator ≡ e.address) (newest : is_newest e u ≡ true) where
  -- the value that a withdrawal of an earlier incarnation leaves
  pub there_now : own (after_importing e u) u.register.key ≡ Some u.value
  there_now = (rw (newest, register_is e u mine))
      ∙ at_same e.table u.register u.value

  now : {k : Key} {v : Value} → k ≡ u.register.key → own (after_importing e u) k ≡ Some v → u.value ≡ v
  now {v = v} same there = same_Some u.value v (sym there_now ∙ rw same at there)

  late : {k : Key} {v : Value} → u.value.incarnation < e.incarnation → k ≡ u.register.key
      → own (after_importing e u) k ≡ Some v → v.incarnation ≢ e.incarnation
  late past same here present = omega (arith, ap (λ (w : Value). w.incarnation) (now same here), past, present)

pub elsewhere : (e : Speaker) (u : Fields) (k : Key) → k ≢ u.register.key → own (after_importing e u) k ≡ own e k
elsewhere e u k ne = update_other e.table u.register u.value (own_register e k)
    (λ same. ne (ap (λ (r : Register). r.key) same))

-- ---- the present update of each key stays

pub unheard : (e : Speaker) (u : Fields) → is_newest e u ≡ false → after_importing e u ≡ e
unheard e u known = λ i. record e { table = cond (known i) (with_value e.table u.register u.value) e.table }

withdrawn_said : {e : Speaker} (u : Fields) → KeepsNumbers e → u.register.originator ≡ e.address → is_newest e u ≡ true
    → u.value.incarnation < e.incarnation → advert_in u.value.content ≡ None → (k : Key)
    → own_advert (after_importing e u) k ≡ own_advert e k
withdrawn_said {e} u h mine newest past none k = elim (key_or_other k u.register.key) [
  | inl same ↦ rw same ((rw (there_now e u mine newest)) ∙ none ∙ sym (not_said e u h mine newest past))
  | inr ne ↦ rw (elsewhere e u k ne)
]

refuted_said : {e : Speaker} (u : Fields) → KeepsNumbers e → u.register.originator ≡ e.address → is_newest e u ≡ true
    → u.value.incarnation < e.incarnation → (k : Key) → own_advert
    (after_originating (after_importing e u) u.register.key Withdrawn) k ≡ own_advert e k
refuted_said {e} u h mine newest past k = elim (key_or_other k u.register.key) [
  | inl same ↦ rw same ((rw (own_same (after_importing e u) u.register.key Withdrawn))
      ∙ sym (not_said e u h mine newest past))
  | inr ne ↦ key_stays (after_importing e u) u.register.key Withdrawn k e.address ne
      ∙ rw (elsewhere e u k ne)
]

-- not ahead: of an earlier incarnation, or no news
pub past_if_newest : (e : Speaker) (u : Fields) → is_ahead e u ≡ false → is_newest e u ≡ true
    → u.value.incarnation < e.incarnation
past_if_newest e u behind newest =
    let late : nat_le e.incarnation u.value.incarnation ≡ false =
    (rw newest) ∙ behind in
    grind (arith, nat_tests)

pub own_said : (e : Speaker) (u : Fields) → KeepsNumbers e → u.register.originator ≡ e.address → is_ahead e u ≡ false
    → (k : Key) → own_advert (after_importing_own e u) k ≡ own_advert e k
own_said e u h mine behind k = go (is_newest e u) refl
  where
    Same : Bool → Type 0
    Same b = own_advert (cond b (after_originating (after_importing e u) u.register.key Withdrawn)
        (after_importing e u)) k
        ≡ own_advert e k

    past : is_newest e u ≡ true → nat_lt u.value.incarnation e.incarnation ≡ true
    past newest = let less = past_if_newest e u behind newest in grind (arith, nat_tests)

    said : (c : Content) → u.value.content ≡ c → is_newest e u ≡ true
        → own_advert (cond (is_some (advert_in c)) (after_originating (after_importing e u) u.register.key Withdrawn)
        (after_importing e u)) k ≡ own_advert e k
    said Withdrawn is newest = withdrawn_said u h mine newest (past_if_newest e u behind newest) (ap advert_in is) k
    said (Advertised a) is newest = refuted_said u h mine newest (past_if_newest e u behind newest) k

    go : (b : Bool) → is_newest e u ≡ b → own_advert (after_importing_own e u) k ≡ own_advert e k
    go false newest =
        ap (λ b. own_advert (cond (b && (nat_lt u.value.incarnation e.incarnation
        && is_some (advert_in u.value.content))) (after_originating (after_importing e u) u.register.key Withdrawn)
        (after_importing e u)) k) newest
        ∙ ap (λ v. own_advert v k) (unheard e u newest)
    go true newest =
        ap (λ b. own_advert (cond (b && (nat_lt u.value.incarnation e.incarnation
        && is_some (advert_in u.value.content))) (after_originating (after_importing e u) u.register.key Withdrawn)
        (after_importing e u)) k) newest
        ∙ ap (λ b. own_advert (cond (b && is_some (advert_in u.value.content))
        (after_originating (after_importing e u) u.register.key Withdrawn) (after_importing e u)) k) (past newest)
        ∙ said u.value.content refl newest

-- the counter goes up by one at the most, and only where an advert returns
pub own_counter : (e : Speaker) (u : Fields) (bound : ℕ) → (is_returning e u ≡ true → e.counter + 1 ≤ bound)
    → e.counter ≤ bound → (after_importing_own e u).counter ≤ bound
own_counter e u bound more low = go (is_returning e u) refl
  where
    go : (b : Bool) → is_returning e u ≡ b → (cond b (after_originating (after_importing e u) u.register.key Withdrawn)
        (after_importing e u)).counter ≤ bound
    go true is = more is
    go false is = low

-- ---- a withdrawal of an earlier incarnation is heard

pub earlier_numbers : (e : Speaker) (u : Fields) → KeepsNumbers e → u.register.originator ≡ e.address
    → is_newest e u ≡ true → u.value.incarnation < e.incarnation → advert_in u.value.content ≡ None
    → KeepsNumbers (after_importing e u)
earlier_numbers e u h mine newest past none = record {
  counted = λ k v at present. elim (key_or_other k u.register.key) [
    | inl same ↦ absurd (late e u mine newest past same at present)
    | inr ne ↦ h.counted k v (before k ne at) present
  ];
  distinct = λ k j v w at_k at_j here there same. elim (key_or_other k u.register.key) [
    | inl is ↦ absurd (late e u mine newest past is at_k here)
    | inr ne ↦ elim (key_or_other j u.register.key) [
      | inl is ↦ absurd (late e u mine newest past is at_j there)
      | inr other ↦ h.distinct k j v w (before k ne at_k) (before j other at_j) here there same
    ]
  ];
  past = λ k v at. elim (key_or_other k u.register.key) [
    | inl same ↦ rw (← now e u mine newest same at) (omega arith)
    | inr ne ↦ h.past k v (before k ne at)
  ];
  alive = λ k v at some. elim (key_or_other k u.register.key) [
    | inl same ↦ absurd (false≢true (rw (← now e u mine newest same at, none) at some))
    | inr ne ↦ h.alive k v (before k ne at) some
  ];
  known = rw (same_listeners e.table u) h.known;
  pending = λ r in'. let p = h.pending r in' in (
    p.0,
    update_other e.table u.register u.value r (λ same. not_present e u p.0 newest past
        ((rw same) ∙ p.1) p.2) ∙ p.1,
    p.2,
    p.3,
  );
}
  where
    before : (k : Key) {v : Value} → k ≢ u.register.key → own (after_importing e u) k ≡ Some v → own e k ≡ Some v
    before k ne at = sym (elsewhere e u k ne) ∙ at

pub earlier_rooms : (e : Speaker) (u : Fields) (known : List Register) → HasRooms e known
    → u.register.originator ≡ e.address → is_newest e u ≡ true → u.value.incarnation < e.incarnation
    → HasRooms (after_importing e u) known
earlier_rooms e u known h mine newest past k v at present = elim (key_or_other k u.register.key) [
  | inl same ↦ absurd (late e u mine newest past same at present)
  | inr ne ↦ h k v (sym (elsewhere e u k ne) ∙ at) present
]

pub earlier_speaker : {e : Speaker} {known : List Register} {t : Table} (u : Fields) (r : Result Taken TakeError)
    → IsSpeaker e known → u.register.originator ≡ e.address → is_newest e u ≡ true → u.value.incarnation < e.incarnation
    → u.value.content ≡ Withdrawn
    → OnOk r (t ≡ with_update e.table u) → OnErr r (t ≡ e.table) → IsSpeaker (record e { table = t }) known
earlier_speaker {e} {known} u (Ok x) h mine newest past withdrawn ok err =
    rw ok (record {
      numbers = earlier_numbers e u h.numbers mine newest past (rw withdrawn);
      rooms = earlier_rooms e u known h.rooms mine newest past;
    })
earlier_speaker u (Err x) h mine newest past withdrawn ok err =
    rw err h

-- ---- an advert of an earlier incarnation is withdrawn without being taken first

value_twice : (t : Table) (r : Register) (v w : Value) → with_value (with_value t r v) r w ≡ with_value t r w
value_twice t r v w = λ i. record { originators = t.originators; registers = twice i }
  where
    twice : insert (insert t.registers r v) r w ≡ insert t.registers r w
    twice = same_map register_total register_exact (insert (insert t.registers r v) r w) (insert t.registers r w)
        (λ q. elim (same_or_other q r) [
          | inl e ↦ rw e (at_same (with_value t r v) r w ∙ sym (at_same t r w))
          | inr ne ↦ at_other (with_value t r v) r w q ne ∙ at_other t r v q ne ∙ sym (at_other t r w q ne)
        ])

pub refuted_is : (e : Speaker) (u : Fields) (c : Content) → u.register.originator ≡ e.address
    → after_originating (after_importing e u) u.register.key c ≡ after_originating e u.register.key c
refuted_is e u c mine = λ i. record (after_originating e u.register.key c) { table = go (is_newest e u) i }
  where
    go : (b : Bool) → with_value (cond b (with_value e.table u.register u.value) e.table)
        (own_register e u.register.key) (record { incarnation = e.incarnation; counter = e.counter + 1; content = c })
        ≡ with_value e.table (own_register e u.register.key)
        (record { incarnation = e.incarnation; counter = e.counter + 1; content = c })
    go true = (rw (register_is e u mine))
        ∙ value_twice e.table (own_register e u.register.key) u.value
        (record { incarnation = e.incarnation; counter = e.counter + 1; content = c })
    go false = refl

-- ---- announcing

pub dropped_contains : (rs : List Register) (r : Register) → Contains (drop 1 rs) r → Contains rs r
dropped_contains [] r h = h
dropped_contains (x ∷ rs) r (k, less, is) = (suc k, omega (arith, less), is)

pub announced_speaker : {e : Speaker} {known : List Register} → IsSpeaker e known → IsSpeaker (after_announcing e) known
announced_speaker {e} {known} h = record {
  numbers = record {
    counted = h.numbers.counted;
    distinct = h.numbers.distinct;
    past = h.numbers.past;
    alive = h.numbers.alive;
    known = h.numbers.known;
    pending = λ r in'. h.numbers.pending r (dropped_contains e.pending r in');
  };
  rooms = h.rooms;
}

pub nobody_first : (rs : List Register) → None ≡ slice_get rs 0 → rs ≡ []
nobody_first [] e = refl
nobody_first (r ∷ rs) e = cc

pub somebody_first : (rs : List Register) (r : Register) → Some r ≡ slice_get rs 0 → Contains rs r
somebody_first [] r e = cc
somebody_first (x ∷ rs) r e = (0, omega arith, let same : r ≡ x = cc in sym same)

-- an announced register exists
pub announced_there : {e : Speaker} {r : Register} (o : Option Fields) (P : Type 0) → KeepsNumbers e
    → Some r ≡ slice_get e.pending 0 → o ≡ update_at e.table r → IfNone o P
announced_there {e} {r} None P h first is =
    absurd (cc (is ∙ ap (option_map (λ (v : Value). (record { register = r; value = v }))) (h.pending r
    (somebody_first e.pending r first)).1))
announced_there (Some u) P h first is = tt

-- ---- no update yet

listed : (os : List ℕ) (a : ℕ) → Contains os a → list_any (λ x. eqb x a) os ≡ true
listed [] a (k, less, is) = absurd (omega (arith, less))
listed (x ∷ os) a (zero, less, is) = rw (eq-eqb x a is)
listed (x ∷ os) a (suc k, less, is) = go (eqb x a) (listed os a (k, omega (arith, less), is))
  where
    go : (b : Bool) → list_any (λ x. eqb x a) os ≡ true → (b || list_any (λ x. eqb x a) os) ≡ true
    go true h = refl
    go false h = h

nothing_at : (e : Speaker) (r : Register) (v : Value) → e.table.registers ≡ empty → value_at e.table r ≢ Some v
nothing_at e r v is at = cc (sym ((rw is) ∙ get-empty {X = Value} register_cmp r) ∙ at)

pub silent_speaker : (address incarnation : ℕ) (originators : List ℕ) → Contains originators address
    → IsSpeaker (silent address incarnation originators) []
silent_speaker address incarnation originators there = record {
  numbers = record {
    counted = λ k v at present. absurd (nothing_at e (own_register e k) v refl at);
    distinct = λ k j v w at_k at_j here there same. absurd (nothing_at e (own_register e k) v refl at_k);
    past = λ k v at. absurd (nothing_at e (own_register e k) v refl at);
    alive = λ k v at some. absurd (nothing_at e (own_register e k) v refl at);
    known = listed originators address there;
    pending = λ r in'. absurd (omega (arith, in'.1));
  };
  rooms = λ k v at present. absurd (nothing_at e (own_register e k) v refl at);
}
  where
    e : Speaker
    e = silent address incarnation originators
