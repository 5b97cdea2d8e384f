-- The deliveries of a session between edges whose tables are given as lists of updates.
use Rattle.std.proofs.Common.{◌≡◌, ◌==◌, ◌&&◌, ◌||◌, ◌⊎◌, inl, inr, ℕ, zero, suc, ◌<◌, Bool, true, false, not, cond}
use Rattle.std.proofs.Common.{Option, Some, None, List, [], ◌∷◌, ◌++◌, refl, sym, ap, subst, ◌∙◌, arith}
use Rattle.std.proofs.lemmas.Bool.{and_parts, eq-eqb, eqb-true}
use Rattle.std.proofs.lemmas.Bool.Decides.{nat_tests}
use Rattle.std.specs.Prelude.{Contains, map, nat_lt, slice_get}
use Rattle.std.specs.Ordering.{eq_by_cmp}
use Rattle.route_wire.specs.declared.update.Register.{Register}
use Rattle.route_wire.specs.declared.update.Value.{Value}
use Rattle.route_wire.specs.Fields.{Fields}
use Rattle.route_wire.specs.Order.{register_cmp}
use Rattle.route_join.specs.Table.{value_at}
use Rattle.route_join.proofs.Tables.{same_register}
use Rattle.route_join.proofs.Merging.{get_before}
use Rattle.ev_edge.specs.Edge.{Edge, table_of, address_of}
use Rattle.ev_fabric.specs.declared.step.Step.{Step}
use Rattle.ev_fabric.specs.declared.step.Step.TheVariants.{Local, Announce, Deliver, Restart}
use Rattle.ev_fabric.specs.Fabric.{Fabric, IsEdge, nth, incarnation_of}
use Rattle.ev_fabric.specs.Runs.{Runs, StaysOpen}
use Rattle.ev_fabric.specs.Sound.{update_of, IsSound}
use Rattle.ev_fabric.specs.Station.{NoneRestarts}
use Rattle.ev_fabric.proofs.Fabrics.{step_sound, runs_sound}
use Rattle.ev_fabric.proofs.Goings.{one_there, runs_lead}
use Rattle.ev_sites.specs.Sessions.{Took, Holds, Parts, TookIn, IsDelivered, IsSent}
use Rattle.ev_sites.proofs.Tables.{Said, table_with, looked_up, found}
use Rattle.ev_sites.proofs.Telling.{update}
use Rattle.ev_fabric.proofs.StationTaken.{none_first}

-- ---- lists of updates

-- P holds if the test passes
abbrev pub When : Bool → Type 0 → Type 0
When true P = P
When false P = Unit {0}

passed : (P : Type 0) {b : Bool} → b ≡ true → When b P → P
passed P is h = rw is at h

-- each update that is its register's value
abbrev pub Each : (Fields → Type 0) → List Said → Type 0
Each P [] = Unit {0}
Each P (e ∷ es) = P (update e.0 e.1) × Each (λ u. When (not (eq_by_cmp register_cmp u.register e.0)) (P u)) es

each_held : (P : Fields → Type 0) (es : List Said) → Each P es → (r : Register) (v : Value) → looked_up es r ≡ Some v
    → P (update r v)
each_held P [] h r v is = cc
each_held P (e ∷ es) h r v is = go (eq_by_cmp register_cmp r e.0) refl is
    (λ at. each_held (λ u. When (not (eq_by_cmp register_cmp u.register e.0)) (P u)) es h.1 r v at)
  where
    go : (b : Bool) → eq_by_cmp register_cmp r e.0 ≡ b → cond b (Some e.1) (looked_up es r) ≡ Some v
        → (looked_up es r ≡ Some v → When (not (eq_by_cmp register_cmp r e.0)) (P (update r v))) → P (update r v)
    go true same at rest =
        let value : e.1 ≡ v = cc in
        let register : e.0 ≡ r = sym (same_register r e.0 same) in subst P (λ n. update (register n) (value n)) h.0
    go false other at rest = passed (P (update r v)) (rw other) (rest at)

abbrev pub updates_of : List Said → List Fields
updates_of es = map (λ e. update e.0 e.1) es

-- each of them
abbrev pub Every : (Fields → Type 0) → List Said → Type 0
Every P [] = Unit {0}
Every P (e ∷ es) = P (update e.0 e.1) × Every P es

each_among : (P : Fields → Type 0) (es : List Said) → Every P es → (u : Fields) → Contains (updates_of es) u → P u
each_among P [] h u (n, less, is) = absurd (omega (arith, less))
each_among P (e ∷ es) h u (zero, less, is) = (rw is at h.0)
each_among P (e ∷ es) h u (suc n, less, is) = each_among P es h.1 u (n, omega (arith, less), is)

-- ---- updates of an earlier life

-- of the edge of address x, before incarnation n
abbrev pub is_past : ℕ → ℕ → Fields → Bool
is_past x n u = (u.register.originator == x) && nat_lt u.value.incarnation n

abbrev past_at : ℕ → ℕ → Option Fields → Bool
past_at x n None = false
past_at x n (Some u) = is_past x n u

past_test : {x n : ℕ} (u : Fields) → u.register.originator ≡ x → u.value.incarnation < n → is_past x n u ≡ true
past_test {x} {n} u own less =
    let early : nat_lt u.value.incarnation n ≡ true = grind (arith, nat_tests) in
    (rw (eq-eqb u.register.originator x own)) ∙ early

-- No step delivers one to edge e. Edges are counted from 1, and so are updates; the update at place m is left out.
abbrev pub none_past : ℕ → ℕ → ℕ → ℕ → List Fields → List Step → Bool
none_past x n m e pool [] = true
none_past x n m e pool (Local d event ∷ steps) = none_past x n m e pool steps
none_past x n m e pool (Announce d ∷ steps) = none_past x n m e pool steps
none_past x n m e pool (Deliver d k ∷ steps) =
    (not (d == e) || (k == m) || not (past_at x n (nth pool k))) && none_past x n m e pool steps
none_past x n m e pool (Restart d i ∷ steps) = none_past x n m e pool steps

rest_past : (x n m e : ℕ) (pool : List Fields) (step : Step) (steps : List Step)
    → none_past x n m e pool (step ∷ steps) ≡ true → none_past x n m e pool steps ≡ true
rest_past x n m e pool (Local d event) steps h = h
rest_past x n m e pool (Announce d) steps h = h
rest_past x n m e pool (Deliver d k) steps h =
    (and_parts (not (d == e) || (k == m) || not (past_at x n (nth pool k))) (none_past x n m e pool steps) h).1
rest_past x n m e pool (Restart d i) steps h = h

one_is : {k m : ℕ} {b c : Bool} → c ≡ true → (not c || (k == m) || not b) ≡ true → (k ≡ m) ⊎ (b ≡ false)
one_is {k} {m} {b} {c = true} is h = go (k == m) refl h
  where
    go : (same : Bool) → (k == m) ≡ same → (same || not b) ≡ true → (k ≡ m) ⊎ (b ≡ false)
    go true e h' = inl (eqb-true k m e)
    go false e h' = inr (flip b h')
      where
        flip : (a : Bool) → not a ≡ true → a ≡ false
        flip false p = refl
        flip true p = cc
one_is is h = cc

took_present : (x n m j : ℕ) (u : Fields) (steps : List Step) (old new : Fabric) (run : Runs old steps new)
    → IsSound old → none_past x n m (suc j) new.pool steps ≡ true → Took j u steps old new run
    → (nth new.pool m ≡ Some u) ⊎ (is_past x n u ≡ false)
took_present x n m j u [] old new run sound h took = absurd took
took_present x n m j u (step ∷ steps) old new run sound h (inl (k, reply, is, there, ok)) =
    let lead = runs_lead (step ∷ steps) old new sound run in
    let at = ap (λ l. slice_get l k) lead.pool ∙ get_before old.pool lead.more k u there in
    elim (one_is (eq-eqb (suc j) (suc j) refl)
    (and_parts (not (suc j == suc j) || (suc k == m) || not (past_at x n (nth new.pool (suc k))))
    (none_past x n m (suc j) new.pool steps)
    (rw is at h)).0) [
      | inl same ↦ inl (ap (nth new.pool) (sym same) ∙ at)
      | inr none ↦ inr (ap (past_at x n) (sym at) ∙ none)
    ]
took_present x n m j u (step ∷ steps) old new run sound h (inr took) =
    took_present x n m j u steps run.0 new run.3 (step_sound old run.0 step run.1 run.2 sound)
    (rest_past x n m (suc j) new.pool step steps h) took

-- ---- processes

pub none_opens : (steps : List Step) → NoneRestarts steps → (i : ℕ) → StaysOpen i steps
none_opens [] none i n (k, lt, is) = omega (arith, lt)
none_opens (step ∷ steps) none i n (zero, lt, is) = (rw is at (none_first step steps none).0)
none_opens (step ∷ steps) none i n (suc k, lt, is) = none_opens steps (none_first step steps none).1 i n
    (k, omega (arith, lt), is)

pub one_place : (P : ℕ → Type 0) {x : ℕ} → P x → (i : ℕ) → Contains (x ∷ []) i → P i
one_place P h i (zero, less, is) = (rw is at h)
one_place P h i (suc n, less, is) = absurd (omega (arith, less))

pub two_places : (P : ℕ → Type 0) {x y : ℕ} → P x → P y → (i : ℕ) → Contains (x ∷ y ∷ []) i → P i
two_places P h k i (zero, less, is) = (rw is at h)
two_places P {y} h k i (suc n, less, is) = one_place P k i (n, omega (arith, less), is)

pub three_places : (P : ℕ → Type 0) → P 0 → P 1 → P 2 → (i : ℕ) → i < 3 → P i
three_places P x y z zero less = x
three_places P x y z (suc zero) less = y
three_places P x y z (suc (suc zero)) less = z
three_places P x y z (suc (suc (suc i))) less = absurd (omega (arith, less))

-- ---- from the edge at place i, of address x and in incarnation n, to the edge at place j

pub record Sending (i j x n : ℕ) (old : Fabric) (steps : List Step) (new : Fabric) (s : Parts old steps new) :
    Type 0 where
  -- the edge at i at the beginning and at the end, and the one at j between the parts
  pub before : Edge
  pub after : Edge
  pub held : Edge
  pub edges : IsEdge old i before × IsEdge new i after × IsEdge s.held j held
  -- their tables, and what is announced
  pub said : List Said
  pub last : List Said
  pub heard : List Said
  pub more : List Said
  pub tables : (table_of before ≡ table_with said) × (table_of after ≡ table_with last)
      × (table_of held ≡ table_with heard)
  pub is_more : (us : List Fields) → new.pool ≡ old.pool ++ us → us ≡ updates_of more
  pub name : (address_of after ≡ x) × (incarnation_of after ≡ n)
  -- the deliveries
  pub own : Each (λ u. When (u.register.originator == x) (TookIn old steps new s j u)) said
  pub since : Every (λ u. When (u.register.originator == x) (TookIn old steps new s j u)) more
  pub quiet : after.routes.speaker.pending ≡ []
  pub back : Each (λ u. When (u.register.originator == x) (Took i u s.second s.held new s.ends)) heard
  -- only the update at place late may be of an earlier life, if there is one
  pub late : ℕ
  pub later : none_past x n late (suc j) new.pool s.second ≡ true
  pub had : (u : Fields) → nth new.pool late ≡ Some u → Holds old i u

module _ (i j x n : ℕ) (old : Fabric) (steps : List Step) (new : Fabric) (s : Parts old steps new) (sound : IsSound old)
    (h : Sending i j x n old steps new s) (a : Edge) (r : Register) (at : IsEdge new i a)
    (mine : r.originator ≡ address_of a) where
  same : h.after ≡ a
  same = one_there new i h.after a h.edges.1 at

  named : r.originator ≡ x
  named = mine ∙ (rw same) ∙ h.name.0

  test : (r.originator == x) ≡ true
  test = eq-eqb r.originator x named

  less_in : (v : Value) → v.incarnation < incarnation_of a → v.incarnation < n
  less_in v less = rw (ap incarnation_of (sym same) ∙ h.name.1) at less

  pub delivered : IsDelivered i j a r old steps new s
  delivered = record {
    own = λ v holds among. passed (TookIn old steps new s j (update_of r v)) test
        (each_held (λ u. When (u.register.originator == x) (TookIn old steps new s j u)) h.said h.own r v
        (looked old i h.before h.said h.edges.0 h.tables.0 v holds));
    since = λ more v is among. passed (TookIn old steps new s j (update_of r v)) test
        (each_among (λ u. When (u.register.originator == x) (TookIn old steps new s j u)) h.more h.since (update_of r v)
        (rw (h.is_more more is) at among));
    quiet = λ among. nothing (rw same among);
    back = λ v holds. passed (Took i (update_of r v) s.second s.held new s.ends) test
        (each_held (λ u. When (u.register.originator == x) (Took i u s.second s.held new s.ends)) h.heard h.back r v
        (looked s.held j h.held h.heard h.edges.2 h.tables.2 v holds));
    later = λ v less took. elim (took_present x n h.late j (update_of r v) s.second s.held new s.ends
        (runs_sound s.first old s.held s.begins sound) h.later took) [
          | inl is ↦ inl (h.had (update_of r v) is)
          | inr none ↦
              absurd (cc (sym (past_test (update_of r v) named (less_in v less)) ∙ none))
        ];
  }
    where
      looked : (f : Fabric) (y : ℕ) (e : Edge) (said : List Said) → IsEdge f y e → table_of e ≡ table_with said
          → (v : Value) → Holds f y (update_of r v) → looked_up said r ≡ Some v
      looked f y e said at_e is v holds =
          sym (found said r) ∙ (rw is)
          ∙ ap (λ (b : Edge). value_at (table_of b) r) (one_there f y e holds.0 at_e holds.1) ∙ holds.2

      nothing : Contains h.after.routes.speaker.pending r → ⊥
      nothing among = omega (arith, (rw h.quiet at among).1)

  -- an update of an earlier life that the edge at i has at the end
  alike : Each (λ u. When (is_past x n u) (Holds s.held j u)) h.last → (v : Value)
      → v.incarnation < incarnation_of a → value_at (table_of a) r ≡ Some v
      → Holds s.held j (update_of r v) ⊎ TookIn old steps new s j (update_of r v)
  alike each v less is = inl (passed (Holds s.held j (update_of r v))
      (past_test (update_of r v) named (less_in v less))
      (each_held (λ u. When (is_past x n u) (Holds s.held j u)) h.last each r v
      (sym (found h.last r) ∙ (rw h.tables.1)
      ∙ ap (λ (b : Edge). value_at (table_of b) r) same ∙ is)))

pub is_sent : {i j x n : ℕ} {old : Fabric} {steps : List Step} {new : Fabric} {s : Parts old steps new} → IsSound old
    → (h : Sending i j x n old steps new s) → Each (λ u. When (is_past x n u) (Holds s.held j u)) h.last → (a : Edge)
    (r : Register) → IsEdge new i a → r.originator ≡ address_of a → IsSent i j a r old steps new s
is_sent {i} {j} {x} {n} {old} {steps} {new} {s} sound h each a r at mine = record {
  delivered = delivered i j x n old steps new s sound h a r at mine;
  alike = λ v less is took. alike i j x n old steps new s sound h a r at mine each v less is;
}
