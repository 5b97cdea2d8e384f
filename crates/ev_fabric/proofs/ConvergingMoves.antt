-- The effect of an announcement or a delivery on a fabric.
use Rattle.std.proofs.Common.{◌≡◌, ◌≢◌, inl, inr, ℕ, suc, ◌+◌, ◌≤◌, Bool, true, false, Some, Result}
use Rattle.std.proofs.Common.{Ok, Err, List, [], ◌∷◌, ◌++◌, length, refl, sym, ap, ◌∙◌, arith}
use Rattle.std.proofs.lemmas.Bool.Decides.{nat_tests}
use Rattle.std.specs.Prelude.{not, ◌&&◌, ◌==◌, Contains, slice_set, drop}
use Rattle.std.specs.List.{list_any}
use Rattle.std.specs.Option.{option_map}
use Rattle.route_wire.specs.declared.update.Register.{Register}
use Rattle.route_wire.specs.declared.update.Value.{Value}
use Rattle.route_wire.specs.Fields.{Fields}
use Rattle.route_join.specs.Table.{value_at}
use Rattle.route_join.proofs.Tables.{not_newer_itself}
use Rattle.ev_claims.specs.Speaker.{Speaker, announced_of, is_newest}
use Rattle.ev_edge.specs.declared.event.Event.TheVariants as events
use Rattle.ev_edge.specs.declared.reply.Reply.{Reply}
use Rattle.ev_edge.specs.declared.refusal.Refusal as edge
use Rattle.ev_edge.specs.Edge.{Edge, IsGoodEdge, table_of, address_of}
use Rattle.ev_edge.specs.Steps.{Takes as TakesBy}
use Rattle.ev_edge.proofs.Remaining.{steps_good}
use Rattle.ev_fabric.specs.declared.refusal.FabricRefusal.{FabricRefusal}
use Rattle.ev_fabric.specs.declared.step.Step.{Step}
use Rattle.ev_fabric.specs.declared.step.Step.TheVariants.{Local, Announce, Deliver, Restart}
use Rattle.ev_fabric.specs.Fabric.{Fabric, IsEdge, incarnation_of}
use Rattle.ev_fabric.specs.Steps.{StepsAt, AnnouncesAt, FabricSteps}
use Rattle.ev_fabric.specs.Sound.{update_of, IsSound}
use Rattle.ev_fabric.specs.ConvergenceEdge.{is_over, is_latest, comes_back, returning, unsaid, unannounced, IsLater}
use Rattle.ev_fabric.specs.Convergence.{IsQuiet, full_pool, to_come}
use Rattle.ev_fabric.proofs.Places.{minus, set_cases, contains_at, push_length}
use Rattle.ev_fabric.proofs.Cases.{at_edge, at_delivery, announces_it}
use Rattle.ev_fabric.proofs.Voices.{behind_not_newer}
use Rattle.ev_fabric.proofs.ConvergingSums.{sum_set, count_le, count_push, set_itself}
use Rattle.ev_fabric.proofs.ConvergingNewest.{any_front}
use Rattle.ev_fabric.proofs.ConvergingEdge.{later_quiet, Accepts, heard, heard_later, may_return, KnowsOwn, Pays}
use Rattle.ev_fabric.proofs.ConvergingEdge.{heard_pays, others_stay_away, known_stays_away, quieter, after_hearing}
use Rattle.ev_fabric.proofs.ConvergingEdge.{after_telling}

-- ---- own updates in the pool of a sound fabric
pub record Kept (f : Fabric) : Type 0 where
  pub sound : IsSound f
  pub knows : (i : ℕ) (a : Edge) → IsEdge f i a → KnowsOwn f.pool a.routes.speaker

pub sound_kept : (f : Fabric) → IsSound f → Kept f
sound_kept f h = record {
  sound = h;
  knows = λ i a at u in' mine. elim ((h.told i a at).behind u in' mine) [
    | inl earlier ↦ inl earlier
    | inr b ↦ inr (rw b.there (behind_not_newer b))
  ];
}

-- ---- the form of a quiet step

-- an edge announces its first pending register
pub record Telling (old : Fabric) : Type 0 where
  pub place : ℕ
  pub edge : Edge
  pub update : Fields
  pub rest : List Register
  pub at : IsEdge old place edge
  pub pending : edge.routes.speaker.pending ≡ update.register ∷ rest
  pub there : value_at (table_of edge) update.register ≡ Some update.value
  pub alive : update.value.incarnation ≡ incarnation_of edge
  pub own : update.register.originator ≡ address_of edge
  pub good : IsGoodEdge (after_telling edge rest)

-- an edge takes an update
pub record Taking (old : Fabric) : Type 0 where
  pub place : ℕ
  pub edge : Edge
  pub update : Fields
  pub at : IsEdge old place edge
  pub inside : Contains old.pool update
  pub ok : Accepts edge.routes.speaker update
  pub good : IsGoodEdge (after_hearing edge update)

abbrev pub told : {old : Fabric} → Telling old → Fabric
told {old} t = record old {
  edges = slice_set old.edges t.place (after_telling t.edge t.rest);
  pool = old.pool ++ t.update ∷ [];
}

abbrev pub taken : {old : Fabric} → Taking old → Fabric
taken {old} t = record old { edges = slice_set old.edges t.place (after_hearing t.edge t.update) }

pub data Move (old : Fabric) : Fabric → Type 0 where
  Stays : Move old old
  Tells : (t : Telling old) → Move old (told t)
  Takes : (t : Taking old) → Move old (taken t)

pub same_edges : (f : Fabric) (i : ℕ) {a : Edge} → IsEdge f i a → record f { edges = slice_set f.edges i a } ≡ f
same_edges f i at = λ j. record f { edges = set_itself f.edges i at j }

moved_announce : {old : Fabric} (new : Fabric) (i : ℕ) {a : Edge} (reply : Reply) (rs : List Register) → IsSound old
    → IsEdge old i a → a.routes.speaker.pending ≡ rs → AnnouncesAt old (suc i) a (Ok reply) new → Move old new
moved_announce {old} new i {a} reply [] sound at none h = rw (
  h.2,
  minus i,
  h.1.1,
  ap (quieter a.routes) (ap (drop 1) none ∙ sym none),
  announces_it reply h.1.0 ∙ ap (announced_of a.routes.speaker) none,
) same
  where
    same : Move old (record old { edges = slice_set old.edges i a })
    same = rw (same_edges old i at) Stays
moved_announce {old} new i {a} reply (r ∷ rs) sound at pend h =
    let good = sound.good i a at in
    let p = good.routes.numbers.pending r (rw pend (0, omega arith, refl)) in
    let b_is : h.0 ≡ after_telling a rs = h.1.1 ∙ ap (λ l. after_telling a (drop 1 l)) pend in
    rw (
      h.2,
      minus i,
      b_is,
      announces_it reply h.1.0
          ∙ (ap (announced_of a.routes.speaker) pend ∙ ap (option_map (λ (v : Value). update_of r v)) p.1),
    )
    (Tells (record {
      place = i;
      edge = a;
      update = update_of r p.0;
      rest = rs;
      at = at;
      pending = pend;
      there = p.1;
      alive = p.2;
      own = p.3;
      good = rw b_is at (steps_good a events.Announce (Ok reply) h.0 good h.1);
    }))

moved_take : {old : Fabric} (new : Fabric) (i : ℕ) {a : Edge} (u : Fields) {result : Result Reply FabricRefusal}
    → IsSound old → IsEdge old i a → Contains old.pool u → StepsAt old (suc i) a (events.Take u) result new
    → Move old new
moved_take {old} new i {a} u sound at in' s = choose (u.register.originator == address_of a) refl s.answer s.steps
  where
    stays : s.after ≡ a → Move old new
    stays same = rw (s.new_is, minus i, same, same_edges old i at) Stays

    takes : Accepts a.routes.speaker u → s.after ≡ after_hearing a u → Move old new
    takes ok same = rw (s.new_is, minus i, same) (Takes (record {
      place = i;
      edge = a;
      update = u;
      at = at;
      inside = in';
      ok = ok;
      good = rw same at (steps_good a (events.Take u) s.answer s.after (sound.good i a at) s.steps);
    }))

    choose : (x : Bool) → (u.register.originator == address_of a) ≡ x → (answer : Result Reply edge.Refusal)
        → TakesBy x a u answer s.after → Move old new
    choose true t (Ok reply) h =
        let mine : u.register.originator ≡ address_of a = grind (arith, nat_tests) in
        takes (record {
          listed = rw mine (sound.good i a at).routes.numbers.known;
          ahead = λ _. h.0;
          spent = λ _. h.1;
        }) (rw (h.3, t))
    choose false t (Ok reply) h =
        let other : u.register.originator ≢ address_of a = grind (arith, nat_tests) in
        takes (record { listed = h.0; ahead = λ mine. absurd (other mine); spent = λ mine. absurd (other mine) })
        (rw (h.2, t))
    choose true t (Err r) h = stays h.1
    choose false t (Err r) h = stays h.1

pub moved : {old : Fabric} (new : Fabric) (step : Step) (result : Result Reply FabricRefusal) → IsSound old
    → IsQuiet step → FabricSteps old step result new → Move old new
moved new (Local e event) result sound quiet h = absurd quiet
moved new (Restart e n) result sound quiet h = absurd quiet
moved {old} new (Announce e) result sound quiet h =
    at_edge (Move old new) old new result (λ e a. AnnouncesAt old e a result new) e h (λ is. rw is.1 Stays)
    (λ i a _ at. announces i a at result)
  where
    announces : (i : ℕ) (a : Edge) → IsEdge old i a → (result : Result Reply FabricRefusal)
        → AnnouncesAt old (suc i) a result new → Move old new
    announces i a at (Ok reply) h = moved_announce new i reply a.routes.speaker.pending sound at refl h
    announces i a at (Err why) h = rw h.1 Stays
moved {old} new (Deliver e n) result sound quiet h =
    at_delivery (Move old new) old new result e n h (λ why is. rw is.1 Stays)
    (λ i a n u _ _ at there s. moved_take new i u sound at (contains_at old.pool n there) s)

-- ---- an update that an edge announces is no news to it, and comes back to no edge
pub told_known : {old : Fabric} (t : Telling old) → is_newest t.edge.routes.speaker t.update ≡ false
told_known t = rw t.there (not_newer_itself t.update.value)

pub told_away : {old : Fabric} (t : Telling old) → comes_back t.edge.routes.speaker t.update ≡ false
told_away t = known_stays_away t.edge.routes.speaker t.update (told_known t)

pub told_others : {old : Fabric} → IsSound old → (t : Telling old) (j : ℕ) {b : Edge} → j ≢ t.place → IsEdge old j b
    → t.update.register.originator ≢ address_of b
told_others sound t j {b} ne at same = ne (sound.apart j t.place b t.edge at t.at (sym same ∙ t.own))

pub told_elsewhere : {old : Fabric} → IsSound old → (t : Telling old) (j : ℕ) {b : Edge} → j ≢ t.place
    → IsEdge old j b → comes_back b.routes.speaker t.update ≡ false
told_elsewhere sound t j {b} ne at = others_stay_away b.routes.speaker t.update (told_others sound t j ne at)

push_returns : (pool : List Fields) (a : Speaker) (u : Fields) → comes_back a u ≡ false
    → returning (pool ++ u ∷ []) a ≤ returning pool a
push_returns pool a u none = omega (
  arith,
  count_push (may_return (pool ++ u ∷ []) a) pool u (rw none),
  count_le (may_return pool a)
      (may_return (pool ++ u ∷ []) a) pool (λ x. front x (comes_back a x)),
)
  where
    off : (x : Bool) → not x ≡ true → x ≡ false
    off false e = refl
    off true e = cc

    front : (x : Fields) (b : Bool) → (b && is_latest (pool ++ u ∷ []) x) ≡ true → (b && is_latest pool x) ≡ true
    front x true is = ap not (any_front (is_over x) pool (u ∷ []) (off (list_any (is_over x) (pool ++ u ∷ [])) is))
    front x false is = is

-- ---- each edge afterwards is a later state of the one before, and pays for its numbers
pub record Before (old new : Fabric) (j : ℕ) (b : Edge) : Type 0 where
  pub was : Edge
  pub at : IsEdge old j was
  pub later : IsLater was.routes.speaker b.routes.speaker
  pub numbers : b.routes.speaker.counter + unsaid new.pool b.routes ≤ was.routes.speaker.counter
      + unsaid old.pool was.routes
  pub returns : returning new.pool b.routes.speaker ≤ returning old.pool was.routes.speaker

taken_pays : {old : Fabric} → IsSound old → (t : Taking old)
    → Pays old.pool t.edge.routes (heard t.edge.routes t.update)
taken_pays {old} sound t = heard_pays old.pool ((sound_kept old sound).knows t.place t.edge t.at) t.inside
    (sound.good t.place t.edge t.at).routes t.ok

-- an edge that stays
pub stays_before : (old new : Fabric) (j : ℕ) {b : Edge} → IsEdge old j b
    → returning new.pool b.routes.speaker ≤ returning old.pool b.routes.speaker → Before old new j b
stays_before old new j {b} at less = record {
  was = b;
  at = at;
  later = later_quiet b.routes.speaker b.routes.speaker.pending;
  numbers = omega arith;
  returns = less;
}

pub before : {old new : Fabric} → Move old new → IsSound old → (j : ℕ) {b : Edge} → IsEdge new j b → Before old new j b
before {old} Stays sound j at = stays_before old old j at (omega arith)
before {old} (Tells t) sound j {b} at_b = elim (set_cases old.edges t.place (after_telling t.edge t.rest) j b at_b) [
  | inl p ↦ let less = push_returns old.pool t.edge.routes.speaker t.update (told_away t) in rw p.1 (record {
    was = t.edge;
    at = rw p.0 t.at;
    later = later_quiet t.edge.routes.speaker t.rest;
    numbers = omega arith;
    returns = omega arith;
  })
  | inr p ↦ stays_before old (told t) j p.1
      (push_returns old.pool b.routes.speaker t.update (told_elsewhere sound t j p.0 p.1))
]
before {old} (Takes t) sound j {b} at_b = elim (set_cases old.edges t.place (after_hearing t.edge t.update) j b at_b) [
  | inl p ↦ let pays = taken_pays sound t in rw p.1 (record {
    was = t.edge;
    at = rw p.0 t.at;
    later = heard_later t.edge.routes (sound.good t.place t.edge t.at).routes.numbers t.ok;
    numbers = pays.numbers;
    returns = pays.returns;
  })
  | inr p ↦ stays_before old (taken t) j p.1 (omega arith)
]

-- ---- the bound never grows
pub told_fewer : {old : Fabric} → IsSound old → (t : Telling old) → to_come (told t) + 1 ≤ to_come old
told_fewer {old} sound t =
    sum_set (λ (x : Edge). unannounced old.pool x.routes) (λ (x : Edge). unannounced (told t).pool x.routes) 1 old.edges
    t.place t.edge (after_telling t.edge t.rest) t.at
    (omega (arith, push_returns old.pool t.edge.routes.speaker t.update (told_away t), ap length t.pending))
    (λ j x ne at. omega (arith, push_returns old.pool x.routes.speaker t.update (told_elsewhere sound t j ne at)))

pub taken_fewer : {old : Fabric} → IsSound old → (t : Taking old) → to_come (taken t) ≤ to_come old
taken_fewer {old} sound t =
    let pays = taken_pays sound t in
    omega (
      arith,
      sum_set (λ (x : Edge). unannounced old.pool x.routes) (λ (x : Edge). unannounced old.pool x.routes) 0
          old.edges t.place t.edge (after_hearing t.edge t.update) t.at (omega (arith, pays.announcements))
          (λ j x ne at. omega arith),
    )

pub move_full : {old new : Fabric} → Move old new → IsSound old → full_pool new ≤ full_pool old
move_full Stays sound = omega arith
move_full {old} (Tells t) sound = omega (arith, told_fewer sound t, push_length old.pool t.update)
move_full (Takes t) sound = omega (arith, taken_fewer sound t)
