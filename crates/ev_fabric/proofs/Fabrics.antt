-- Every step keeps a fabric sound.
use Rattle.std.proofs.Common.{◌≡◌, ◌≢◌, ◌⊎◌, inl, inr, ℕ, suc, ◌<◌, Some, Result, Ok, Err, List, [], ◌∷◌, ◌++◌}
use Rattle.std.proofs.Common.{length, refl, sym, ap, ◌∙◌, arith, length-set}
use Rattle.std.proofs.lemmas.Bool.{cases_eq}
use Rattle.std.proofs.lemmas.List.Elements.{Contains-push_cases}
use Rattle.std.specs.Prelude.{Contains, slice_get, slice_set}
use Rattle.route_wire.specs.declared.update.Register.{Register}
use Rattle.route_wire.specs.declared.update.Value.{Value}
use Rattle.route_wire.specs.Fields.{Fields}
use Rattle.route_join.specs.Table.{value_at}
use Rattle.ev_claims.specs.Speaker.{Speaker}
use Rattle.ev_edge.specs.declared.config.EdgeConfig.{EdgeConfig}
use Rattle.ev_edge.specs.declared.reply.Reply.{Reply}
use Rattle.ev_edge.specs.declared.refusal.Refusal as edge
use Rattle.ev_edge.specs.Config.{IsConfig}
use Rattle.ev_edge.specs.Edge.{Edge, IsGoodEdge, table_of, address_of}
use Rattle.ev_edge.specs.Steps.{Steps}
use Rattle.ev_edge.proofs.Remaining.{steps_good}
use Rattle.ev_fabric.specs.declared.refusal.FabricRefusal.{FabricRefusal}
use Rattle.ev_fabric.specs.declared.step.LocalEvent.{LocalEvent}
use Rattle.ev_fabric.specs.declared.step.Step.{Step}
use Rattle.ev_fabric.specs.declared.step.Step.TheVariants.{Local, Restart}
use Rattle.ev_fabric.specs.Fabric.{Fabric, IsEdge}
use Rattle.ev_fabric.specs.Local.{event_of}
use Rattle.ev_fabric.specs.Sound.{IsTold, SaidOnce, IsOf, IsSound}
use Rattle.ev_fabric.specs.Steps.{StepsAt, in_incarnation, OpensAnew, RestartsAt, FabricSteps}
use Rattle.ev_fabric.specs.Runs.{Runs}
use Rattle.ev_fabric.specs.Convergence.{Rests}
use Rattle.ev_fabric.proofs.Places.{minus, set_cases, set_same, set_other}
use Rattle.ev_fabric.proofs.Cases.{at_edge}
use Rattle.ev_fabric.proofs.Voices.{AreOne, talks_told, talks_one, grown_told, announced_told}
use Rattle.ev_fabric.proofs.Events.{local_talks, heard_tells}
use Rattle.ev_fabric.proofs.Opened.{opened_told, opened_of, fit_in_life}
use Rattle.ev_fabric.proofs.ConvergingEdge.{heard_later, after_hearing, after_telling}
use Rattle.ev_fabric.proofs.ConvergingMoves.{Telling, Move, Stays, Tells, Takes, told, told_others, moved}

-- ---- the form of a step

-- announcements, deliveries and refusals; an event from outside; an edge that is opened again
pub data Did (old : Fabric) : Step → Fabric → Type 0 where
  Moved : {step : Step} {new : Fabric} → Move old new → Did old step new
  Spoke : (x : ℕ) (a b : Edge) (event : LocalEvent) (answer : Result Reply edge.Refusal) → IsEdge old x a
      → Steps a (event_of event) answer b
      → Did old (Local (suc x) event) (record old { edges = slice_set old.edges x b })
  Opened : (x : ℕ) (a : Edge) (n : ℕ) (reply : Reply) (new : Fabric) → IsEdge old x a
      → OpensAnew old (suc x) a n reply new → Did old (Restart (suc x) n) new

pub did : {old : Fabric} (new : Fabric) (step : Step) (result : Result Reply FabricRefusal) → IsSound old
    → FabricSteps old step result new → Did old step new
did {old} new (Local e event) result sound s =
    at_edge (Did old (Local e event) new) old new result (λ e a. StepsAt old e a (event_of event) result new) e s
    (λ is. rw is.1 (Moved Stays))
    (λ x a named at s. rw (named, s.new_is, minus x) (Spoke x a s.after event s.answer at s.steps))
did {old} new (Restart e n) result sound s =
    at_edge (Did old (Restart e n) new) old new result (λ e a. RestartsAt old e a n result new) e s
    (λ is. rw is.1 (Moved Stays)) (λ x a named at s. rw named (opens x a at result s))
  where
    opens : (x : ℕ) (a : Edge) → IsEdge old x a → (result : Result Reply FabricRefusal)
        → RestartsAt old (suc x) a n result new → Did old (Restart (suc x) n) new
    opens x a at (Ok reply) s = Opened x a n reply new at s
    opens x a at (Err why) s = rw s.1 (Moved Stays)
did new other result sound s = Moved (moved new other result sound tt s)

-- ---- one edge becomes another of the same address

-- the edge at one place of the fabric becomes this one; the pool may grow
record Becomes (old new : Fabric) (i : ℕ) (before after : Edge) : Type 0 where
  is : IsEdge old i before
  edges : new.edges ≡ slice_set old.edges i after
  address : address_of after ≡ address_of before
  originators : (table_of after).originators ≡ (table_of before).originators

becomes : {old : Fabric} (new : Fabric) (i : ℕ) {a : Edge} (b : Edge) → IsEdge old i a
    → new.edges ≡ slice_set old.edges i b → AreOne a.routes.speaker b.routes.speaker → Becomes old new i a b
becomes new i b at edges one = assumption

-- the configuration with which an edge was opened, after a further step
goes_on : {c : EdgeConfig} {a : Edge} (b : Edge) → AreOne a.routes.speaker b.routes.speaker → IsOf c a → IsOf c b
goes_on b one h = record {
  config = h.config;
  address = one.address ∙ h.address;
  life = one.incarnation ∙ h.life;
  originators = one.originators ∙ h.originators;
}

module _ {old new : Fabric} {i : ℕ} {before after : Edge} (step : Becomes old new i before after)
    (h : IsSound old) where
  at_place : (j : ℕ) {a : Edge} → IsEdge new j a → ((j ≡ i) × (a ≡ after)) ⊎ ((j ≢ i) × (IsEdge old j a))
  at_place j {a} is = set_cases old.edges i after j a (rw step.edges at is)

  -- each edge has the address of the edge that was there, and its originators
  was_there : (j : ℕ) {a : Edge} → IsEdge new j a → (was : Edge) × IsEdge old j was
      × (address_of a ≡ address_of was) × ((table_of a).originators ≡ (table_of was).originators)
  was_there j {a} is = elim (at_place j is) [
    | inl p ↦ (before, rw p.0 step.is, rw p.1 step.address, rw p.1 step.originators)
    | inr p ↦ (a, p.1, refl, refl)
  ]

  -- every update of the old pool has its source still
  source_still : (u : Fields) → Contains old.pool u → (j : ℕ) × (a : Edge) × IsEdge new j a
      × (address_of a ≡ u.register.originator)
  source_still u in' =
      let s = h.sources u in' in
      elim (cases_eq s.0 i) [
        | inl same ↦
            let here : before ≡ s.1 = (let p : IsEdge old i s.1 = rw same at s.2 in cc (step.is)) in
            (i, after, rw step.edges (set_same old.edges i after step.is), step.address ∙ ap address_of here ∙ s.3)
        | inr ne ↦ (s.0, s.1, rw step.edges (set_other old.edges i after s.0 ne s.2), s.3)
      ]

  configs_still : new.configs ≡ old.configs → AreOne before.routes.speaker after.routes.speaker
      → (j : ℕ) (c : EdgeConfig) (a : Edge) → slice_get new.configs j ≡ Some c → IsEdge new j a → IsOf c a
  configs_still same one j c a at_c at_a =
      let was : slice_get old.configs j ≡ Some c = rw same at at_c in
      elim (at_place j at_a) [
        | inl p ↦ rw p.1 (goes_on after one (h.configs i c before (rw p.0 at was) step.is))
        | inr p ↦ h.configs j c a was p.1
      ]

  still_sound : IsGoodEdge after → IsTold new.pool after.routes.speaker
      → ((j : ℕ) (a : Edge) → j ≢ i → IsEdge old j a → IsTold new.pool a.routes.speaker) → SaidOnce new.pool
      → ((u : Fields) → Contains new.pool u → Contains old.pool u ⊎ (address_of after ≡ u.register.originator))
      → length new.configs ≡ length old.configs
      → ((j : ℕ) (c : EdgeConfig) (a : Edge) → slice_get new.configs j ≡ Some c → IsEdge new j a → IsOf c a)
      → IsSound new
  still_sound good tells others once sources count configs = record {
    apart = λ j k a b at_a at_b same.
        let x = was_there j at_a in
        let y = was_there k at_b in
        h.apart j k x.0 y.0 x.1 y.1 (sym x.2 ∙ same ∙ y.2);
    good = λ j a at. elim (at_place j at) [ inl p ↦ rw p.1 good | inr p ↦ h.good j a p.1 ];
    told = λ j a at. elim (at_place j at) [ inl p ↦ rw p.1 tells | inr p ↦ others j a p.0 p.1 ];
    once = once;
    sources = λ u in'. elim (sources u in') [
      | inl before ↦ source_still u before
      | inr mine ↦ (i, after, rw step.edges (set_same old.edges i after step.is), mine)
    ];
    listed = λ j k a b at_a at_b.
        let x = was_there j at_a in
        let y = was_there k at_b in
        rw (x.3, y.2) (h.listed j k x.0 y.0 x.1 y.1);
    count = count ∙ h.count ∙ sym (rw step.edges (length-set old.edges i after));
    configs = configs;
  }

-- the pool stays
pool_stays : {old : Fabric} (i : ℕ) {a : Edge} (b : Edge) → IsSound old → IsEdge old i a
    → AreOne a.routes.speaker b.routes.speaker → IsGoodEdge b → IsTold old.pool b.routes.speaker
    → IsSound (record old { edges = slice_set old.edges i b })
pool_stays {old} i b h at one good tells =
    let step = becomes (record old { edges = slice_set old.edges i b }) i b at refl one in
    still_sound step h good tells (λ j c ne at. h.told j c at) h.once (λ u in'. inl in') refl
    (configs_still step h refl one)

-- ---- an announcement

-- an update of the present number is the edge's own value
present_once : {pool : List Fields} {e : Speaker} (r : Register) {v : Value} → r.originator ≡ e.address
    → value_at e.table r ≡ Some v → v.incarnation ≡ e.incarnation → IsTold pool e
    → (w : Fields) → Contains pool w → w.register ≡ r → w.value.incarnation ≡ v.incarnation
    → w.value.counter ≡ v.counter → w ≡ record { register = r; value = v }
present_once {e} r {v} mine is alive tells w in' same life number =
    elim (tells.behind w in' (rw same mine)) [
      | inl earlier ↦ absurd (omega (arith, earlier))
      | inr b ↦
          let here : value_at e.table w.register ≡ Some v = rw same is in
          let says : b.says ≡ v = (cc (b.there)) in
          elim b.order [
            | inl equal ↦ λ j. record { register = same j; value = (equal ∙ says) j }
            | inr less ↦ absurd (omega (arith, ap (λ (x : Value). x.counter) says))
          ]
    ]

grown_once : (pool : List Fields) (u : Fields) → ((w : Fields) → Contains pool w → w.register ≡ u.register
    → w.value.incarnation ≡ u.value.incarnation → w.value.counter ≡ u.value.counter → w ≡ u) → SaidOnce pool
    → SaidOnce (pool ++ u ∷ [])
grown_once pool u one once w x in_w in_x same life number = elim (Contains-push_cases pool u w in_w) [
  | inl w_old ↦ elim (Contains-push_cases pool u x in_x) [
    | inl x_old ↦ once w x w_old x_old same life number
    | inr x_new ↦ rw (← x_new) (one w w_old (rw x_new same) (rw x_new life) (rw x_new number))
  ]
  | inr w_new ↦ elim (Contains-push_cases pool u x in_x) [
    | inl x_old ↦ rw (← w_new) (sym (one x x_old (rw w_new (sym same)) (rw w_new (sym life)) (rw w_new (sym number))))
    | inr x_new ↦ sym w_new ∙ x_new
  ]
]

told_sound : {old : Fabric} (t : Telling old) → IsSound old → IsSound (told t)
told_sound {old} t h =
    let tells = h.told t.place t.edge t.at in
    let one : AreOne t.edge.routes.speaker (after_telling t.edge t.rest).routes.speaker = assumption in
    let step = becomes (told t) t.place (after_telling t.edge t.rest) t.at refl one in
    still_sound step h t.good (announced_told t.update.register t.rest t.pending t.there t.alive tells)
    (λ j x ne at. grown_told t.update (told_others h t j ne at) (h.told j x at))
    (grown_once old.pool t.update (present_once t.update.register t.own t.there t.alive tells) h.once)
    (λ u in'. elim (Contains-push_cases old.pool t.update u in') [
      | inl before ↦ inl before
      | inr same ↦ inr (sym t.own ∙ ap (λ (x : Fields). x.register.originator) same)
    ]) refl (configs_still step h refl one)

pub move_sound : {old new : Fabric} → Move old new → IsSound old → IsSound new
move_sound Stays h = h
move_sound (Tells t) h = told_sound t h
move_sound (Takes t) h =
    let numbers = (h.good t.place t.edge t.at).routes.numbers in
    let one = heard_later t.edge.routes numbers t.ok in
    pool_stays t.place (after_hearing t.edge t.update) h t.at
    (assumption) t.good
    (heard_tells t.edge.routes t.inside numbers t.ok (h.told t.place t.edge t.at))

-- ---- a restart
restart_sound : {old new : Fabric} (i : ℕ) {a : Edge} {n : ℕ} {reply : Reply} → IsEdge old i a
    → OpensAnew old (suc i) a n reply new → IsSound old → IsSound new
restart_sound {old} {new} i {a} {n} at s h =
    still_sound step h s.good (rw pool (opened_told old.pool fit s.opened earlier))
    (λ j x ne at. rw pool (h.told j x at))
    (rw pool h.once) (λ u in'. inl (rw pool at in'))
    (rw configs (length-set old.configs i (in_incarnation s.config n)))
    (λ j c x at_c at_x. elim (at_place step h j at_x) [
      | inl p ↦ elim (set_cases old.configs i (in_incarnation s.config n) j c (rw configs at at_c)) [
        | inl q ↦ rw (q.1, p.1) anew
        | inr q ↦ absurd (q.0 p.0)
      ]
      | inr p ↦ elim (set_cases old.configs i (in_incarnation s.config n) j c (rw configs at at_c)) [
        | inl q ↦ absurd (p.0 q.0)
        | inr q ↦ h.configs j c x q.1 p.1
      ]
    ])
  where
    was : IsOf s.config a
    was = h.configs i s.config a s.config_is at

    fit : IsConfig (in_incarnation s.config n)
    fit = fit_in_life n was.config

    anew : IsOf (in_incarnation s.config n) s.after
    anew = opened_of fit s.opened

    step : Becomes old new i a s.after
    step = record {
      is = at;
      edges = rw (s.new_is, minus i);
      address = anew.address ∙ sym was.address;
      originators = anew.originators ∙ sym was.originators;
    }

    pool : new.pool ≡ old.pool
    pool = rw s.new_is

    configs : new.configs ≡ slice_set old.configs i (in_incarnation s.config n)
    configs = rw (s.new_is, minus i)

    -- each update announced under this address is of the old incarnation, or of an earlier one
    earlier : (u : Fields) → Contains old.pool u → u.register.originator ≡ s.config.address → u.value.incarnation < n
    earlier u in' mine = elim ((h.told i a at).behind u in' (mine ∙ sym was.address)) [
      | inl before ↦ omega (arith, s.higher)
      | inr b ↦ omega (arith, b.present, s.higher)
    ]

-- ---- steps
did_sound : {old new : Fabric} {step : Step} → Did old step new → IsSound old → IsSound new
did_sound (Moved move) h = move_sound move h
did_sound (Opened x a n reply new at s) h = restart_sound x at s h
did_sound (Spoke x a b event answer at steps) h =
    let talks = local_talks a event answer b steps in
    let good = h.good x a at in
    pool_stays x b h at (talks_one talks) (steps_good a (event_of event) answer b good steps)
    (talks_told talks good.routes.numbers (h.told x a at))

pub step_sound : (old new : Fabric) (step : Step) (result : Result Reply FabricRefusal)
    → FabricSteps old step result new → IsSound old → IsSound new
step_sound old new step result s h = did_sound (did new step result h s) h

pub runs_sound : (steps : List Step) (old new : Fabric) → Runs old steps new → IsSound old → IsSound new
runs_sound [] old new s h = rw s h
runs_sound (step ∷ steps) old new s h = runs_sound steps s.0 new s.3 (step_sound old s.0 step s.1 s.2 h)

-- what every announcement and delivery keeps, a list of them keeps
pub along : (P : Fabric → Type 0) → ((old new : Fabric) → IsSound old → Move old new → P old → P new)
    → (steps : List Step) {old : Fabric} (new : Fabric) → Rests old steps new → IsSound old → P old → P new
along P next [] new h sound p = rw h p
along P next (step ∷ steps) {old} new h sound p =
    let move = moved h.0 step h.1 sound h.2 h.4 in
    along P next steps new h.5 (move_sound move sound) (next old h.0 sound move p)

pub rests_sound : (steps : List Step) {old : Fabric} (new : Fabric) → Rests old steps new → IsSound old → IsSound new
rests_sound steps new h sound = along IsSound (λ x y _ move s. move_sound move s) steps new h sound sound
