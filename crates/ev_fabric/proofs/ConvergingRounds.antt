-- Two rounds make an undisturbed fabric agree.
use Rattle.std.proofs.lemmas.List.Sums.{count_by-le-length, sum_by_push}
use Rattle.ev_edge.specs.declared.config.EdgeConfig.{EdgeConfig}
use Rattle.ev_fabric.specs.Opening.{AreConfigs, IsStart}
use Rattle.ev_fabric.proofs.Opened.{start_sound}
use Rattle.std.proofs.Common.{◌≡◌, ◌≢◌, ◌⊎◌, inl, inr, ℕ, zero, suc, ◌+◌, ◌<◌, ◌≤◌, ◌^◌, true, false, nat_le, Option}
use Rattle.std.proofs.Common.{Some, length-drop, None, Result, Ok, Err, List, [], ◌∷◌, ◌++◌, length, refl, sym, ap, ◌∙◌}
use Rattle.std.proofs.Common.{arith, Bool, cond, subst}
use Rattle.std.proofs.lemmas.Bool.Decides.{nat_tests}
use Rattle.std.proofs.lemmas.Bool.{cases_Bool, cases_eq}
use Rattle.std.proofs.lemmas.List.Elements.{Contains-push_cases, All-nil, All-cons, All-head, All-tail, All-append}
use Rattle.std.proofs.lemmas.Option.{slice_get_within}
use Rattle.std.specs.Prelude.{◌==◌, Contains, slice_get}
use Rattle.std.specs.List.{All}
use Rattle.route_wire.specs.declared.update.Value.{Value}
use Rattle.route_wire.specs.Fields.{Fields}
use Rattle.route_wire.specs.Order.{is_newer}
use Rattle.route_join.specs.Table.{value_at, is_news}
use Rattle.route_join.specs.Owner.{advert_in, advert_of}
use Rattle.route_join.specs.Taken.{taken_of}
use Rattle.ev_claims.specs.Speaker.{announced, is_newest, is_returning, Speaker}
use Rattle.ev_claims.specs.LocalRoutes.{capacity, after_own, after_take, after_announcement, loses_pinned}
use Rattle.ev_edge.specs.declared.reply.Reply.{Reply}
use Rattle.ev_edge.specs.declared.refusal.Refusal.TheVariants.{Edge as OfEdge}
use Rattle.ev_edge.specs.declared.refusal.EdgeRefusal.TheVariants.{NoMemory as EdgeNoMemory}
use Rattle.ev_edge.specs.Edge.{Edge, table_of, address_of}
use Rattle.ev_edge.specs.Steps.{Steps, nothing, lost_alert}
use Rattle.ev_fabric.specs.declared.refusal.FabricRefusal.{FabricRefusal}
use Rattle.ev_fabric.specs.declared.refusal.FabricRefusal.TheVariants.{NoSuchEdge, NoSuchUpdate, Edge as OfAnEdge}
use Rattle.ev_fabric.specs.declared.step.Step.{Step}
use Rattle.ev_fabric.specs.declared.step.Step.TheVariants.{Local, Announce, Deliver, Restart}
use Rattle.ev_fabric.specs.Fabric.{Fabric, IsEdge}
use Rattle.ev_fabric.specs.Steps.{with_edge, with_announced, of_edge, StepsAt, AnnouncesAt, FabricSteps}
use Rattle.ev_fabric.specs.Sound.{IsSound}
use Rattle.ev_fabric.specs.Agreed.{AllAgree}
use Rattle.ev_fabric.specs.ConvergenceEdge.{comes_back, returning, unannounced, missing}
use Rattle.ev_fabric.specs.Convergence.{IsQuiet, IsGranted, Rests, full_pool, HasNumbers, announcing, taking, each}
use Rattle.ev_fabric.specs.Convergence.{round, two_rounds, WasGiven, AllGiven, AllSilent, to_come, work, Works}
use Rattle.ev_fabric.proofs.Agreements.{none_pending}
use Rattle.ev_fabric.proofs.Places.{minus, set_cases, each_set, contains_at}
use Rattle.ev_fabric.proofs.Calls.{answered as ok_answer}
use Rattle.ev_fabric.proofs.Cases.{nth_cases, at_edge, at_delivery, at_given}
use Rattle.ev_fabric.proofs.ConvergingSums.{sum_has, count_some, place_of, later_one, sum_set, count_less}
use Rattle.ev_fabric.proofs.ConvergingEdge.{Accepts, heard, heard_has, may_return, counted, later_trans, after_hearing}
use Rattle.ev_fabric.proofs.ConvergingEdge.{KnowsOwn, after_telling, heard_later, news_before}
use Rattle.ev_fabric.proofs.ConvergingIdle.{idle_hearing, Mourns, heard_mourns, known_hearing}
use Rattle.ev_fabric.proofs.ConvergingMoves.{Kept, sound_kept, Move, Stays, Tells, Takes, moved, Before, stays_before}
use Rattle.ev_fabric.proofs.ConvergingMoves.{before, move_full, Taking, told, taken, same_edges, told_known, told_fewer}
use Rattle.ev_fabric.proofs.ConvergingMoves.{taken_fewer}
use Rattle.ev_fabric.proofs.Fabrics.{move_sound, along, rests_sound}
use Rattle.route_wire.specs.declared.update.Register.{Register}
use Rattle.ev_edge.specs.declared.event.Event.TheVariants as events
use Rattle.ev_edge.specs.declared.refusal.Refusal as edge

-- ---- what announcements and deliveries keep
pub rests_full : (steps : List Step) {old : Fabric} (new : Fabric) → IsSound old → Rests old steps new
    → full_pool new ≤ full_pool old
rests_full steps {old} new sound h = along (λ f. full_pool f ≤ full_pool old)
    (λ x y s move less. omega (arith, move_full move s)) steps new h sound (omega arith)

pub rests_before : (steps : List Step) {old : Fabric} (new : Fabric) → IsSound old → Rests old steps new → (j : ℕ)
    {b : Edge} → IsEdge new j b → Before old new j b
rests_before steps {old} new sound h j {b} at = along (λ f. (j : ℕ) (b : Edge) → IsEdge f j b → Before old f j b)
    (λ x y s move p j b at.
    let g = before move s j at in
    let h = p j g.was g.at in
    record {
      was = h.was;
      at = h.at;
      later = later_trans h.later g.later;
      numbers = omega (arith, g.numbers, h.numbers);
      returns = omega (arith, g.returns, h.returns);
    }) steps new h sound (λ j b at. stays_before old old j at (omega arith)) j b at

-- ---- a fabric whose edges take each update of the pool
pub record IsReady (f : Fabric) : Type 0 where
  pub sound : IsSound f
  pub numbers : HasNumbers f

move_ready : {old new : Fabric} → Move old new → IsReady old → IsReady new
move_ready move h = record {
  sound = move_sound move h.sound;
  numbers = λ i a at some.
      let x = before move h.sound i at in
      omega (arith, h.numbers i x.was x.at (omega (arith, x.returns)), x.numbers);
}

-- an edge of a ready fabric takes each update of the pool
ready_accepted : {f : Fabric} → IsReady f → (i : ℕ) {a : Edge} {u : Fields} → IsEdge f i a → Contains f.pool u
    → Accepts a.routes.speaker u
ready_accepted {f} h i {a} {u} at in' = record {
  listed = let source = h.sound.sources u in' in
      rw (← source.3) (h.sound.listed i source.0 a source.1 at source.2);
  ahead = λ mine. elim (cases_Bool (is_newest a.routes.speaker u)) [
    | inl newest ↦ elim (knows i a at u in' mine) [
      | inl earlier ↦ let late : nat_le a.routes.speaker.incarnation u.value.incarnation ≡ false =
          grind (arith, nat_tests) in rw (newest, late) refl
      | inr none ↦ cc
    ]
    | inr none ↦ rw none
  ];
  spent = λ mine. elim (cases_Bool (is_returning a.routes.speaker u)) [
    | inl back ↦
        let test : (u.register.originator == address_of a) ≡ true = grind (arith, nat_tests) in
        let comes : comes_back a.routes.speaker u ≡ true = rw (test, back) refl in
        let c = counted f.pool a.routes.speaker (knows i a at) in' comes in
        let one = count_some (may_return f.pool a.routes.speaker) f.pool c.inside c.counts in
        let bound = h.numbers i a at (omega arith) in
        let low : nat_le (2 ^ 63) a.routes.speaker.counter ≡ false =
        (let few : a.routes.speaker.counter < 2 ^ 63 = omega arith in grind (arith, nat_tests)) in
        rw (back, low) refl
    | inr none ↦ rw none
  ];
}
  where
    knows : (i : ℕ) (a : Edge) → IsEdge f i a → KnowsOwn f.pool a.routes.speaker
    knows = (sound_kept f h.sound).knows

pub rests_ready : (steps : List Step) {old : Fabric} (new : Fabric) → Rests old steps new → IsReady old → IsReady new
rests_ready steps new h ready = along IsReady (λ x y _ move r. move_ready move r) steps new h ready.sound ready

split : (xs ys : List Step) (old new : Fabric) → Rests old (xs ++ ys) new
    → (mid : Fabric) × Rests old xs mid × Rests mid ys new
split [] ys old new h = (old, refl, h)
split (x ∷ xs) ys old new h = let rest = split xs ys h.0 new h.5 in (rest.0, (h.0, h.1, h.2, h.3, h.4, rest.1), rest.2)

-- the steps of each of several edges
module _ (f : ℕ → List Step) where
  each_keeps : (Q : Fabric → Type 0) (m : ℕ)
      → ((e : ℕ) (old new : Fabric) → e ≤ m → IsReady old → Rests old (f e) new → Q old → Q new)
      → {old : Fabric} (new : Fabric) → IsReady old → Rests old (each f m) new → Q old → Q new
  each_keeps Q zero keep new ready h q = rw h q
  each_keeps Q (suc m) keep {old} new ready h q =
      let s = split (f (suc m)) (each f m) old new h in
      each_keeps Q m (λ e old new le. keep e old new (omega arith)) new (rests_ready (f (suc m)) s.0 s.1 ready)
      s.2 (keep (suc m) old s.0 (omega arith) ready s.1 q)

  -- what one edge's steps bring about, the others' keep
  pub each_brings : (i : ℕ) (P Q : Fabric → Type 0)
      → ((e : ℕ) (old new : Fabric) → e ≢ suc i → IsReady old → Rests old (f e) new
      → (P old → P new) × (Q old → Q new))
      → ((old new : Fabric) → IsReady old → Rests old (f (suc i)) new → P old → Q new)
      → (m : ℕ) → i < m → {old : Fabric} (new : Fabric) → IsReady old → Rests old (each f m) new → P old → Q new
  each_brings i P Q keep bring zero lt new ready h p = absurd (omega arith)
  each_brings i P Q keep bring (suc m) lt {old} new ready h p =
      let s = split (f (suc m)) (each f m) old new h in
      let mid = rests_ready (f (suc m)) s.0 s.1 ready in
      elim (cases_eq i m) [
        | inl same ↦ each_keeps Q m (λ e x y le ready h. (keep e x y (omega (arith, same)) ready h).1) new mid s.2
            (bring old s.0 ready (rw same s.1) p)
        | inr ne ↦ each_brings i P Q keep bring m (omega arith) new mid s.2
            ((keep (suc m) old s.0 (omega arith) ready s.1).0 p)
      ]

-- ---- arrivals

-- the edge at this place, if there is one, has this update or a newer one
abbrev pub Has : Fabric → ℕ → Fields → Type 0
Has f i u = (a : Edge) → IsEdge f i a → is_newest a.routes.speaker u ≡ false

pub rests_has : (steps : List Step) {old : Fabric} (new : Fabric) → IsSound old → Rests old steps new → (i : ℕ)
    (u : Fields) → Has old i u → Has new i u
rests_has steps new sound h i u has b at = let x = rests_before steps new sound h i at in
    x.later.news u.register u.value (has x.was x.at)

-- an update of the pool keeps its place
pool_keeps : {old new : Fabric} → Move old new → (k : ℕ) {u : Fields} → slice_get old.pool k ≡ Some u
    → slice_get new.pool k ≡ Some u
pool_keeps Stays k at = at
pool_keeps (Takes t) k at = at
pool_keeps {old} (Tells t) k {u} at = front old.pool k at
  where
    front : (us : List Fields) (k : ℕ) → slice_get us k ≡ Some u → slice_get (us ++ t.update ∷ []) k ≡ Some u
    front [] k at = cc
    front (x ∷ us) zero at = at
    front (x ∷ us) (suc k) at = front us k at

pub rests_pool : (steps : List Step) {old : Fabric} (new : Fabric) → IsSound old → Rests old steps new → (k : ℕ)
    {u : Fields} → slice_get old.pool k ≡ Some u → slice_get new.pool k ≡ Some u
rests_pool steps new sound h k {u} at = along (λ f. slice_get f.pool k ≡ Some u)
    (λ x y _ move there. pool_keeps move k there) steps new h sound at

took : {old : Fabric} (new : Fabric) (i : ℕ) {a : Edge} (b : Edge) (u : Fields) → IsSound old → IsEdge old i a
    → b ≡ after_hearing a u → new ≡ with_edge old (suc i) b → Has new i u
took {old} new i {a} b u sound at same is c at_c = elim (set_cases old.edges i b i c (rw (is, minus i) at at_c)) [
  | inl p ↦ rw (p.1, same) (heard_has a.routes u (sound.good i a at).routes.numbers)
  | inr p ↦ absurd (p.0 refl)
]

-- after an answered delivery the edge has taken the update
pub answered : (a b : Edge) (u : Fields) (reply : Reply) → Steps a (events.Take u) (Ok reply) b
    → b ≡ record a { routes = heard a.routes u }
answered a b u reply h = elim (cases_Bool (u.register.originator == address_of a)) [
  | inl t ↦ rw ((rw t at h).3, t)
  | inr t ↦ rw ((rw t at h).2, t)
]

-- an accepted update is refused only for lack of memory
not_refused : (a b : Edge) {u : Fields} (why : edge.Refusal) → Accepts a.routes.speaker u
    → Steps a (events.Take u) (Err why) b → why ≡ OfEdge EdgeNoMemory
not_refused a b {u} why ok h = elim (cases_Bool (u.register.originator == address_of a)) [
  | inl t ↦
      let mine : u.register.originator ≡ address_of a = grind (arith, nat_tests) in
      elim (rw t at h).0 [
        | inl ahead ↦ cc (ok.ahead mine, ahead.1)
        | inr rest ↦ elim rest [
          | inl spent ↦ cc (ok.spent mine, spent.1)
          | inr memory ↦ memory.0
        ]
      ]
  | inr t ↦ elim (rw t at h).0 [
    | inl unknown ↦ cc (ok.listed, unknown.1)
    | inr memory ↦ memory.0
  ]
]

pub given_ok : (old new : Fabric) (i k : ℕ) (reply : Reply) (u : Fields) → Kept old
    → FabricSteps old (Deliver (suc i) (suc k)) (Ok reply) new → slice_get old.pool k ≡ Some u → Has new i u
given_ok old new i k reply u kept h at_u =
    at_given (Has new i u) old new (Ok reply) i k h at_u (λ none is. cc (is.0))
    (λ a at s. took new i s.after u kept.sound at (answered a s.after u reply
    (rw (ok_answer reply s.answer s.result_is) at s.steps)) s.new_is)

pub given : {old : Fabric} (new : Fabric) (i k : ℕ) (result : Result Reply FabricRefusal) {u : Fields} → IsReady old
    → IsGranted result → FabricSteps old (Deliver (suc i) (suc k)) result new → slice_get old.pool k ≡ Some u
    → Has new i u
given {old} new i k result {u} ready granted h at_u =
    at_given (Has new i u) old new result i k h at_u
    (λ none is a at. absurd (let at' : slice_get old.edges i ≡ Some a = rw is.1 at at in cc))
    (λ a at s. takes a at s s.answer s.result_is s.steps)
  where
    takes : (a : Edge) → IsEdge old i a → (s : StepsAt old (suc i) a (events.Take u) result new)
        → (answer : Result Reply edge.Refusal) → result ≡ of_edge answer → Steps a (events.Take u) answer s.after
        → Has new i u
    takes a at s (Ok reply) is steps = took new i s.after u ready.sound at (answered a s.after u reply steps) s.new_is
    takes a at s (Err why) is steps = absurd ((rw is at granted).1 (ap OfAnEdge (not_refused a s.after why
        (ready_accepted ready i at (contains_at old.pool k at_u)) steps)))

-- a step of another edge leaves this one
announce_else : (old new : Fabric) (e : ℕ) (result : Result Reply FabricRefusal)
    → FabricSteps old (Announce e) result new → (i : ℕ) → e ≢ suc i → {c : Edge} → IsEdge new i c → IsEdge old i c
announce_else old new e result h i ne {c} at_c =
    at_edge (IsEdge old i c) old new result (λ e a. AnnouncesAt old e a result new) e h (λ is. rw is.1 at at_c)
    (λ x a named _ s. other x a named result s)
  where
    other : (x : ℕ) (a : Edge) → e ≡ suc x → (result : Result Reply FabricRefusal)
        → AnnouncesAt old (suc x) a result new → IsEdge old i c
    other x a named (Ok reply) s = elim (set_cases old.edges x s.0 i c (rw (s.2, minus x) at at_c)) [
      | inl p ↦ absurd (ne (omega (arith, p.0)))
      | inr p ↦ p.1
    ]
    other x a named (Err why) s = rw s.1 at at_c

pub announcing_else : (n e : ℕ) (old new : Fabric) → Rests old (announcing e n) new → (i : ℕ) → e ≢ suc i → {c : Edge}
    → IsEdge new i c → IsEdge old i c
announcing_else zero e old new h i ne at = rw h at at
announcing_else (suc n) e old new h i ne at =
    announce_else old h.0 e h.1 h.4 i ne (announcing_else n e h.0 new h.5 i ne at)

-- ---- the two halves of a round
abbrev announcings : ℕ → ℕ → List Step
announcings m n = each (λ e. announcing e n) m

abbrev deliveries : ℕ → ℕ → List Step
deliveries m n = each (λ e. taking e n) m

-- deliveries leave the pool
taking_pool : (n e : ℕ) (old new : Fabric) → Rests old (taking e n) new → new.pool ≡ old.pool
taking_pool zero e old new h = rw h
taking_pool (suc n) e old new h = taking_pool n e h.0 new h.5
    ∙ at_delivery (h.0.pool ≡ old.pool) old h.0 h.1 e (suc n) h.4 (λ why is. rw is.1)
    (λ x a n u _ _ at there s. rw s.new_is)

taking_has : (n i k : ℕ) {u : Fields} → k < n → (old new : Fabric) → IsReady old
    → Rests old (taking (suc i) n) new → slice_get old.pool k ≡ Some u → Has new i u
taking_has zero i k lt old new ready h at = absurd (omega arith)
taking_has (suc n) i k {u} lt old new ready h at =
    let move = moved h.0 (Deliver (suc i) (suc n)) h.1 ready.sound h.2 h.4 in
    let mid = move_ready move ready in
    elim (cases_eq k n) [
      | inl same ↦ rests_has (taking (suc i) n) new mid.sound h.5 i u (given h.0 i n h.1 ready h.3 h.4 (rw same at at))
      | inr ne ↦ taking_has n i k (omega arith) h.0 new mid h.5 (pool_keeps move k at)
    ]

each_has : {m n : ℕ} (i k : ℕ) {u : Fields} → i < m → k < n → {old : Fabric} (new : Fabric) → IsReady old
    → Rests old (deliveries m n) new → slice_get old.pool k ≡ Some u → Has new i u
each_has {m} {n} i k {u} i_lt k_lt new ready h at = each_brings (λ e. taking e n) i (λ f. slice_get f.pool k ≡ Some u)
    (λ f. Has f i u)
    (λ e _ new _ ready h. (
      rests_pool (taking e n) new ready.sound h k,
      rests_has (taking e n) new ready.sound h i u,
    )) (taking_has n i k k_lt) m i_lt new ready h at

-- ---- announcements empty the list of pending registers
abbrev pub Few : Fabric → ℕ → ℕ → Type 0
Few f i n = (a : Edge) → IsEdge f i a → length a.routes.speaker.pending ≤ n

announce_one : {old : Fabric} (new : Fabric) (i n : ℕ) (result : Result Reply FabricRefusal) → IsSound old
    → IsGranted result → FabricSteps old (Announce (suc i)) result new → Few old i (suc n) → Few new i n
announce_one {old} new i n result sound granted h few c at_c = go result granted (rw x.at at h)
  where
    x : Before old new i c
    x = before (moved new (Announce (suc i)) result sound tt h) sound i at_c

    go : (result : Result Reply FabricRefusal) → IsGranted result → AnnouncesAt old (suc i) x.was result new
        → length c.routes.speaker.pending ≤ n
    go (Ok reply) granted h = elim (set_cases old.edges i h.0 i c (rw (h.2, minus i) at at_c)) [
      | inl p ↦ rw (p.1, h.1.1) (omega (arith, length-drop 1 x.was.routes.speaker.pending, few x.was x.at))
      | inr p ↦ absurd (p.0 refl)
    ]
    go (Err why) granted h = absurd (granted.0 h.0.0)

pub announcing_none : (n i : ℕ) {old : Fabric} (new : Fabric) → IsSound old → Rests old (announcing (suc i) n) new
    → Few old i n → Few new i 0
announcing_none zero i new sound h few = rw h few
announcing_none (suc n) i new sound h few =
    announcing_none n i new (move_sound (moved h.0 (Announce (suc i)) h.1 sound h.2 h.4) sound) h.5
    (announce_one h.0 i n h.1 sound h.3 h.4 few)

each_none : {m : ℕ} (n i : ℕ) → i < m → {old : Fabric} (new : Fabric) → IsReady old
    → Rests old (announcings m n) new → Few old i n → Few new i 0
each_none {m} n i lt new ready h few = each_brings (λ e. announcing e n) i (λ f. Few f i n) (λ f. Few f i 0)
    (λ e old new ne _ h. (
      (λ few c at. few c (announcing_else n e old new h i ne at)),
      (λ few c at. few c (announcing_else n e old new h i ne at)),
    )) (λ old new ready h. announcing_none n i new ready.sound h) m lt new ready h few

-- ---- calm: each pending register is withdrawn, and each update that some edge hasn't got is a withdrawal
abbrev AllMourn : Fabric → Type 0
AllMourn f = (i : ℕ) (a : Edge) → IsEdge f i a → Mourns a.routes.speaker

record IsCalm (f : Fabric) : Type 0 where
  mourns : AllMourn f
  known : (i : ℕ) (a : Edge) (u : Fields) → IsEdge f i a → Contains f.pool u
      → (is_newest a.routes.speaker u ≡ false) ⊎ (advert_in u.value.content ≡ None)

move_mourns : (old new : Fabric) → IsSound old → Move old new → AllMourn old → AllMourn new
move_mourns old _ sound Stays h = h
move_mourns old _ sound (Tells t) h = each_set (λ (e : Edge). Mourns e.routes.speaker) old.edges t.place
    (after_telling t.edge t.rest)
    (λ q in'. h t.place t.edge t.at q (rw t.pending (later_one t.update.register t.rest q in'))) h
move_mourns old _ sound (Takes t) h = each_set (λ (e : Edge). Mourns e.routes.speaker) old.edges t.place
    (after_hearing t.edge t.update)
    (heard_mourns t.edge.routes (sound.good t.place t.edge t.at).routes.numbers t.ok (h t.place t.edge t.at)) h

-- a new update of the pool is a withdrawal
move_withdraws : {old new : Fabric} → Move old new → AllMourn old → (w : Fields) → Contains new.pool w
    → Contains old.pool w ⊎ (advert_in w.value.content ≡ None)
move_withdraws Stays h w in' = inl in'
move_withdraws (Takes t) h w in' = inl in'
move_withdraws {old} (Tells t) h w in' = elim (Contains-push_cases old.pool t.update w in') [
  | inl earlier ↦ inl earlier
  | inr now ↦ inr (rw (← now) (ap advert_of (sym t.there)
      ∙ h t.place t.edge t.at t.update.register (rw t.pending (0, omega arith, refl))))
]

move_calm : {old new : Fabric} → IsSound old → Move old new → IsCalm old → IsCalm new
move_calm {old} {new} sound move h = record {
  mourns = move_mourns old new sound move h.mourns;
  known = λ j b w at in'.
      let x = before move sound j at in
      elim (move_withdraws move h.mourns w in') [
        | inl earlier ↦ elim (h.known j x.was w x.at earlier) [
          | inl old ↦ inl (x.later.news w.register w.value old)
          | inr none ↦ inr none
        ]
        | inr none ↦ inr none
      ];
}

-- then nothing becomes pending
move_few : {old new : Fabric} → IsSound old → Move old new → IsCalm old → (j n : ℕ) → Few old j n → Few new j n
move_few sound Stays calm j n few b at = few b at
move_few {old} sound (Tells t) calm j n few b at = elim (set_cases old.edges t.place _ j b at) [
  | inl p ↦ rw p.1 (omega (arith, few t.edge (rw p.0 t.at), ap length t.pending))
  | inr p ↦ few b p.1
]
move_few {old} sound (Takes t) calm j n few b at = elim (set_cases old.edges t.place _ j b at) [
  | inl p ↦ rw (
    p.1,
    idle_hearing t.edge.routes t.update (sound.good t.place t.edge t.at).keeps.owns
        (calm.known t.place t.edge t.update t.at t.inside),
  ) (few t.edge (rw p.0 t.at))
  | inr p ↦ few b p.1
]

-- ---- a round

-- the numbers of edges and of updates suffice
pub record IsEnough (m n : ℕ) (f : Fabric) : Type 0 where
  pub edges : (i : ℕ) (a : Edge) → IsEdge f i a → i < m
  pub updates : full_pool f ≤ n

rests_enough : {m n : ℕ} (steps : List Step) {old : Fabric} (new : Fabric) → IsReady old → Rests old steps new
    → IsEnough m n old → IsEnough m n new
rests_enough steps new ready h enough = record {
  edges = λ i a at. let x = rests_before steps new ready.sound h i at in enough.edges i x.was x.at;
  updates = omega (arith, rests_full steps new ready.sound h, enough.updates);
}

-- after the announcements of a round nothing is pending, and after its deliveries each edge has the whole pool
record Rounds (m n : ℕ) (old new : Fabric) : Type 0 where
  mid : Fabric
  announced : Rests old (announcings m n) mid
  ready : IsReady mid
  silent : (i : ℕ) → Few mid i 0
  delivered : Rests mid (deliveries m n) new
  arrived : (i : ℕ) (a : Edge) (u : Fields) → IsEdge new i a → Contains new.pool u → is_newest a.routes.speaker u
      ≡ false

pub no_length : {X : Type 0} (xs : List X) → length xs ≤ 0 → xs ≡ []
no_length [] h = refl
no_length (x ∷ xs) h = absurd (omega arith)

rounds : {m n : ℕ} {old : Fabric} (new : Fabric) → IsReady old → IsEnough m n old → Rests old (round m n) new
    → Rounds m n old new
rounds {m} {n} {old} new ready enough h = record {
  mid = s.0;
  announced = s.1;
  ready = mid;
  silent = λ i a at. each_none n i (between.edges i a at) s.0 ready s.1
      (λ b at_b. omega (arith, sum_has (λ (x : Edge). unannounced old.pool x.routes) old.edges i at_b, enough.updates))
      a at;
  delivered = s.2;
  arrived = λ i a u at in'.
      let x = rests_before (deliveries m n) new mid.sound s.2 i at in
      let place = place_of s.0.pool u (rw same at in') in
      each_has i place.0 (between.edges i x.was x.at)
      (omega (arith, slice_get_within s.0.pool place.0 u place.1, between.updates)) new mid s.2 place.1 a at;
}
  where
    s : (mid : Fabric) × Rests old (announcings m n) mid × Rests mid (deliveries m n) new
    s = split (announcings m n) (deliveries m n) old new h

    mid : IsReady s.0
    mid = rests_ready (announcings m n) s.0 s.1 ready

    between : IsEnough m n s.0
    between = rests_enough (announcings m n) s.0 ready s.1 enough

    same : new.pool ≡ s.0.pool
    same = each_keeps (λ e. taking e n) (λ f. f.pool ≡ s.0.pool) m
        (λ e x y _ _ h is. taking_pool n e x y h ∙ is) new mid s.2 refl

-- the first round leads to calm
first_round : {m n : ℕ} {old : Fabric} (new : Fabric) → IsReady old → IsEnough m n old → Rests old (round m n) new
    → IsCalm new
first_round {m} {n} new ready enough h =
    let r = rounds new ready enough h in
    record {
      mourns = along AllMourn move_mourns (deliveries m n) new r.delivered r.ready.sound
          (λ i a at q in'. absurd (none_pending (rw (no_length a.routes.speaker.pending (r.silent i a at)) at in')));
      known = λ i a u at in'. inl (r.arrived i a u at in');
    }

pub arrived_value : (o : Option Value) (w : Value) → is_news o w ≡ false
    → (v : Value) × (o ≡ Some v) × (is_newer w v ≡ false)
arrived_value None w h = cc
arrived_value (Some v) w h = (v, refl, h)

-- from calm one round leads to agreement
second_round : {m n : ℕ} {old : Fabric} (new : Fabric) → IsReady old → IsCalm old → IsEnough m n old
    → Rests old (round m n) new → AllAgree new
second_round {m} {n} {old} new ready calm enough h = record {
  quiet = λ i a at. no_length a.routes.speaker.pending ((along (λ f. IsCalm f × Few f i 0)
      (λ x y k move p. (move_calm k move p.0, move_few k move p.0 i 0 p.1))
      (deliveries m n) new r.delivered r.ready.sound (
        along IsCalm (λ x y k move c. move_calm k move c) (announcings m n) r.mid r.announced ready.sound calm,
        r.silent i,
      )).1 a at);
  arrived = λ i a at u in'. arrived_value (value_at (table_of a) u.register) u.value (r.arrived i a u at in');
}
  where
    r : Rounds m n old new
    r = rounds new ready enough h

pub two_rounds_agree : {m n : ℕ} {old : Fabric} (new : Fabric) → IsReady old → IsEnough m n old
    → Rests old (round m n ++ round m n) new → AllAgree new
two_rounds_agree {m} {n} {old} new ready enough h =
    let s = split (round m n) (round m n) old new h in
    second_round new (rests_ready (round m n) s.0 s.1 ready) (first_round s.0 ready enough s.1)
    (rests_enough (round m n) s.0 ready s.1 enough) s.2

pub enough_itself : (f : Fabric) → IsEnough (length f.edges) (full_pool f) f
enough_itself f = record { edges = λ i a at. slice_get_within f.edges i a at; updates = omega arith }

-- ---- fairness

-- the update of an answered delivery was in the pool
was_there : (old new : Fabric) (i k : ℕ) (reply : Reply) → FabricSteps old (Deliver (suc i) (suc k)) (Ok reply) new
    → (u : Fields) × (slice_get old.pool k ≡ Some u)
was_there old new i k reply h =
    at_delivery ((u : Fields) × (slice_get old.pool k ≡ Some u)) old new (Ok reply) (suc i) (suc k) h
    (λ why is. cc (is.0))
    (λ x a n u _ update at there s. (u, ap (slice_get old.pool) (omega arith) ∙ there))

was_given : {old : Fabric} {steps : List Step} {new : Fabric} → IsSound old → (i k : ℕ) {u : Fields}
    → slice_get new.pool k ≡ Some u → WasGiven old steps new (suc i) (suc k) → Has new i u
was_given {new} sound i k {u} at g =
    let mid = rests_sound g.earlier g.mid g.before sound in
    let there = was_there g.mid g.next i k g.reply g.given in
    let move = moved g.next (Deliver (suc i) (suc k)) (Ok g.reply) mid tt g.given in
    let next = move_sound move mid in
    let now = rests_pool g.later new next g.after k (pool_keeps move k there.1) in
    let same : there.0 ≡ u = cc in
    rw same at (rests_has g.later new next g.after i there.0
    (given_ok g.mid g.next i k g.reply there.0 (sound_kept g.mid mid) g.given there.1))

pub fair_agrees : {old : Fabric} (steps : List Step) (new : Fabric) → IsSound old → AllGiven old steps new
    → AllSilent new → AllAgree new
fair_agrees steps new sound all quiet = record {
  quiet = quiet;
  arrived = λ i a at u in'.
      let place = place_of new.pool u in' in
      arrived_value (value_at (table_of a) u.register) u.value
      (was_given sound i place.0 place.1 (all i a place.0 u at place.1) a at);
}

-- ---- such runs exist: no step of them needs to be refused
abbrev pub MayStep : Fabric → Step → Type 0
MayStep f step = (mid : Fabric) × (result : Result Reply FabricRefusal) × IsGranted result
    × FabricSteps f step result mid

taking_step : (a : Edge) {u : Fields} → Accepts a.routes.speaker u
    → (reply : Reply) × (b : Edge) × Steps a (events.Take u) (Ok reply) b
taking_step a {u} ok = elim (cases_Bool (u.register.originator == address_of a)) [
  | inl t ↦ let mine : u.register.originator ≡ address_of a = grind (arith, nat_tests) in (
    record nothing { taken = Some (taken_of (table_of a) u) },
    record a { routes = after_own a.routes u },
    rw t (ok.ahead mine, ok.spent mine, refl, refl),
  )
  | inr t ↦ (
    record nothing { taken = Some (taken_of (table_of a) u); alert = lost_alert (loses_pinned a.routes u) },
    record a { routes = after_take a.routes u },
    rw t (ok.listed, refl, refl),
  )
]

quiet_step : {f : Fabric} (step : Step) → IsReady f → IsQuiet step → MayStep f step
quiet_step (Local e event) ready quiet = absurd quiet
quiet_step (Restart e n) ready quiet = absurd quiet
quiet_step {f} (Announce e) ready quiet = elim (nth_cases f.edges e) [
  | inl none ↦ (f, Err NoSuchEdge, ((λ q. cc), (λ q. cc)), rw none (refl, refl))
  | inr x ↦
      let b : Edge = record x.1 { routes = after_announcement x.1.routes } in
      let reply : Reply = record nothing { announced = announced x.1.routes.speaker } in (
        record (with_edge f (suc x.0) b) { pool = with_announced f.pool reply.announced },
        Ok reply,
        tt,
        rw (x.2, x.3) (b, (refl, refl), refl),
      )
]
quiet_step {f} (Deliver e k) ready quiet = elim (nth_cases f.edges e) [
  | inl none ↦ (f, Err NoSuchEdge, ((λ q. cc), (λ q. cc)), rw none (refl, refl))
  | inr x ↦ elim (nth_cases f.pool k) [
    | inl none ↦ (f, Err NoSuchUpdate, ((λ q. cc), (λ q. cc)), rw (x.2, x.3, none) (refl, refl))
    | inr y ↦
        let t = taking_step x.1 (ready_accepted ready x.0 x.3 (contains_at f.pool y.0 y.3)) in (
          with_edge f (suc x.0) t.1,
          Ok t.0,
          tt,
          rw (x.2, x.3, y.2, y.3) (record {
            after = t.1;
            answer = Ok t.0;
            steps = t.2;
            result_is = refl;
            new_is = refl;
          }),
        )
  ]
]

pub may_rest : (steps : List Step) {f : Fabric} → IsReady f → All IsQuiet steps → (new : Fabric) × Rests f steps new
may_rest [] {f} ready quiet = (f, refl)
may_rest (step ∷ steps) ready quiet =
    let is_quiet = All-head IsQuiet step steps quiet in
    let s = quiet_step step ready is_quiet in
    let rest = may_rest steps (move_ready (moved s.0 step s.1 ready.sound is_quiet s.3) ready)
    (All-tail IsQuiet step steps quiet) in
    (rest.0, (s.0, s.1, is_quiet, s.2, s.3, rest.1))

quiet_announcing : (n e : ℕ) → All IsQuiet (announcing e n)
quiet_announcing zero e = All-nil IsQuiet
quiet_announcing (suc n) e = All-cons IsQuiet (Announce e) (announcing e n) tt (quiet_announcing n e)

quiet_taking : (n e : ℕ) → All IsQuiet (taking e n)
quiet_taking zero e = All-nil IsQuiet
quiet_taking (suc n) e = All-cons IsQuiet (Deliver e (suc n)) (taking e n) tt (quiet_taking n e)

quiet_each : (f : ℕ → List Step) → ((e : ℕ) → All IsQuiet (f e)) → (m : ℕ) → All IsQuiet (each f m)
quiet_each f h zero = All-nil IsQuiet
quiet_each f h (suc m) = All-append IsQuiet (f (suc m)) (each f m) (h (suc m)) (quiet_each f h m)

quiet_round : (m n : ℕ) → All IsQuiet (round m n)
quiet_round m n = All-append IsQuiet (announcings m n) (deliveries m n)
    (quiet_each (λ e. announcing e n) (quiet_announcing n) m) (quiet_each (λ e. taking e n) (quiet_taking n) m)

pub quiet_rounds : (f : Fabric) → All IsQuiet (two_rounds f)
quiet_rounds f =
    let one = quiet_round (length f.edges) (full_pool f) in
    All-append IsQuiet (round (length f.edges) (full_pool f)) (round (length f.edges) (full_pool f)) one one

-- ---- fabrics in which plenty of numbers are left
-- if nothing was announced, nothing comes back
pub start_numbers : {configs : List EdgeConfig} {f : Fabric} → IsStart configs f → HasNumbers f
start_numbers {f} h i a at some =
    let none : returning f.pool a.routes.speaker ≡ 0 = rw h.quiet in
    absurd (omega arith)

pub few_numbers : {f : Fabric} → IsSound f → ((i : ℕ) (a : Edge) → IsEdge f i a
    → a.routes.speaker.counter + capacity a.routes + length f.pool ≤ 2 ^ 63) → HasNumbers f
few_numbers {f} h few i a at some =
    omega (
      arith,
      (h.good i a at).routes.routes.fits,
      few i a at,
      count_by-le-length
          (may_return f.pool a.routes.speaker) f.pool,
    )

-- two rounds from an opened fabric
pub agreement : (configs : List EdgeConfig) (f : Fabric) → AreConfigs configs → IsStart configs f
    → (new : Fabric) × Rests f (two_rounds f) new × AllAgree new × IsSound new
agreement configs f are start =
    let sound = start_sound configs f are start in
    let ready : IsReady f = assumption (start_numbers start) in
    let run = may_rest (two_rounds f) ready (quiet_rounds f) in (
      run.0,
      run.1,
      two_rounds_agree run.0 ready (enough_itself f) run.1,
      rests_sound (two_rounds f) run.0 run.1 sound,
    )

-- ---- each announcement or delivery that changes a fabric uses up some of a bounded amount of work

abbrev one : Bool → ℕ
one b = cond b 1 0

one_most : (b : Bool) → one b ≤ 1
one_most true = omega arith
one_most false = omega arith

missing_push : (pool : List Fields) (e : Speaker) (u : Fields) → missing (pool ++ u ∷ []) e ≤ missing pool e + 1
missing_push pool e u =
    let sum : missing (pool ++ u ∷ []) e ≡ missing pool e + one (is_newest e u) =
    sum_by_push (λ w. one (is_newest e w)) pool u in
    omega (arith, one_most (is_newest e u))

missing_none : (pool : List Fields) (e : Speaker) (u : Fields) → is_newest e u ≡ false
    → missing (pool ++ u ∷ []) e ≡ missing pool e
missing_none pool e u none =
    let sum : missing (pool ++ u ∷ []) e ≡ missing pool e + one (is_newest e u) =
    sum_by_push (λ w. one (is_newest e w)) pool u in
    let here : one (is_newest e u) ≡ 0 = ap one none in
    omega arith

-- a delivery of an update that is no news leaves the fabric unchanged
same_take : {old : Fabric} → IsSound old → (t : Taking old) → is_newest t.edge.routes.speaker t.update ≡ false
    → taken t ≡ old
same_take {old} sound t none = rw (
  known_hearing t.edge.routes t.update (sound.good t.place t.edge t.at).keeps.owns none,
  same_edges old t.place t.at,
)

-- the work of one edge of a fabric with this pool, to which so many updates may still come
abbrev load : List Fields → ℕ → Edge → ℕ
load pool n e = missing pool e.routes.speaker + n

move_works : {old new : Fabric} → Move old new → IsSound old → (new ≡ old) ⊎ (work new < work old)
move_works Stays sound = inl refl
move_works {old} (Tells t) sound =
    let fewer = told_fewer sound t in
    let after = after_telling t.edge t.rest in
    inr (omega (
      arith,
      sum_set (load old.pool (to_come old)) (load (told t).pool (to_come (told t))) 0 old.edges
          t.place t.edge after t.at
          (omega (arith, missing_none old.pool after.routes.speaker t.update (told_known t)))
          (λ j x ne at. omega (arith, missing_push old.pool x.routes.speaker t.update)),
    ))
move_works {old} (Takes t) sound = elim (cases_Bool (is_newest t.edge.routes.speaker t.update)) [
  | inl news ↦
      let numbers = (sound.good t.place t.edge t.at).routes.numbers in
      let fewer = taken_fewer sound t in
      let after = after_hearing t.edge t.update in
      inr (omega (
        arith,
        sum_set (load old.pool (to_come old)) (load old.pool (to_come (taken t))) 1 old.edges
            t.place t.edge after t.at
            (omega (
              arith,
              count_less (is_newest t.edge.routes.speaker) (is_newest after.routes.speaker) old.pool
                  (news_before (heard_later t.edge.routes numbers t.ok)) t.inside news
                  (heard_has t.edge.routes t.update numbers),
            )) (λ j x ne at. omega arith),
      ))
  | inr none ↦ inl (same_take sound t none)
]

pub works_bound : (steps : List Step) {old : Fabric} (new : Fabric) → IsSound old → Works old steps new
    → length steps + work new ≤ work old
works_bound [] new sound h = omega (arith, ap work h)
works_bound (step ∷ steps) new sound h =
    let move = moved h.0 step h.1 sound h.2 h.4 in
    elim (move_works move sound) [
      | inl same ↦ absurd (h.5 same)
      | inr less ↦ omega (arith, works_bound steps new (move_sound move sound) h.6)
    ]

-- ---- if all agree, no quiet step changes anything
agreed_stays : {old new : Fabric} → Move old new → IsSound old → AllAgree old → new ≡ old
agreed_stays Stays sound agree = refl
agreed_stays (Tells t) sound agree = cc (t.pending, agree.quiet t.place t.edge t.at)
agreed_stays (Takes t) sound agree = let v = agree.arrived t.place t.edge t.at t.update t.inside in
    same_take sound t (rw v.1 v.2)

pub agreed_rests : (steps : List Step) {old : Fabric} (new : Fabric) → IsSound old → AllAgree old
    → Rests old steps new → new ≡ old
agreed_rests [] new sound agree h = h
agreed_rests (step ∷ steps) new sound agree h =
    let same = agreed_stays (moved h.0 step h.1 sound h.2 h.4) sound agree in
    agreed_rests steps new (rw same sound) (rw same agree) h.5 ∙ same

-- ---- if not all agree, some step changes something
find : {X : Type 0} (P Q : X → Type 0) (xs : List X) → ((x : X) → P x ⊎ Q x)
    → ((i : ℕ) (x : X) → slice_get xs i ≡ Some x → P x) ⊎ ((i : ℕ) × (x : X) × (slice_get xs i ≡ Some x) × Q x)
find P Q [] test = inl (λ i x at. cc)
find P Q (x ∷ xs) test = elim (test x) [
  | inl here ↦ elim (find P Q xs test) [
    | inl rest ↦ inl (all here rest)
    | inr found ↦ inr (suc found.0, found.1, found.2, found.3)
  ]
  | inr found ↦ inr (0, x, refl, found)
]
  where
    all : P x → ((i : ℕ) (y : _) → slice_get xs i ≡ Some y → P y) → (i : ℕ) (y : _) → slice_get (x ∷ xs) i ≡ Some y
        → P y
    all here rest zero y at = let same : x ≡ y = cc in rw same at here
    all here rest (suc i) y at = rest i y at

-- an edge has something pending, or lacks an update of the pool, or neither
abbrev IsBusy : List Fields → Edge → Type 0
IsBusy pool a = ((r : Register) × (rs : List Register) × (a.routes.speaker.pending ≡ r ∷ rs))
    ⊎ ((n : ℕ) × (u : Fields) × (slice_get pool n ≡ Some u) × (is_newest a.routes.speaker u ≡ true))

abbrev IsIdle : List Fields → Edge → Type 0
IsIdle pool a = (a.routes.speaker.pending ≡ []) × ((n : ℕ) (u : Fields) → slice_get pool n ≡ Some u
    → is_newest a.routes.speaker u ≡ false)

idle_or_busy : (pool : List Fields) (a : Edge) → IsIdle pool a ⊎ IsBusy pool a
idle_or_busy pool a = go a.routes.speaker.pending refl
  where
    either : (u : Fields) → (is_newest a.routes.speaker u ≡ false) ⊎ (is_newest a.routes.speaker u ≡ true)
    either u = elim (cases_Bool (is_newest a.routes.speaker u)) [ inl e ↦ inr e | inr e ↦ inl e ]

    go : (rs : List Register) → a.routes.speaker.pending ≡ rs → IsIdle pool a ⊎ IsBusy pool a
    go [] e = elim (find (λ u. is_newest a.routes.speaker u ≡ false) (λ u. is_newest a.routes.speaker u ≡ true) pool
        either) [
          | inl none ↦ inl (e, none)
          | inr found ↦ inr (inr found)
        ]
    go (r ∷ rs) e = inr (inl (r, rs, e))

pub goes_on : {f : Fabric} → IsReady f → AllAgree f ⊎ ((step : Step) × (new : Fabric) × Works f (step ∷ []) new)
goes_on {f} ready = elim (find (IsIdle f.pool) (IsBusy f.pool) f.edges (idle_or_busy f.pool)) [
  | inl idle ↦ inl (record {
    quiet = λ i a at. (idle i a at).0;
    arrived = λ i a at u in'. let place = place_of f.pool u in' in
        arrived_value (value_at (table_of a) u.register) u.value ((idle i a at).1 place.0 u place.1);
  })
  | inr found ↦ inr (elim found.3 [
    | inl pending ↦ says found.0 found.1 found.2 pending.0 pending.1 pending.2
    | inr missing ↦ takes found.0 found.1 found.2 missing.0 missing.1 missing.2 missing.3
  ])
]
  where
    says : (i : ℕ) (a : Edge) → IsEdge f i a → (r : Register) (rs : List Register) → a.routes.speaker.pending ≡ r ∷ rs
        → (step : Step) × (new : Fabric) × Works f (step ∷ []) new
    says i a at r rs pend =
        let s = quiet_step (Announce (suc i)) ready tt in (
          Announce (suc i),
          s.0,
          (
            s.0,
            s.1,
            tt,
            s.2,
            s.3,
            (λ same.
                let long : length a.routes.speaker.pending ≡ suc (length rs) = ap length pend in
                omega (
                  arith,
                  announce_one s.0 i (length rs) s.1 ready.sound s.2 s.3 few a
                      (subst (λ g. IsEdge g i a) (sym same) at),
                )),
            refl,
          ),
        )
      where
        few : (b : Edge) → IsEdge f i b → length b.routes.speaker.pending ≤ suc (length rs)
        few b at_b =
            let same : a ≡ b = cc in
            let long : length b.routes.speaker.pending ≡ suc (length rs) =
            rw (← same, pend) in
            omega arith

    takes : (i : ℕ) (a : Edge) → IsEdge f i a → (n : ℕ) (u : Fields) → slice_get f.pool n ≡ Some u
        → is_newest a.routes.speaker u ≡ true → (step : Step) × (new : Fabric) × Works f (step ∷ []) new
    takes i a at n u there news =
        let s = quiet_step (Deliver (suc i) (suc n)) ready tt in (
          Deliver (suc i) (suc n),
          s.0,
          (
            s.0,
            s.1,
            tt,
            s.2,
            s.3,
            (λ same.
                cc (given s.0 i n s.1 ready s.2 s.3 there a (subst (λ g. IsEdge g i a) (sym same) at))),
            refl,
          ),
        )
