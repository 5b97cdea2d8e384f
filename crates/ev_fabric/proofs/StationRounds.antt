-- Rounds of a station end in agreement on it.
use Rattle.std.proofs.Common.{◌≡◌, ◌⊎◌, inl, inr, ℕ, zero, suc, ◌+◌, ◌≤◌, Bool, true, false, None, Some, List, [], ◌∷◌}
use Rattle.std.proofs.Common.{◌++◌, length, refl, ap, ◌∙◌, arith, ◌≢◌, ◌<◌, Result}
use Rattle.std.proofs.lemmas.Bool.{cases_lt}
use Rattle.std.proofs.lemmas.List.{length-append}
use Rattle.std.proofs.lemmas.List.Elements.{filter-append, Contains-append_cases, Contains-append_right}
use Rattle.std.specs.Prelude.{Contains, slice_get}
use Rattle.route_wire.specs.declared.update.Register.{Register}
use Rattle.route_wire.specs.Fields.{Fields}
use Rattle.mac_arena.specs.declared.station.Station.{Station}
use Rattle.ev_edge.specs.Edge.{Edge, table_of}
use Rattle.ev_fabric.specs.declared.step.Step.{Step}
use Rattle.ev_fabric.specs.Fabric.{Fabric, IsEdge}
use Rattle.ev_fabric.specs.Sound.{update_of, IsSound}
use Rattle.ev_fabric.specs.Runs.{Runs}
use Rattle.ev_fabric.specs.Later.{IsLaterFabric}
use Rattle.ev_fabric.specs.Station.{is_of, AgreesOn, updates_on, unannounced_on, to_come_on, RunsAlone, StationComes}
use Rattle.ev_fabric.specs.Station.{RunsBeside, all_take, StationArrives}
use Rattle.ev_fabric.specs.Rounds.{WasAnnounced, AllAnnounced, AllTaken, Rounds, StationAgrees, StationAgreesStill}
use Rattle.ev_fabric.specs.Rounds.{AgreesInFour, IsOrderly, AgreesInTwo}
use Rattle.ev_fabric.proofs.ConvergingRounds.{no_length, IsReady, rests_ready, rests_before, each_brings, Has}
use Rattle.ev_fabric.proofs.ConvergingRounds.{rests_has, rests_pool, given, announcing_else, Few, announcing_none}
use Rattle.ev_fabric.proofs.ConvergingRounds.{arrived_value}
use Rattle.ev_fabric.proofs.Stations.{about_station}
use Rattle.ev_fabric.proofs.Fabrics.{runs_sound}
use Rattle.ev_fabric.proofs.Goings.{runs_lead}
use Rattle.ev_fabric.proofs.ConvergingSums.{sum_has, place_of}
use Rattle.ev_fabric.proofs.StationStages.{on, filter_none, filter_has, filter_from, waiting}
use Rattle.ev_fabric.proofs.StationMotion.{Plan, Now, now, StageOf, Old, New, Other, Phase, AtFirst, AtTold, AtLost}
use Rattle.ev_fabric.proofs.StationMotion.{AtOver, AtAged, AtLeft, AtBack, Stage, u, r, from_of, to_of, runs_stage}
use Rattle.ev_fabric.proofs.StationMotion.{plan, mid_sound, first_stage, never_both, one_edge, begins, rests_beside}
use Rattle.ev_fabric.proofs.StationMotion.{known_still}
use Rattle.ev_fabric.proofs.StationAlone.{station_settles, CalmOn, IsOld, taken_agrees, same_old, calm_waits}
use Rattle.ev_fabric.proofs.StationAlone.{agreed_calm, calm_runs, alone_runs, agreed_known}
use Rattle.std.proofs.lemmas.Option.{slice_get_within}
use Rattle.std.specs.List.{filter}
use Rattle.route_join.specs.Table.{value_at}
use Rattle.ev_claims.specs.Speaker.{own_register}
use Rattle.ev_claims.specs.LocalRoutes.{LocalRoutes, key_of}
use Rattle.ev_edge.specs.declared.reply.Reply.{Reply}
use Rattle.ev_fabric.specs.declared.refusal.FabricRefusal.{FabricRefusal}
use Rattle.ev_fabric.specs.declared.step.Step.TheVariants.{Deliver}
use Rattle.ev_fabric.specs.Steps.{FabricSteps}
use Rattle.ev_fabric.specs.Convergence.{Rests, HasNumbers, announcing}
use Rattle.ev_fabric.proofs.Places.{minus, set_cases}
use Rattle.ev_fabric.proofs.Cases.{at_delivery}
use Rattle.ev_fabric.proofs.ConvergingEdge.{heard, heard_by, marked_length}
use Rattle.ev_fabric.proofs.ConvergingMoves.{Move, Stays, Tells, Takes, moved}

-- ---- runs
pub beside_runs : (i j : ℕ) (s : Station) (steps : List Step) (old new : Fabric) → RunsBeside i j s old steps new
    → Runs old steps new
beside_runs i j s [] old new h = h
beside_runs i j s (step ∷ steps) old new h = (h.0, h.1, h.2, beside_runs i j s steps h.0 new h.4)

-- ---- the pool's updates of a station
one_at_least : {X : Type 0} (xs : List X) (x : X) → Contains xs x → 1 ≤ length xs
one_at_least [] x (k, lt, is) = absurd (omega arith)
one_at_least (y ∷ ys) x in' = omega arith

abbrev pub count : Station → Fabric → ℕ
count s f = length (updates_on s f.pool)

counted : (s : Station) (old new : Fabric) (more : List Fields) → new.pool ≡ old.pool ++ more
    → count s new ≡ count s old + length (updates_on s more)
counted s old new more pool = rw pool (ap length (filter-append (on s) old.pool more) ∙
    length-append (updates_on s old.pool) (updates_on s more))

grows : (s : Station) {old new : Fabric} → IsLaterFabric old new → count s old ≤ count s new
grows s {old} {new} h = omega (arith, counted s old new h.more h.pool)

announced_grows : (s : Station) {old new : Fabric} {r : Register} → is_of s r ≡ true → WasAnnounced old new r
    → count s old + 1 ≤ count s new
announced_grows s {old} {new} {r} of h =
    omega (
      arith,
      counted s old new h.more h.pool,
      one_at_least (updates_on s h.more) (update_of r h.value)
          (filter_has (on s) h.more (update_of r h.value) of h.there),
    )

no_more : (s : Station) {old new : Fabric} → IsLaterFabric old new → count s new ≤ count s old → IsOld s old new
no_more s {old} {new} h few w of in' =
    elim (Contains-append_cases old.pool h.more w (rw h.pool at in')) [
      | inl there ↦ there
      | inr later ↦
          absurd (omega (
            arith,
            counted s old new h.more h.pool,
            one_at_least (updates_on s h.more) w
                (filter_has (on s) h.more w of later),
            few,
          ))
    ]

-- ---- from anywhere

-- a run that leaves a station undisturbed
module _ (s : Station) (steps : List Step) {old : Fabric} (new : Fabric) (sound : IsSound old)
    (runs : RunsAlone s old steps new) where
  alone_later : IsLaterFabric old new
  alone_later = runs_lead steps old new sound (alone_runs s steps old new runs)

  alone_sound : IsSound new
  alone_sound = runs_sound steps old new (alone_runs s steps old new runs) sound

  -- less may still come, and each update makes it less
  alone_less : count s new + to_come_on s new ≤ count s old + to_come_on s old
  alone_less = station_settles s steps old new sound runs

calm_rounds : (s : Station) (n : ℕ) {old : Fabric} (new : Fabric) → IsSound old → CalmOn s old
    → Rounds (RunsAlone s) s (suc n) old new → AgreesOn new s
calm_rounds s zero {old} new sound calm h =
    let after = calm_runs s h.1 h.0 sound h.2 calm in
    rw h.4 (taken_agrees s old h.0 h.3.taken (same_old s old h.0 after.1) (λ y c at. calm_waits (after.0 y c at)))
calm_rounds s (suc n) new sound calm h =
    let after = calm_runs s h.1 h.0 sound h.2 calm in
    calm_rounds s n new (alone_sound s h.1 h.0 sound h.2) after.0 h.4

pub station_agrees_still : StationAgreesStill
station_agrees_still s zero old new sound agree h = rw h agree
station_agrees_still s (suc n) old new sound agree h = calm_rounds s n new sound
    (agreed_calm (is_of s) agree) h

-- if an edge has something pending, something may come
waits_come : (s : Station) (f : Fabric) (y : ℕ) {c : Edge} → IsEdge f y c
    → length (waiting s c.routes.speaker) ≤ to_come_on s f
waits_come s f y at = omega (arith, sum_has (λ (a : Edge). unannounced_on s f.pool a.routes.speaker) f.edges y at)

pub station_agrees : StationAgrees
station_agrees s zero old new sound h enough = absurd (omega arith)
station_agrees s (suc zero) old new sound h enough = rw h.4 (taken_agrees s old h.0 h.3.taken (no_more s later few)
    (λ y c at. no_length (waiting s c.routes.speaker)
    (omega (arith, alone_less s h.1 h.0 sound h.2, grows s later, waits_come s h.0 y at))))
  where
    later : IsLaterFabric old h.0
    later = alone_later s h.1 h.0 sound h.2

    few : count s h.0 ≤ count s old
    few = omega (arith, alone_less s h.1 h.0 sound h.2)
station_agrees s (suc (suc n)) old new sound h enough =
    let mid = alone_sound s h.1 h.0 sound h.2 in
    let later = alone_later s h.1 h.0 sound h.2 in
    let first = alone_less s h.1 h.0 sound h.2 in
    let second = alone_less s h.4.1 h.4.0 mid h.4.2 in
    let before = grows s later in
    let after = grows s (alone_later s h.4.1 h.4.0 mid h.4.2) in
    elim (cases_lt (to_come_on s h.4.0) (to_come_on s old)) [
      | inl drop ↦ station_agrees s n h.4.0 new (alone_sound s h.4.1 h.4.0 mid h.4.2) h.4.4 (omega arith)
      | inr keeps ↦ calm_rounds s n new mid (agreed_calm (is_of s)
          (taken_agrees s old h.0 h.3.taken (no_more s later (omega arith)) (λ y c at.
          filter_none (is_of s) c.routes.speaker.pending (λ r in' of.
          omega (arith, announced_grows s of (h.4.3.announced y c r at of in')))))) h.4
    ]

-- ---- after a move

-- at a stage at which nothing is pending
stage_waits : (p : Plan) {extra : List Fields} {says : Bool} {pool : List Fields} {edges : List Edge}
    → StageOf p (now extra [] [] says) pool edges → (y : ℕ) (c : Edge) → slice_get edges y ≡ Some c
    → waiting p.s c.routes.speaker ≡ []
stage_waits p g y c at = elim (g.roles y c at) [
  | Old is t ↦ t.waits
  | New is t ↦ t.waits
  | Other ne ne' t ↦ t.waits
]

stage_long : (p : Plan) {n : Now} {pool : List Fields} {edges : List Edge} → StageOf p n pool edges
    → length (updates_on p.s pool) ≡ length p.base + length n.extra
stage_long p {n} g = ap length g.grown ∙ length-append p.base n.extra

module _ {old : Fabric} {i j : ℕ} {s : Station} {mid : Fabric} (sound : IsSound old)
    (m : StationComes old i j s mid) where
  abbrev pub p : Plan
  p = plan sound m false

  abbrev At : Fabric → Now → Type 0
  At f n = StageOf p n f.pool f.edges

  -- a fabric on the way
  pub record Point (f : Fabric) : Type 0 where
    pub stage : Stage p f.pool f.edges
    pub sound_still : IsSound f

  point_mid : Point mid
  point_mid = assumption (first_stage sound m false, mid_sound sound m)

  module _ (steps : List Step) {f : Fabric} (g : Fabric) (runs : RunsBeside i j s f steps g) (point : Point f) where
    point_runs : Point g
    point_runs = let after = runs_stage p steps g point.sound_still runs point.stage in
        assumption

    point_later : IsLaterFabric f g
    point_later = runs_lead steps f g point.sound_still (beside_runs i j s steps f g runs)

  -- once all pending updates are announced, the pool has the advert
  advert_out : {f g : Fabric} → IsLaterFabric f g → {n : Now} → Phase p n → At f n → AllAnnounced s f g
      → length p.base + 1 ≤ count s g
  advert_out later AtFirst k all = omega (
    arith,
    stage_long p k,
    announced_grows s (about_station s None)
        (all j k.to.0 (u p).register k.to.1 (about_station s None)
        (filter_from (is_of s) k.to.0.routes.speaker.pending (u p).register
        (rw (to_of p k).waits (0, omega arith, refl))).0),
  )
  advert_out later (AtAged yes') k all = cc
  advert_out later other k all = omega (arith, stage_long p k, grows s later)

  -- the old place has lost the station, or has withdrawn it
  abbrev Lost : Fabric → Type 0
  Lost f = At f (now (u p ∷ []) (r p ∷ []) [] false) ⊎ (length p.base + 2 ≤ count s f)

  -- an old place that still advertises it hasn't taken the advert
  never_told : {g : Fabric} → Point g → AllTaken s g g → At g (now (u p ∷ []) [] [] true) → ⊥
  never_told {g} point taken k = never_both p point.sound_still
      (taken_agrees s g g taken (λ w of in'. in') (stage_waits p k)) k refl

  -- once all updates of the pool are taken, it has lost it
  station_lost : {f g : Fabric} → IsLaterFabric f g → length p.base + 1 ≤ count s f → Point g → AllTaken s f g → Lost g
  station_lost {g = g} later out point taken = go point.stage.phase point.stage.of
    where
      go : {n : Now} → Phase p n → At g n → Lost g
      go AtTold k = absurd (never_told point (λ y c w at of in'. taken y c w at of
          (no_more s later (omega (arith, stage_long p k)) w of in')) k)
      go AtLost k = inl k
      go (AtAged yes') k = cc
      go (AtLeft yes' v named none) k = cc
      go other k = inr (omega (arith, stage_long p k, grows s later))

  -- once all pending updates are announced, the pool has the withdrawal
  withdrawal_out : {f g : Fabric} → IsLaterFabric f g → Lost f → AllAnnounced s f g → length p.base + 2 ≤ count s g
  withdrawal_out later (inr out) all = omega (arith, grows s later)
  withdrawal_out later (inl k) all = omega (
    arith,
    stage_long p k,
    announced_grows s (about_station s None)
        (all i k.from.0 (r p) k.from.1 (about_station s None)
        (filter_from (is_of s) k.from.0.routes.speaker.pending (r p)
        (rw (from_of p k).waits (0, omega arith, refl))).0),
  )

  -- and once that is taken the edges agree
  over_agrees : {f g : Fabric} → IsLaterFabric f g → length p.base + 2 ≤ count s f → Point g → AllTaken s f g
      → AgreesOn g s
  over_agrees {f} {g} later out point taken = go point.stage.phase point.stage.of
    where
      over : {extra : List Fields} → At g (now extra [] [] false) → length extra ≡ 2 → AgreesOn g s
      over k two = taken_agrees s f g taken (no_more s later (omega (arith, stage_long p k)))
          (stage_waits p k)

      go : {n : Now} → Phase p n → At g n → AgreesOn g s
      go (AtOver w named none) k = over k refl
      go (AtBack yes' w named none) k = over k refl
      go other k = absurd (omega (arith, stage_long p k, grows s later))

  two_orderly : {next new : Fabric} → IsOrderly i j s mid next → IsOrderly i j s next new → AgreesOn new s
  two_orderly {next} {new} x y = over_agrees (point_later y.after new y.goes_on left)
      (withdrawal_out (point_later y.before y.told y.goes heard)
      (station_lost (point_later x.after next x.goes_on told)
      (advert_out (point_later x.before x.told x.goes point_mid) point_mid.stage.phase
      point_mid.stage.of x.announced) heard x.taken)
      y.announced)
      (point_runs y.after new y.goes_on left) y.taken
    where
      told : Point x.told
      told = point_runs x.before x.told x.goes point_mid

      heard : Point next
      heard = point_runs x.after next x.goes_on told

      left : Point y.told
      left = point_runs y.before y.told y.goes heard

pub agrees_in_two : AgreesInTwo
agrees_in_two i j s old mid next new sound m x y = two_orderly sound m x y

-- the announcements of one round and the deliveries of the next are an orderly round
pub agrees_in_four : AgreesInFour
agrees_in_four i j s old mid new sound m h = rw h.4.4.4.4 (agrees_in_two i j s old mid
    h.4.0 h.4.4.4.0 sound m (record {
      told = h.0;
      before = h.1;
      goes = h.2;
      announced = h.3.announced;
      after = h.4.1;
      goes_on = h.4.2;
      taken = h.4.3.taken;
    }) (record {
      told = h.4.4.0;
      before = h.4.4.1;
      goes = h.4.4.2;
      announced = h.4.4.3.announced;
      after = h.4.4.4.1;
      goes_on = h.4.4.4.2;
      taken = h.4.4.4.3.taken;
    }))

-- ---- the distance from a move to agreement: pending registers of two edges, and two deliveries to each edge

-- a step makes one register more pending at an edge, at most
heard_pending : (c : LocalRoutes) (w : Fields)
    → length (heard c w).speaker.pending ≤ length c.speaker.pending + 1
heard_pending c w = heard_by (λ d. length d.speaker.pending ≤ length c.speaker.pending + 1) c w
    (λ back. marked_length c.speaker.pending (own_register c.speaker w.register.key))
    (λ s other lost. marked_length c.speaker.pending (own_register c.speaker (key_of s))) (λ never. omega arith)

move_few : {old new : Fabric} → Move old new → (i n : ℕ) → Few old i n → Few new i (suc n)
move_few Stays i n few c at = omega (arith, few c at)
move_few {old} (Tells t) i n few c at = elim (set_cases old.edges t.place _ i c at) [
  | inl p ↦ rw p.1 (omega (arith, few t.edge (rw p.0 t.at), ap length t.pending))
  | inr p ↦ omega (arith, few c p.1)
]
move_few {old} (Takes t) i n few c at = elim (set_cases old.edges t.place _ i c at) [
  | inl p ↦ rw p.1 (omega (arith, few t.edge (rw p.0 t.at), heard_pending t.edge.routes t.update))
  | inr p ↦ omega (arith, few c p.1)
]

-- a delivery to another edge leaves this one
deliver_else : (old new : Fabric) (e k : ℕ) (result : Result Reply FabricRefusal)
    → FabricSteps old (Deliver e k) result new → (i : ℕ) → e ≢ suc i → {c : Edge} → IsEdge new i c → IsEdge old i c
deliver_else old new e k result h i ne {c} at_c =
    at_delivery (IsEdge old i c) old new result e k h (λ why is. rw is.1 at at_c)
    (λ y a n u edge update at there s. elim (set_cases old.edges y s.after i c (rw (s.new_is, minus y) at at_c)) [
      | inl p ↦ absurd (ne (omega (arith, p.0)))
      | inr p ↦ p.1
    ])

-- one delivery to each edge
abbrev one_to : ℕ → ℕ → List Step
one_to k e = Deliver e k ∷ []

all_few : (m k i n : ℕ) → i < m → {old : Fabric} (new : Fabric) → IsReady old → Rests old (all_take m k) new
    → Few old i n → Few new i (suc n)
all_few m k i n lt new ready h few = each_brings (one_to k) i (λ f. Few f i n) (λ f. Few f i (suc n))
    (λ e old new ne ready h. (
      (λ few c at. few c (deliver_else old h.0 e k h.1 h.4 i ne (rw h.5 at at))),
      (λ few c at. few c (deliver_else old h.0 e k h.1 h.4 i ne (rw h.5 at at))),
    )) (λ old new ready h few. rw h.5 (move_few (moved h.0 (Deliver (suc i) k) h.1 ready.sound h.2 h.4) i n few)) m lt
    new
    ready h few

all_have : (m k i : ℕ) {w : Fields} → i < m → {old : Fabric} (new : Fabric) → IsReady old
    → Rests old (all_take m (suc k)) new → slice_get old.pool k ≡ Some w → Has new i w
all_have m k i {w} lt new ready h at = each_brings (one_to (suc k)) i (λ f. slice_get f.pool k ≡ Some w)
    (λ f. Has f i w)
    (λ e _ new _ ready h. (
      rests_pool (one_to (suc k) e) new ready.sound h k,
      rests_has (one_to (suc k) e) new ready.sound h i w,
    )) (λ old new ready h at. rw h.5 (given h.0 i k h.1 ready h.3 h.4 at)) m lt new ready h at

module _ {old : Fabric} {i j : ℕ} {s : Station} {mid : Fabric} (sound : IsSound old) (numbers : HasNumbers mid)
    (m : StationComes old i j s mid) where
  abbrev known : List Fields
  known = updates_on s old.pool

  abbrev new_one : Fields
  new_one = u (p sound m)

  abbrev Here : Fabric → Now → Type 0
  Here f n = StageOf (p sound m) n f.pool f.edges

  -- the announcements of the two places, and the deliveries of an update to each edge
  abbrev by_to : List Step
  by_to = announcing (suc j) (length m.to.routes.speaker.pending + 1)

  abbrev by_from : List Step
  by_from = announcing (suc i) (length m.from.routes.speaker.pending + 1)

  abbrev to_all : ℕ → List Step
  to_all k = all_take (length mid.edges) (suc k)

  -- the known state of a fabric on the way
  record OnWay (f : Fabric) : Type 0 where
    point : Point sound m f
    ready : IsReady f
    has : (y : ℕ) (w : Fields) → Contains known w → Has f y w
    places : (y : ℕ) (c : Edge) → IsEdge f y c → y < length mid.edges

  way_rests : (steps : List Step) {f : Fabric} (g : Fabric) → Rests f steps g → OnWay f → OnWay g
  way_rests steps {f} g h way = record {
    point = point_runs sound m steps g (rests_beside i j s steps f g h) way.point;
    ready = rests_ready steps g h way.ready;
    has = λ y w in'. rests_has steps g way.ready.sound h y w (way.has y w in');
    places = λ y c at. let x = rests_before steps g way.ready.sound h y at in way.places y x.was x.at;
  }

  way_mid : OnWay mid
  way_mid = record {
    point = point_mid sound m;
    ready = assumption (mid_sound sound m);
    has = λ y w in'. let x = filter_from (on s) old.pool w in' in
        known_still sound m w (λ z. agreed_known old s m.agree z x.0 x.1) y;
    places = λ y c at. slice_get_within mid.edges y c at;
  }

  way_later : (steps : List Step) {f : Fabric} (g : Fabric) → Rests f steps g → OnWay f → IsLaterFabric f g
  way_later steps {f} g h way = point_later sound m steps g (rests_beside i j s steps f g h) way.point

  no_pending : (rs : List Register) → length rs ≤ 0 → (r : Register) → filter (is_of s) rs ≡ r ∷ [] → ⊥
  no_pending [] le r is = cc
  no_pending (x ∷ xs) le r is = omega arith

  -- an update of the station in the pool, and its place
  placed : {pool : List Fields} {edges : List Edge} {n : Now} {w : Fields} → StageOf (p sound m) n pool edges
      → Contains n.extra w → (k : ℕ) × (slice_get pool k ≡ Some w)
  placed {pool} {n = n} {w = w} g in' = place_of pool w (filter_from (on s) pool w
      (rw g.grown (Contains-append_right known n.extra w in'))).0

  -- if nothing is pending at the new place, the advert is announced
  is_told : {f : Fabric} → Few f j 0 → OnWay f
      → ((k : ℕ) × (slice_get f.pool k ≡ Some new_one)) × (length known + 1 ≤ count s f)
  is_told {f} few way = go way.point.stage.phase way.point.stage.of
    where
      there : {n : Now} → Here f n → Contains n.extra new_one
          → ((k : ℕ) × (slice_get f.pool k ≡ Some new_one)) × (length known + 1 ≤ count s f)
      there g in' = (placed g in', omega (arith, stage_long (p sound m) g, in'.1))

      go : {n : Now} → Phase (p sound m) n → Here f n
          → ((k : ℕ) × (slice_get f.pool k ≡ Some new_one)) × (length known + 1 ≤ count s f)
      go AtTold g = there g (0, omega arith, refl)
      go AtLost g = there g (0, omega arith, refl)
      go (AtOver w named none) g = there g (0, omega arith, refl)
      go (AtBack yes' w named none) g = there g (1, omega arith, refl)
      go other g = absurd (no_pending g.to.0.routes.speaker.pending (few g.to.0 g.to.1) _ (to_of (p sound m) g).waits)

  -- all updates of the station are taken, if the new ones are
  all_taken : (f : Fabric) {g : Fabric} {n : Now} → OnWay g → Here f n
      → ((y : ℕ) (w : Fields) → Contains n.extra w → Has g y w) → AllTaken s f g
  all_taken f {g} {n} way k has y c w at of in' = arrived_value (value_at (table_of c) w.register) w.value
      (elim (Contains-append_cases known n.extra w (rw k.grown at (filter_has (on s)
      f.pool w of in'))) [
        | inl earlier ↦ way.has y w earlier c at
        | inr new ↦ has y w new c at
      ])

  all_advert : {f g : Fabric} (k : ℕ) {w : Fields} → OnWay f → OnWay g → slice_get f.pool k ≡ Some w
      → Rests f (to_all k) g → (y : ℕ) → Has g y w
  all_advert {g = g} k way after at h y c at_c =
      all_have (length mid.edges) k y (after.places y c at_c) g way.ready h at c at_c

  -- ---- the way
  told_few : (told : Fabric) → Rests mid by_to told → Few told j 0
  told_few told h = announcing_none (length m.to.routes.speaker.pending + 1) j told (mid_sound sound m) h
      (λ c at. elim (set_cases old.edges j (begins sound m).after j c (rw (begins sound m).is at at)) [
        | inl p ↦ rw (p.1, (begins sound m).learns.speaker)
            (marked_length m.to.routes.speaker.pending (own_register m.to.routes.speaker (key_of s)))
        | inr p ↦ absurd (p.0 refl)
      ])

  from_few : Few mid i (length m.from.routes.speaker.pending)
  from_few c at = elim (set_cases old.edges j (begins sound m).after i c (rw (begins sound m).is at at)) [
    | inl p ↦ absurd ((begins sound m).apart p.0)
    | inr p ↦ rw (one_edge old.edges {i = i} refl m.at_from p.1) (omega arith)
  ]

  module _ (told : Fabric) (runs : Rests mid by_to told) where
    way_told : OnWay told
    way_told = way_rests by_to told runs way_mid

    is : ((k : ℕ) × (slice_get told.pool k ≡ Some new_one)) × (length known + 1 ≤ count s told)
    is = is_told (told_few told runs) way_told

    module _ (heard left : Fabric) (taken : Rests told (to_all is.0.0) heard) (said : Rests heard by_from left) where
      way_heard : OnWay heard
      way_heard = way_rests (to_all is.0.0) heard taken way_told

      way_left : OnWay left
      way_left = way_rests by_from left said way_heard

      has : (y : ℕ) → Has left y new_one
      has y = rests_has by_from left way_heard.ready.sound said y new_one
          (all_advert is.0.0 way_told way_heard is.0.1 taken y)

      few : Few left i 0
      few = announcing_none (length m.from.routes.speaker.pending + 1) i left way_heard.ready.sound said
          (λ c at. omega (
            arith,
            all_few (length mid.edges) (suc is.0.0) i (length m.from.routes.speaker.pending)
                (way_heard.places i c at) heard way_told.ready taken
                (λ c at. from_few c (announcing_else (length m.to.routes.speaker.pending + 1) (suc j) mid told runs i
                (λ same. (begins sound m).apart (omega arith)) at)) c at,
          ))

      finish : {n : Now} → Phase (p sound m) n → Here left n
          → (l : ℕ) × ((new : Fabric) → Rests left (to_all l) new → AgreesOn new s)
      finish AtFirst g = absurd (omega (
        arith,
        stage_long (p sound m) g,
        is.1,
        grows s (way_later (to_all is.0.0) heard taken way_told),
        grows s (way_later by_from left said way_heard),
      ))
      finish AtTold g = absurd (never_told sound m way_left.point (all_taken left way_left g one) g)
        where
          one : (y : ℕ) (w : Fields) → Contains (new_one ∷ []) w → Has left y w
          one y w (zero, lt, is) = rw (← is) (has y)
          one y w (suc n, lt, is) = absurd (omega arith)
      finish (AtLeft yes' v named none) g = cc
      finish (AtBack yes' v named none) g = cc
      finish (AtOver w named none) g = (there.0, last)
        where
          there : (l : ℕ) × (slice_get left.pool l ≡ Some w)
          there = placed g (1, omega arith, refl)

          last : (new : Fabric) → Rests left (to_all there.0) new → AgreesOn new s
          last new h = over_agrees sound m (way_later (to_all there.0) new h way_left)
              (omega (arith, stage_long (p sound m) g)) way.point (all_taken left way g two)
            where
              way : OnWay new
              way = way_rests (to_all there.0) new h way_left

              two : (y : ℕ) (z : Fields) → Contains (new_one ∷ w ∷ []) z → Has new y z
              two y z (zero, lt, is) = rw (← is)
                  (rests_has (to_all there.0) new way_left.ready.sound h y new_one (has y))
              two y z (suc zero, lt, is) = rw (← is) (all_advert there.0 way_left way there.1 h y)
              two y z (suc (suc n), lt, is) = absurd (omega arith)
      finish other g = absurd (no_pending g.from.0.routes.speaker.pending (few g.from.0 g.from.1) _
          (from_of (p sound m) g).waits)

pub station_arrives : StationArrives
station_arrives i j s old mid told sound numbers m runs = (
  (is sound numbers m told runs).0.0,
  λ heard left taken said. let way = way_left sound numbers m told runs heard left taken said in
      finish sound numbers m told runs heard left taken said way.point.stage.phase way.point.stage.of,
)
