-- Steps that leave a station undisturbed, and the invariant that steps keep if nothing of a set of registers is
-- pending or comes back.
use Rattle.std.proofs.Common.{◌≡◌, ◌⊎◌, inl, inr, ℕ, suc, Bool, true, false, Some, Result, List, [], ◌∷◌, ◌++◌, refl}
use Rattle.std.proofs.Common.{sym, ap, ◌∙◌, arith, ◌+◌, ◌≤◌, ◌&&◌, cond, length}
use Rattle.std.proofs.lemmas.List.Elements.{Contains-push_cases}
use Rattle.std.specs.Prelude.{Contains, slice_get, slice_set, is_some}
use Rattle.std.specs.FinMap.{get-empty}
use Rattle.std.specs.List.{filter, count_by}
use Rattle.std.proofs.lemmas.Bool.{cases_Bool, false_from_ne_true, cases_eq, and_parts, and_right}
use Rattle.route_wire.specs.declared.update.Register.{Register}
use Rattle.route_wire.specs.declared.update.Value.{Value}
use Rattle.route_wire.specs.Fields.{Fields}
use Rattle.route_wire.specs.Order.{register_cmp}
use Rattle.route_join.specs.Table.{value_at}
use Rattle.route_join.specs.Owner.{advert_of}
use Rattle.mac_arena.specs.declared.station.Station.{Station}
use Rattle.ev_claims.specs.Speaker.{Speaker, is_newest, silent, own_register, own_advert, after_importing}
use Rattle.ev_claims.specs.LocalRoutes.{LocalRoutes, key_of}
use Rattle.ev_edge.specs.declared.config.EdgeConfig.{EdgeConfig}
use Rattle.ev_edge.specs.declared.reply.Reply.{Reply}
use Rattle.ev_edge.specs.Edge.{Edge, table_of, address_of}
use Rattle.ev_fabric.specs.declared.refusal.FabricRefusal.{FabricRefusal}
use Rattle.ev_fabric.specs.declared.step.Step.{Step}
use Rattle.ev_fabric.specs.declared.step.Step.TheVariants.{Local, Announce, Deliver, Restart}
use Rattle.ev_fabric.specs.Fabric.{Fabric, IsEdge}
use Rattle.ev_fabric.specs.Steps.{in_incarnation, OpensAnew, FabricSteps}
use Rattle.ev_fabric.specs.Sound.{IsSound}
use Rattle.ev_fabric.specs.Runs.{Runs}
use Rattle.ev_fabric.specs.Convergence.{Rests}
use Rattle.ev_fabric.specs.Station.{is_of, AgreesAbout, AgreesOn, NeverAdvertised, updates_on, IsLeftAlone, RunsAlone}
use Rattle.ev_fabric.specs.Station.{SaysTheSame, StationLasts, StationReached, unannounced_on, to_come_on}
use Rattle.ev_fabric.specs.Station.{StationSettles}
use Rattle.ev_fabric.proofs.Agreements.{none_pending}
use Rattle.ev_fabric.specs.Rounds.{AllTaken}
use Rattle.ev_fabric.proofs.Places.{minus, each_set, set_same, push_length}
use Rattle.ev_fabric.proofs.Voices.{Talks, marked_cases}
use Rattle.ev_fabric.proofs.Events.{local_talks}
use Rattle.ev_fabric.proofs.Fabrics.{Did, Moved, Spoke, Opened, did, step_sound, along}
use Rattle.ev_fabric.proofs.ConvergingEdge.{heard, after_hearing, after_telling, comes, comes_when, heard_by}
use Rattle.ev_fabric.proofs.ConvergingEdge.{heard_later, heard_has, comes_before, others_stay_away, known_stays_away}
use Rattle.ev_fabric.proofs.ConvergingEdge.{hear_cases, idle_away}
use Rattle.ev_fabric.proofs.ConvergingIdle.{known_hearing}
use Rattle.ev_fabric.proofs.ConvergingMoves.{Move, Stays, Tells, Takes, told, told_away, told_elsewhere}
use Rattle.ev_fabric.proofs.ConvergingRounds.{Has, arrived_value, agreement}
use Rattle.ev_fabric.proofs.StationStages.{on, filter_none, filter_has, filter_from, filter_past, waits_of, waiting}
use Rattle.ev_fabric.proofs.StationStages.{SameOn, SameOf, same_newest, floods_same, left_same, AreWhole, whole_station}
use Rattle.ev_fabric.proofs.StationStages.{heard_other, HasNone, IsAside, aside_same, aside_push, aside_hears, Hears}
use Rattle.ev_fabric.proofs.StationStages.{hears_sound, quieter_same, filter_push, same_own, aside_quiet, loses_it}
use Rattle.ev_fabric.proofs.StationTaken.{runs_has}
use Rattle.route_wire.proofs.Feeding.{never as not_both}
use Rattle.route_wire.specs.declared.update.Content.TheVariants.{Withdrawn}
use Rattle.ev_claims.specs.Pending.{marked}
use Rattle.ev_claims.proofs.Numbers.{own_same}
use Rattle.ev_fabric.specs.ConvergenceEdge.{comes_back, IsLater}
use Rattle.ev_fabric.proofs.Stations.{agree_on_each}
use Rattle.ev_fabric.proofs.ConvergingSums.{sum_set, count_le, count_less, count_push, count_none}

-- ---- a step

-- an edge that is opened again, of which the pool has no advert of the station
opened_aside : (s : Station) {old new : Fabric} (x : ℕ) {a : Edge} {n : ℕ} {reply : Reply} → IsSound old
    → IsEdge old x a → (h : OpensAnew old (suc x) a n reply new) → NeverAdvertised old.pool s (address_of a)
    → IsAside old.pool s h.after.routes.speaker
opened_aside s x {a} {n} sound at h never =
    aside_same {e = start} (rw h.opened.routes.speaker (floods_same s start h.after.routes.vnis)) (record {
      quiet = λ r of mine. ap advert_of (get-empty {X = Value} register_cmp r);
      waits = refl;
      away = λ w in' of mine. inr (never w in' (mine ∙ sym (sound.configs x h.config a h.config_is at).address) of);
    })
  where
    start : Speaker
    start = silent h.config.address n h.config.originators.items

-- which edges may restart, and how an edge may change the station's registers
module _ (s : Station) (Open : ℕ → Type 0) (Lose : ℕ → Edge → Edge → Type 0) where
  abbrev pub Leaves : Fabric → Step → Fabric → Type 0
  Leaves old (Local e event) new = (x : ℕ) (a b : Edge) → e ≡ suc x → IsEdge old x a → IsEdge new x b
      → SaysTheSame s a b ⊎ Lose x a b
  Leaves old (Announce e) new = Unit {0}
  Leaves old (Deliver e k) new = Unit {0}
  Leaves old (Restart e n) new = (new ≡ old) ⊎ ((x : ℕ) (a : Edge) → e ≡ suc x → IsEdge old x a
      → Open x × NeverAdvertised old.pool s (address_of a))

  -- An announcement or a delivery; or one edge changes and keeps all it has of the station, or is opened again and
  -- advertises nothing of it, or changes it in the allowed way.
  pub data Change (old : Fabric) : Fabric → Type 0 where
    Moves : (new : Fabric) → Move old new → Change old new
    Same : (x : ℕ) (a b : Edge) → IsEdge old x a → SameOf s a.routes.speaker b.routes.speaker
        → Change old (record old { edges = slice_set old.edges x b })
    Opens : (x : ℕ) (a b : Edge) (cs : List EdgeConfig) → IsEdge old x a → Open x → IsAside old.pool s b.routes.speaker
        → Change old (record old { edges = slice_set old.edges x b; configs = cs })
    Loses : (x : ℕ) (a b : Edge) → IsEdge old x a → Talks a.routes.speaker b.routes.speaker → Lose x a b
        → Change old (record old { edges = slice_set old.edges x b })

  did_change : {old new : Fabric} {step : Step} → IsSound old → Did old step new → Leaves old step new
      → Change old new
  did_change sound (Moved move) leaves = Moves _ move
  did_change {old} sound (Spoke x a b event answer at steps) leaves =
      let talks = local_talks a event answer b steps in
      elim (leaves x a b refl at (set_same old.edges x b at)) [
        | inl same ↦ Same x a b at (left_same s talks (sound.good x a at).routes.numbers same)
        | inr lost ↦ Loses x a b at talks lost
      ]
  did_change {old} sound (Opened x a n reply new at h) leaves = elim leaves [
    | inl is ↦ rw is (Moves old Stays)
    | inr may ↦ rw (h.new_is, minus x) (Opens x a h.after (slice_set old.configs x (in_incarnation h.config n)) at
        (may x a refl at).0 (opened_aside s x sound at h (may x a refl at).1))
  ]

  pub change : {old : Fabric} (new : Fabric) (step : Step) (result : Result Reply FabricRefusal) → IsSound old
      → FabricSteps old step result new → Leaves old step new → Change old new
  change new step result sound h leaves = did_change sound (did new step result sound h) leaves

-- a step that leaves the station alone
abbrev pub AnyOpens : ℕ → Type 0
AnyOpens x = Unit {0}

abbrev pub NoneLoses : ℕ → Edge → Edge → Type 0
NoneLoses x a b = ⊥

alone_leaves : (s : Station) (old new : Fabric) (step : Step) → IsLeftAlone s old step new
    → Leaves s AnyOpens NoneLoses old step new
alone_leaves s old new (Local e event) h = λ x a b is at at'. inl (h x a b is at at')
alone_leaves s old new (Restart e n) h = elim h [
  | inl same ↦ inl same
  | inr never ↦ inr (λ x a is at. (tt, never x a is at))
]
alone_leaves s old new other h = tt

alone_change : (s : Station) {old : Fabric} (new : Fabric) (step : Step) (result : Result Reply FabricRefusal) →
    IsSound old
    → FabricSteps old step result new → IsLeftAlone s old step new → Change s AnyOpens NoneLoses old new
alone_change s {old} new step result sound h alone =
    change s AnyOpens NoneLoses new step result sound h (alone_leaves s old new step alone)

-- ---- nothing of a set is pending, and nothing will be

-- the edge knows each update of the set in the pool, or advertises nothing of it
pub data IsCalm (pool : List Fields) (these : Register → Bool) (e : Speaker) : Type 0 where
  Knows : waits_of these e ≡ []
      → ((w : Fields) → Contains pool w → these w.register ≡ true → is_newest e w ≡ false) → IsCalm pool these e
  Aside : HasNone pool these e → IsCalm pool these e

pub calm_waits : {pool : List Fields} {these : Register → Bool} {e : Speaker} → IsCalm pool these e
    → waits_of these e ≡ []
calm_waits (Knows waits known) = waits
calm_waits (Aside h) = h.waits

pub calm_same : {pool : List Fields} {these : Register → Bool} {e v : Speaker} → SameOn these e v
    → IsCalm pool these e → IsCalm pool these v
calm_same h (Knows waits known) = Knows (h.waits ∙ waits)
    (λ w in' of. same_newest w h of ∙ known w in' of)
calm_same h (Aside g) = Aside (aside_same h g)

calm_push : {pool : List Fields} {these : Register → Bool} {e : Speaker} (w : Fields) → these w.register ≡ false
    → IsCalm pool these e → IsCalm (pool ++ w ∷ []) these e
calm_push {pool} w other (Knows waits known) = Knows waits
    (λ z in' of. elim (Contains-push_cases pool w z in') [
      | inl earlier ↦ known z earlier of
      | inr now ↦ absurd (not_both (rw now of) other)
    ])
calm_push w other (Aside h) = Aside (aside_push w (λ of. absurd (not_both of other)) h)

abbrev pub AllCalm : (Register → Bool) → Fabric → Type 0
AllCalm these f = (y : ℕ) (c : Edge) → IsEdge f y c → IsCalm f.pool these c.routes.speaker

abbrev pub StaysCalm : (Register → Bool) → Fabric → Fabric → Type 0
StaysCalm these old new = AllCalm these new
    × (filter (λ (u : Fields). these u.register) new.pool ≡ filter (λ (u : Fields). these u.register) old.pool)

pub agreed_calm : (these : Register → Bool) {f : Fabric} → AgreesAbout f these → AllCalm these f
agreed_calm these agree y c at = Knows
    (filter_none these c.routes.speaker.pending (λ r in' of. agree.quiet y c r at of in'))
    (λ w in' of. let v = agree.arrived y c w at of in' in rw v.1 v.2)

-- one edge becomes another
pub calm_set : (these : Register → Bool) (pool : List Fields) (edges : List Edge) (x : ℕ) (b : Edge)
    → IsCalm pool these b.routes.speaker
    → ((y : ℕ) (c : Edge) → slice_get edges y ≡ Some c → IsCalm pool these c.routes.speaker) → (y : ℕ) (c : Edge)
    → slice_get (slice_set edges x b) y ≡ Some c → IsCalm pool these c.routes.speaker
calm_set these pool edges x b = each_set (λ (c : Edge). IsCalm pool these c.routes.speaker) edges x b

-- it stays so, and the pool gets nothing of the set
module _ (these : Register → Bool) (whole : AreWhole these) where
  calm_hears : {pool : List Fields} {c : LocalRoutes} {w : Fields} → Contains pool w
      → these w.register ≡ true → Hears c w → IsCalm pool these c.speaker → IsCalm pool these (heard c w).speaker
  calm_hears {c} {w} in' of h (Knows waits known) = rw (known_hearing c w h.owns (known w in' of)) (Knows waits known)
  calm_hears in' of h (Aside g) = Aside (aside_hears whole in' of h g)

  calm_move : {old new : Fabric} → IsSound old → Move old new → AllCalm these old → StaysCalm these old new
  calm_move sound Stays calm = (calm, refl)
  calm_move {old} sound (Takes t) calm = (
    calm_set these old.pool old.edges t.place (after_hearing t.edge t.update)
        (elim (cases_Bool (these t.update.register)) [
          | inl of ↦ calm_hears t.inside of (hears_sound sound t) (calm t.place t.edge t.at)
          | inr other ↦ calm_same (heard_other these whole t.edge.routes t.update other) (calm t.place t.edge t.at)
        ]) calm,
    refl,
  )
  calm_move {old} sound (Tells t) calm =
      let other : these t.update.register ≡ false = false_from_ne_true (these t.update.register)
      (λ e. none_pending (rw (calm_waits (calm t.place t.edge t.at)) at
      (filter_has these t.edge.routes.speaker.pending t.update.register e (rw t.pending (0, omega arith, refl))))) in (
        calm_set these (told t).pool old.edges t.place (after_telling t.edge t.rest) (calm_push t.update other
            (calm_same (quieter_same these t.edge.routes t.pending other) (calm t.place t.edge t.at)))
            (λ y c at_c. calm_push t.update other (calm y c at_c)),
        filter_past (λ (y : Fields). these y.register) old.pool t.update other,
      )

  pub calm_rests : (steps : List Step) {old : Fabric} (new : Fabric) → IsSound old → Rests old steps new
      → AllCalm these old
      → StaysCalm these old new
  calm_rests steps {old} new sound h calm = along (StaysCalm these old)
      (λ x y k move p. let one = calm_move k move p.0 in (one.0, one.1 ∙ p.1)) steps new h sound (calm, refl)

-- ---- an undisturbed station

abbrev pub CalmOn : Station → Fabric → Type 0
CalmOn s f = AllCalm (is_of s) f

calm_change : {s : Station} {old new : Fabric} → IsSound old → Change s AnyOpens NoneLoses old new → CalmOn s old
    → StaysCalm (is_of s) old new
calm_change {s} sound (Moves _ m) calm = calm_move (is_of s) (whole_station s) sound m calm
calm_change {s} {old} sound (Same x a b at same) calm = (
  calm_set (is_of s) old.pool old.edges x b
      (calm_same same (calm x a at)) calm,
  refl,
)
calm_change {s} {old} sound (Opens x a b cs at may quiet) calm =
    (calm_set (is_of s) old.pool old.edges x b (Aside quiet) calm, refl)
calm_change sound (Loses x a b at talks never) calm = absurd never

pub calm_runs : (s : Station) (steps : List Step) {old : Fabric} (new : Fabric) → IsSound old → RunsAlone s old steps
    new
    → CalmOn s old → StaysCalm (is_of s) old new
calm_runs s [] new sound h calm = rw h (calm, refl)
calm_runs s (step ∷ steps) {old} new sound h calm =
    let one = calm_change sound (alone_change s h.0 step h.1 sound h.2 h.3) calm in
    let rest = calm_runs s steps new (step_sound old h.0 step h.1 h.2 sound) h.4 one.0 in
    (rest.0, rest.1 ∙ one.1)

pub alone_runs : (s : Station) (steps : List Step) (old new : Fabric) → RunsAlone s old steps new → Runs old steps new
alone_runs s [] old new h = h
alone_runs s (step ∷ steps) old new h = (h.0, h.1, h.2, alone_runs s steps h.0 new h.4)

-- ---- edges that agree go on agreeing

-- each update of the station in the new pool was in the old pool
abbrev pub IsOld : Station → Fabric → Fabric → Type 0
IsOld s old new = (w : Fields) → is_of s w.register ≡ true → Contains new.pool w → Contains old.pool w

pub same_old : (s : Station) (old new : Fabric) → updates_on s new.pool ≡ updates_on s old.pool → IsOld s old new
same_old s old new same w of in' = (filter_from (on s) old.pool w
    (rw same at (filter_has (on s) new.pool w of in'))).0

-- if all updates were taken, nothing is pending, and nothing came meanwhile, the edges agree
pub taken_agrees : (s : Station) (old new : Fabric) → AllTaken s old new → IsOld s old new
    → ((y : ℕ) (c : Edge) → IsEdge new y c → waiting s c.routes.speaker ≡ []) → AgreesOn new s
taken_agrees s old new taken pool waits = record {
  quiet = λ y c r at of in'. none_pending (rw (waits y c at) at (filter_has (is_of s) c.routes.speaker.pending r of
      in'));
  arrived = λ y c w at of in'. taken y c w at of (pool w of in');
}

pub agreed_known : (f : Fabric) (s : Station) → AgreesOn f s → (i : ℕ) {w : Fields} → Contains f.pool w
    → is_of s w.register ≡ true → Has f i w
agreed_known f s agree i {w} in' of a at = let v = agree.arrived i a w at of in' in rw v.1 v.2

pub station_lasts : StationLasts
station_lasts s steps old new sound agree h none =
    let after = calm_runs s steps new sound h (agreed_calm (is_of s) agree) in (
      taken_agrees s old new (λ y c w at of in'. arrived_value (value_at (table_of c) w.register) w.value
          (runs_has steps new y w sound (alone_runs s steps old new h) none (agreed_known old s agree y in' of) c at))
          (same_old s old new after.1) (λ y c at. calm_waits (after.0 y c at)),
      after.1,
    )

pub station_reached : StationReached
station_reached configs f are start =
    let x = agreement configs f are start in (
      x.0,
      x.1,
      x.3,
      λ s steps new h none. (station_lasts s steps x.0 new x.3 ((agree_on_each x.0 x.2).stations s) h none).0,
    )

-- ---- updates that may still be announced

abbrev one : Bool → ℕ
one b = cond b 1 0

abbrev back_on : Station → Speaker → Fields → Bool
back_on s e u = is_of s u.register && comes_back e u

marked_more : (s : Station) (rs : List Register) (r : Register)
    → length (filter (is_of s) (marked rs r)) ≤ length (filter (is_of s) rs) + 1
marked_more s rs r = elim (marked_cases rs r) [
  | inl h ↦ rw h.1 (omega arith)
  | inr h ↦ rw h.1 (elim (cases_Bool (is_of s r)) [
    | inl e ↦ omega (arith, ap length (filter_push (is_of s) rs r e) ∙ push_length (filter (is_of s) rs) r)
    | inr e ↦ omega (arith, ap length (filter_past (is_of s) rs r e))
  ])
]

advert_less : (s : Station) {e v : Speaker} → IsLater e v
    → one (is_some (own_advert v (key_of s))) ≤ one (is_some (own_advert e (key_of s)))
advert_less s {v} h = elim (h.fades (key_of s)) [
  | inl same ↦ omega (arith, ap (λ o. one (is_some (advert_of o))) same)
  | inr none ↦ let zero' : one (is_some (own_advert v (key_of s))) ≡ 0 =
      rw none in omega arith
]

back_before : (s : Station) {e v : Speaker} → IsLater e v → (u : Fields) → back_on s v u ≡ true → back_on s e u ≡ true
back_before s {v} h u is = let t = and_parts (is_of s u.register) (comes_back v u) is in
    rw (t.0, comes_before h u t.1) refl

-- an update of the station is taken
heard_pays_on : (s : Station) (pool : List Fields) {c : LocalRoutes} {w : Fields} → Hears c w → Contains pool w
    → is_of s w.register ≡ true → unannounced_on s pool (heard c w).speaker ≤ unannounced_on s pool c.speaker
heard_pays_on s pool {c} {w} h in' of = elim (cases_Bool (comes_back c.speaker w)) [
  | inl back ↦
      let gone : back_on s (heard c w).speaker w ≡ false =
      rw (known_stays_away (heard c w).speaker w (heard_has c w h.numbers)) (and_right (is_of s w.register) false refl)
      in
      let counts : back_on s c.speaker w ≡ true = rw (of, back) refl in
      let less = count_less (back_on s c.speaker) (back_on s (heard c w).speaker) pool
      (back_before s later) in' counts gone in
      omega (arith, marks back, advert_less s later)
  | inr never ↦ elim (hear_cases c w never) [
    | inl is ↦
        let waits : length (waiting s (heard c w).speaker) ≡ length (waiting s c.speaker) =
        rw is in
        omega (arith, waits, advert_less s later, fewer)
    | inr l ↦
        let it = loses_it s h of never l in
        let said : one (is_some (own_advert c.speaker (key_of s))) ≡ 1 = rw it.said in
        let none : one (is_some (own_advert (heard c w).speaker (key_of s))) ≡ 0 =
        rw (it.is, own_same (after_importing c.speaker w) (key_of s) Withdrawn) in
        let waits : length (waiting s (heard c w).speaker)
        ≡ length (filter (is_of s) (marked c.speaker.pending (own_register c.speaker (key_of s)))) =
        rw it.is in
        omega (arith, waits, marked_more s c.speaker.pending (own_register c.speaker (key_of s)), fewer)
  ]
]
  where
    later : IsLater c.speaker (heard c w).speaker
    later = heard_later c h.numbers h.accepts

    fewer : count_by (back_on s (heard c w).speaker) pool ≤ count_by (back_on s c.speaker) pool
    fewer = count_le (back_on s c.speaker) (back_on s (heard c w).speaker) pool
        (back_before s later)

    marks : comes_back c.speaker w ≡ true
        → length (waiting s (heard c w).speaker) ≤ length (waiting s c.speaker) + 1
    marks is = heard_by (λ d. length (waiting s d.speaker) ≤ length (waiting s c.speaker) + 1) c w
        (λ b. marked_more s c.speaker.pending (own_register c.speaker w.register.key))
        (λ st foreign lost. absurd (not_both is (others_stay_away c.speaker w foreign)))
        (λ never. absurd (not_both is never))

-- unchanged parts
same_pays : (s : Station) (pool : List Fields) {e v : Speaker} → SameOf s e v
    → unannounced_on s pool v ≤ unannounced_on s pool e
same_pays s pool {e} {v} h =
    let waits : length (waiting s v) ≡ length (waiting s e) = ap length h.waits in
    let adverts : one (is_some (own_advert v (key_of s))) ≡ one (is_some (own_advert e (key_of s))) =
    rw (same_own s h) in
    omega (arith, waits, count_le (back_on s e) (back_on s v) pool back)
  where
    back : (u : Fields) → back_on s v u ≡ true → back_on s e u ≡ true
    back u is =
        let t = and_parts (is_of s u.register) (comes_back v u) is in
        let c = comes v u t.1 in
        let so = comes_when e u (record {
          mine = c.mine ∙ h.address;
          newest = sym (same_newest u h t.0) ∙ c.newest;
          earlier = rw (← h.incarnation) c.earlier;
          advert = c.advert;
        }) in
        rw (t.0, so) refl

-- an update of another originator, or one that is no news, keeps the updates that may come back
push_pays : (s : Station) (pool : List Fields) (e : Speaker) (u : Fields) → comes_back e u ≡ false
    → unannounced_on s (pool ++ u ∷ []) e ≤ unannounced_on s pool e
push_pays s pool e u none = omega (
  arith,
  count_push (back_on s e) pool u (rw none
      (and_right (is_of s u.register) false refl)),
)

-- ---- the sum
abbrev total : Station → Fabric → ℕ
total s f = length (updates_on s f.pool) + to_come_on s f

-- one edge becomes another
becomes_total : (s : Station) (old : Fabric) (x : ℕ) {a : Edge} (b : Edge) → IsEdge old x a
    → unannounced_on s old.pool b.routes.speaker ≤ unannounced_on s old.pool a.routes.speaker
    → total s (record old { edges = slice_set old.edges x b }) ≤ total s old
becomes_total s old x {a} b at less =
    omega (
      arith,
      sum_set (λ (y : Edge). unannounced_on s old.pool y.routes.speaker)
          (λ (y : Edge). unannounced_on s old.pool y.routes.speaker) 0 old.edges x a b at (omega arith)
          (λ j y ne at_y. omega arith),
    )

move_total : (s : Station) {old new : Fabric} → IsSound old → Move old new → total s new ≤ total s old
move_total s sound Stays = omega arith
move_total s {old} sound (Takes t) = becomes_total s old t.place (after_hearing t.edge t.update) t.at
    (elim (cases_Bool (is_of s t.update.register)) [
      | inl of ↦ heard_pays_on s old.pool (hears_sound sound t) t.inside of
      | inr other ↦ same_pays s old.pool (heard_other (is_of s) (whole_station s) t.edge.routes t.update other)
    ])
move_total s {old} sound (Tells t) = elim (cases_Bool (is_of s t.update.register)) [
  | inl of ↦ omega (
    arith,
    summed 1 (omega (arith, waits true of, mine)),
    ap length (filter_push (on s) old.pool t.update of)
        ∙ push_length (updates_on s old.pool) t.update,
  )
  | inr other ↦ omega (
    arith,
    summed 0 (omega (arith, waits false other, mine)),
    ap length (filter_past (on s) old.pool t.update other),
  )
]
  where
    after : Edge
    after = after_telling t.edge t.rest

    mine : unannounced_on s (told t).pool after.routes.speaker ≤ unannounced_on s old.pool after.routes.speaker
    mine = push_pays s old.pool after.routes.speaker t.update (told_away t)

    summed : (d : ℕ) → unannounced_on s (told t).pool after.routes.speaker
        + d ≤ unannounced_on s old.pool t.edge.routes.speaker → to_come_on s (told t) + d ≤ to_come_on s old
    summed d less = sum_set (λ (y : Edge). unannounced_on s old.pool y.routes.speaker)
        (λ (y : Edge). unannounced_on s (told t).pool y.routes.speaker) d old.edges t.place t.edge after t.at less
        (λ j y ne at. push_pays s old.pool y.routes.speaker t.update (told_elsewhere sound t j ne at))

    waits : (b : Bool) → is_of s t.update.register ≡ b → length (waiting s t.edge.routes.speaker)
        ≡ length (cond b (t.update.register ∷ filter (is_of s) t.rest) (filter (is_of s) t.rest))
    waits b e = rw (t.pending, e)

-- an edge that advertises nothing of the station announces nothing of it
aside_pays : (s : Station) {pool : List Fields} {e : Speaker} → IsAside pool s e → unannounced_on s pool e ≡ 0
aside_pays s {pool} {e} h =
    let waits : length (waiting s e) ≡ 0 = ap length h.waits in
    let advert : one (is_some (own_advert e (key_of s))) ≡ 0 = rw (aside_quiet s h) in
    omega (arith, waits, count_none (back_on s e) pool away)
  where
    away : (u : Fields) → Contains pool u → back_on s e u ≡ false
    away u in' = elim (cases_Bool (is_of s u.register)) [
      | inl of ↦ elim (cases_eq u.register.originator e.address) [
        | inl mine ↦ rw of (idle_away e u (h.away u in' of mine))
        | inr ne ↦ rw of (others_stay_away e u ne)
      ]
      | inr other ↦ rw other
    ]

change_total : {s : Station} {old new : Fabric} → IsSound old → Change s AnyOpens NoneLoses old new
    → total s new ≤ total s old
change_total {s} sound (Moves _ m) = move_total s sound m
change_total {s} {old} sound (Same x a b at same) = becomes_total s old x b at
    (same_pays s old.pool same)
change_total {s} {old} sound (Opens x a b cs at may quiet) = becomes_total s old x b at
    (omega (arith, aside_pays s quiet))
change_total sound (Loses x a b at talks never) = absurd never

pub station_settles : StationSettles
station_settles s [] old new sound h = omega (arith, ap (total s) h)
station_settles s (step ∷ steps) old new sound h =
    omega (
      arith,
      change_total sound (alone_change s h.0 step h.1 sound h.2 h.3),
      station_settles s steps h.0 new
          (step_sound old h.0 step h.1 h.2 sound) h.4,
    )
