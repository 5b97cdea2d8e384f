-- A station moves while all else goes on: two updates of its registers, and the new edge owns it everywhere.
use Rattle.std.proofs.Common.{◌≡◌, ◌≢◌, ◌⊎◌, inl, inr, ℕ, zero, suc, Bool, true, false, Option, Some, None, List, []}
use Rattle.std.proofs.Common.{◌∷◌, ◌++◌, refl, sym, ap, subst, ◌∙◌, arith, cond, not}
use Rattle.std.proofs.lemmas.Bool.{cases_Bool, cases_eq}
use Rattle.std.proofs.lemmas.List.Elements.{Contains-append_left, Contains-push, filter-append}
use Rattle.std.proofs.lemmas.List.{append-nil, append_assoc, append_cancel_left}
use Rattle.std.specs.Prelude.{Contains, IsSome, is_some, slice_get, slice_set, ◌&&◌}
use Rattle.std.specs.List.{filter}
use Rattle.route_wire.specs.declared.update.Key.TheVariants.{Mac}
use Rattle.route_wire.specs.declared.update.Ip.{Ip}
use Rattle.route_wire.specs.declared.update.Register.{Register}
use Rattle.route_wire.specs.declared.update.Advert.{Advert}
use Rattle.route_wire.specs.declared.update.Value.{Value}
use Rattle.route_wire.specs.Fields.{Fields}
use Rattle.route_join.specs.Table.{value_at, is_news, register_of}
use Rattle.route_join.specs.Owner.{advert_in, advert_of, IsOwner}
use Rattle.route_join.proofs.Tables.{not_newer_itself}
use Rattle.mac_arena.specs.declared.station.Station.{Station}
use Rattle.mac_arena.specs.declared.station.Entry.{Entry}
use Rattle.mac_arena.specs.Learning.{entry_at}
use Rattle.ev_claims.specs.Speaker.{Speaker, own_register, own_advert, next_value}
use Rattle.ev_claims.specs.LocalRoutes.{LocalRoutes, key_of}
use Rattle.ev_claims.proofs.Numbers.{own_same}
use Rattle.ev_edge.specs.Edge.{Edge, IsGoodEdge, table_of, address_of}
use Rattle.ev_fabric.specs.declared.step.Step.{Step}
use Rattle.ev_fabric.specs.declared.step.Step.TheVariants.{Local, Restart}
use Rattle.ev_fabric.specs.Fabric.{Fabric, IsEdge}
use Rattle.ev_fabric.specs.Local.{event_of}
use Rattle.ev_fabric.specs.Steps.{StepsAt}
use Rattle.ev_fabric.specs.Sound.{update_of, IsSound}
use Rattle.ev_fabric.specs.Agreed.{Advertises, AllAgree}
use Rattle.ev_fabric.specs.Convergence.{Rests}
use Rattle.ev_fabric.specs.Station.{is_of, AgreesOn, StationComes, LeavesStation, LeavesOrLoses, RunsBeside, updates_on}
use Rattle.ev_fabric.specs.Station.{StationMoves, LosesItself, RunsLosing, StationMovesAnyhow, StationMoved}
use Rattle.ev_fabric.proofs.Agreements.{advert_bare, learnt}
use Rattle.ev_fabric.proofs.Stations.{about_station, station_key, station_one, station_owner, agree_about}
use Rattle.ev_fabric.proofs.Stations.{agree_on_each}
use Rattle.ev_fabric.proofs.Places.{minus, set_cases, set_same}
use Rattle.ev_fabric.proofs.Voices.{Talks}
use Rattle.ev_fabric.proofs.Fabrics.{step_sound}
use Rattle.ev_fabric.proofs.ConvergingSums.{set_kept, count_none}
use Rattle.ev_fabric.proofs.ConvergingEdge.{heard, after_hearing, after_telling, may_return, known_stays_away}
use Rattle.ev_fabric.proofs.ConvergingMoves.{Telling, Taking, Move, Stays, Tells, Takes, told, taken, told_others}
use Rattle.ev_fabric.proofs.Events.{LearnsIt, local_effect}
use Rattle.ev_fabric.proofs.ConvergingRounds.{Has, IsReady}
use Rattle.ev_fabric.proofs.StationStages.{on, some_in, filter_none, filter_push, filter_past, waiting, marked_first}
use Rattle.ev_fabric.proofs.StationStages.{SameOf, same_own, heard_other, whole_station, HasPart, HasOwn, Speaks}
use Rattle.ev_fabric.proofs.StationStages.{IsAside, part_same, aside_same, quieter_same, part_push, aside_push}
use Rattle.ev_fabric.proofs.StationStages.{said_news, speaks, talks_news, Hears, hears_sound, idle_grows, to_grows}
use Rattle.ev_fabric.proofs.StationStages.{from_grows, aside_hears, from_hears, says_other, AreWhole}
use Rattle.ev_fabric.proofs.StationAlone.{Leaves, Change, Moves, Same, Opens, Loses, change, agreed_known, AllCalm}
use Rattle.ev_fabric.proofs.StationAlone.{agreed_calm, calm_same, calm_set, calm_rests}
use Rattle.route_wire.proofs.Feeding.{never as not_both}
use Rattle.ev_fabric.specs.Later.{IsLaterFabric}
use Rattle.ev_fabric.specs.ConvergenceEdge.{is_latest}
use Rattle.ev_fabric.specs.ConvergenceMove.{StationMoves as AgreedMoves, IsMoved}
use Rattle.ev_fabric.proofs.Goings.{runs_lead, rests_run}

pub one_edge : (edges : List Edge) {i j : ℕ} {a b : Edge} → i ≡ j → slice_get edges i ≡ Some a
    → slice_get edges j ≡ Some b → b ≡ a
one_edge edges {a = a} place at_a at_b = cc (at_b, subst (λ n. slice_get edges n ≡ Some a) place at_a)

-- ---- a stage

-- A move: the updates of the station before it, the places of the old edge and of the new one, their addresses o and q,
-- and the new edge's own value; and whether the old place may lose the station by itself.
pub record Plan : Type 0 where
  pub may : Bool
  pub base : List Fields
  pub i : ℕ
  pub j : ℕ
  pub s : Station
  pub o : ℕ
  pub q : ℕ
  pub value : Value
  pub apart : i ≢ j
  pub some : IsSome (advert_in value.content)

-- the updates of the station that the pool has got, the pending registers at the old place and at the new one, and
-- whether the old place still advertises
pub record Now : Type 0 where
  pub extra : List Fields
  pub here : List Register
  pub there : List Register
  pub says : Bool

abbrev pub now : List Fields → List Register → List Register → Bool → Now
now extra here there says = record { extra = extra; here = here; there = there; says = says }

module _ (p : Plan) where
  open p use {may, base, i, j, s, o, q, value, apart, some}

  -- the update of the new place, and the registers of both
  abbrev pub u : Fields
  u = update_of (register_of q (key_of s)) value

  abbrev pub r : Register
  r = register_of o (key_of s)

  abbrev From : Now → List Fields → Speaker → Type 0
  From n pool e = HasPart pool n.extra s o n.here (Speaks n.says) e

  abbrev To : Now → List Fields → Speaker → Type 0
  To n pool e = HasPart pool n.extra s q n.there (HasOwn value) e

  -- the part of the edge at a place
  pub data Role (n : Now) (pool : List Fields) (x : ℕ) (e : Speaker) : Type 0 where
    Old : x ≡ i → From n pool e → Role n pool x e
    New : x ≡ j → To n pool e → Role n pool x e
    Other : x ≢ i → x ≢ j → IsAside pool s e → Role n pool x e

  pub record StageOf (n : Now) (pool : List Fields) (edges : List Edge) : Type 0 where
    pub grown : updates_on s pool ≡ base ++ n.extra
    pub roles : (x : ℕ) (c : Edge) → slice_get edges x ≡ Some c → Role n pool x c.routes.speaker
    pub from : (c : Edge) × (slice_get edges i ≡ Some c)
    pub to : (c : Edge) × (slice_get edges j ≡ Some c)

  -- if the old place may lose the station by itself, its withdrawal may come first
  pub data Phase : Now → Type 0 where
    AtFirst : Phase (now [] [] (u.register ∷ []) true)
    AtTold : Phase (now (u ∷ []) [] [] true)
    AtLost : Phase (now (u ∷ []) (r ∷ []) [] false)
    AtOver : (w : Fields) → w.register ≡ r → advert_in w.value.content ≡ None → Phase (now (u ∷ w ∷ []) [] [] false)
    AtAged : may ≡ true → Phase (now [] (r ∷ []) (u.register ∷ []) false)
    AtLeft : may ≡ true → (w : Fields) → w.register ≡ r → advert_in w.value.content ≡ None
        → Phase (now (w ∷ []) [] (u.register ∷ []) false)
    AtBack : may ≡ true → (w : Fields) → w.register ≡ r → advert_in w.value.content ≡ None
        → Phase (now (w ∷ u ∷ []) [] [] false)

  pub record Stage (pool : List Fields) (edges : List Edge) : Type 0 where
    pub n : Now
    pub phase : Phase n
    pub of : StageOf n pool edges

  at_phase : {n : Now} {pool : List Fields} {edges : List Edge} → Phase n → StageOf n pool edges → Stage pool edges
  at_phase {n} phase g = record { n = n; phase = phase; of = g }

  -- the new updates of the station in the pool: the advert, and withdrawals
  abbrev News : List Fields → Type 0
  News extra = (w : Fields) → Contains extra w → (w ≡ u) ⊎ (advert_in w.value.content ≡ None)

  no_news : News []
  no_news w (n, lt, is) = absurd (omega arith)

  more_news : (z : Fields) (extra : List Fields) → (z ≡ u) ⊎ (advert_in z.value.content ≡ None) → News extra
      → News (z ∷ extra)
  more_news z extra known rest w (zero, lt, is) = rw is at known
  more_news z extra known rest w (suc n, lt, is) = rest w (n, omega arith, is)

  pub phase_news : {n : Now} → Phase n → News n.extra
  phase_news AtFirst = no_news
  phase_news AtTold = more_news u [] (inl refl) no_news
  phase_news AtLost = more_news u [] (inl refl) no_news
  phase_news (AtOver w named none) = more_news u (w ∷ []) (inl refl) (more_news w [] (inr none) no_news)
  phase_news (AtAged yes') = no_news
  phase_news (AtLeft yes' w named none) = more_news w [] (inr none) no_news
  phase_news (AtBack yes' w named none) = more_news w (u ∷ []) (inr none) (more_news u [] (inl refl) no_news)

  -- the edges at the two places
  pub from_of : {n : Now} {pool : List Fields} {edges : List Edge} (g : StageOf n pool edges)
      → From n pool g.from.0.routes.speaker
  from_of g = elim (g.roles i g.from.0 g.from.1) [
    | Old is t ↦ t
    | New is t ↦ absurd (apart is)
    | Other ne ne' t ↦ absurd (ne refl)
  ]

  pub to_of : {n : Now} {pool : List Fields} {edges : List Edge} (g : StageOf n pool edges)
      → To n pool g.to.0.routes.speaker
  to_of g = elim (g.roles j g.to.0 g.to.1) [
    | Old is t ↦ absurd (apart (sym is))
    | New is t ↦ t
    | Other ne ne' t ↦ absurd (ne' refl)
  ]

  -- one edge becomes another
  stage_set : {n m : Now} {pool pool' : List Fields} {edges : List Edge} (x : ℕ) (b : Edge) → StageOf n pool edges
      → updates_on s pool' ≡ base ++ m.extra → Role m pool' x b.routes.speaker
      → ((y : ℕ) (c : Edge) → y ≢ x → slice_get edges y ≡ Some c → Role n pool y c.routes.speaker
      → Role m pool' y c.routes.speaker) → StageOf m pool' (slice_set edges x b)
  stage_set {edges = edges} x b g grown here others = record {
    grown = grown;
    roles = λ y c at. elim (set_cases edges x b y c at) [
      | inl k ↦ rw (k.0, k.1) here
      | inr k ↦ others y c k.0 k.1 (g.roles y c k.1)
    ];
    from = set_kept edges x b i g.from.1;
    to = set_kept edges x b j g.to.1;
  }

  -- an edge keeps all that it has of the station
  role_same : {n : Now} {pool : List Fields} {x : ℕ} {e v : Speaker} → SameOf s e v → Role n pool x e → Role n pool x v
  role_same same (Old is t) = Old is (part_same same t)
  role_same same (New is t) = New is (part_same same t)
  role_same same (Other ne ne' t) = Other ne ne' (aside_same same t)

  stays_same : {pool : List Fields} {edges : List Edge} (x : ℕ) (a b : Edge) → slice_get edges x ≡ Some a
      → SameOf s a.routes.speaker b.routes.speaker → Stage pool edges → Stage pool (slice_set edges x b)
  stays_same x a b at same k =
      at_phase k.phase (stage_set x b k.of k.of.grown (role_same same (k.of.roles x a at)) (λ y c ne at t. t))

  -- what one of the two places has pending is nothing to the others
  not_from : {n : Now} {pool : List Fields} {x : ℕ} {e : Speaker} (here : List Register) (says : Bool) → x ≢ i
      → Role n pool x e → Role (now n.extra here n.there says) pool x e
  not_from here says off (Old is t) = absurd (off is)
  not_from here says off (New is t) = New is t
  not_from here says off (Other ne ne' t) = Other ne ne' t

  not_to : {n : Now} {pool : List Fields} {x : ℕ} {e : Speaker} (there : List Register) → x ≢ j → Role n pool x e
      → Role (now n.extra n.here there n.says) pool x e
  not_to there off (Old is t) = Old is t
  not_to there off (New is t) = absurd (off is)
  not_to there off (Other ne ne' t) = Other ne ne' t

  from_set : {n : Now} {pool : List Fields} {edges : List Edge} (x : ℕ) (b : Edge) (here : List Register) (says : Bool)
      → x ≡ i → StageOf n pool edges → From (now n.extra here n.there says) pool b.routes.speaker
      → StageOf (now n.extra here n.there says) pool (slice_set edges x b)
  from_set x b here says is g t = stage_set x b g g.grown (Old is t)
      (λ y c ne at. not_from here says (λ same. ne (same ∙ sym is)))

  -- ---- an update of the station is taken

  -- the edge has the same part, or it is the first one and withdraws the station
  role_hears : {n : Now} {pool : List Fields} {x : ℕ} {c : LocalRoutes} {w : Fields} → News n.extra → Contains pool w
      → is_of s w.register ≡ true → Hears c w → (x ≡ i → w ≡ u → w.register.originator ≢ c.speaker.address)
      → Role n pool x c.speaker
      → Role n pool x (heard c w).speaker ⊎ ((x ≡ i) × Contains n.extra u × (n.says ≡ true)
      × (n.here ≡ [] → From (now n.extra (r ∷ []) n.there false) pool (heard c w).speaker))
  role_hears {w = w} news in' of h foreign (Old is t) = elim (t.known w in' of) [
    | inl old ↦ inl (Old is (from_grows h (idle_grows h (inl old)) t))
    | inr new ↦ elim (news w new) [
      | inl same ↦ elim (from_hears of (foreign is same) h t) [
        | inl k ↦ inl (Old is k)
        | inr k ↦ inr (is, rw same at new, k.0, k.1)
      ]
      | inr none ↦ inl (Old is (from_grows h (idle_grows h (inr none)) t))
    ]
  ]
  role_hears {c = c} {w = w} news in' of h foreign (New is t) =
      inl (New is (to_grows some h (idle_grows h (elim (t.known w in' of) [
        | inl old ↦ inl old
        | inr new ↦ elim (news w new) [
          | inl same ↦ inl (rw same (rw t.name at (ap (λ v. is_news v value) t.own_is ∙ not_newer_itself value)))
          | inr none ↦ inr none
        ]
      ])) t))
  role_hears news in' of h foreign (Other ne ne' t) = inl (Other ne ne' (aside_hears (whole_station s) in' of h t))

  takes_stage : {old : Fabric} → IsSound old → (t : Taking old) → is_of s t.update.register ≡ true
      → Stage old.pool old.edges → Stage old.pool (taken t).edges
  takes_stage {old} sound t of k =
      elim (role_hears (phase_news k.phase) t.inside of (hears_sound sound t) foreign
      (k.of.roles t.place t.edge t.at)) [
        | inl role ↦ at_phase k.phase (stage_set t.place after k.of k.of.grown role (λ y c ne at t. t))
        | inr lost ↦ loses k.phase lost.1 lost.2
            (λ none. from_set t.place after (r ∷ []) false lost.0 k.of (lost.3 none))
      ]
    where
      after : Edge
      after = after_hearing t.edge t.update

      foreign : t.place ≡ i → t.update ≡ u → t.update.register.originator ≢ address_of t.edge
      foreign is same mine = apart (sym is ∙ sym (sound.apart j t.place k.of.to.0 t.edge k.of.to.1 t.at
          ((to_of k.of).name ∙ ap (λ (y : Fields). y.register.originator) (sym same) ∙ mine)))

      loses : {n : Now} → Phase n → Contains n.extra u → n.says ≡ true
          → (n.here ≡ [] → StageOf (now n.extra (r ∷ []) n.there false) old.pool (taken t).edges)
          → Stage old.pool (taken t).edges
      loses AtFirst (n, lt, is) e g = absurd (omega arith)
      loses AtTold in' e g = at_phase AtLost (g refl)
      loses other in' e g = cc

  -- ---- an edge announces
  module _ {old : Fabric} (sound : IsSound old) (t : Telling old) where
    abbrev left : List Register
    left = filter (is_of s) t.rest

    abbrev after : Edge
    after = after_telling t.edge t.rest

    abbrev Then : Now → Type 0
    Then n = StageOf n (told t).pool (told t).edges

    -- an edge of which nothing else changes
    role_told : {n : Now} (extra : List Fields) → (is_of s t.update.register ≡ true → Contains extra t.update)
        → ((z : Fields) → Contains n.extra z → Contains extra z) → {x : ℕ} {e : Speaker}
        → (is_of s t.update.register ≡ true → t.update.register.originator ≢ e.address) → Role n old.pool x e
        → Role (now extra n.here n.there n.says) (told t).pool x e
    role_told extra new more other (Old is k) = Old is (part_push extra t.update new more k)
    role_told extra new more other (New is k) = New is (part_push extra t.update new more k)
    role_told extra new more other (Other ne ne' k) = Other ne ne' (aside_push t.update other k)

    -- a register of something else
    tells_other : {n : Now} → is_of s t.update.register ≡ false → StageOf n old.pool old.edges → Then n
    tells_other {n} other g = stage_set t.place after g
        (filter_past (on s) old.pool t.update other ∙ g.grown)
        (still (role_same (quieter_same (is_of s) t.edge.routes t.pending other) (g.roles t.place t.edge t.at)))
        (λ y c ne at k. still k)
      where
        still : {x : ℕ} {e : Speaker} → Role n old.pool x e → Role n (told t).pool x e
        still k = role_told n.extra (λ of. absurd (not_both of other)) (λ z in'. in')
            (λ of. absurd (not_both of other)) k

    -- a register of the station: it is pending at one of the two edges
    module _ (of : is_of s t.update.register ≡ true) where
      waits_mine : waiting s t.edge.routes.speaker ≡ t.update.register ∷ left
      waits_mine = rw (t.pending, of)

      grown_by : (extra : List Fields) → updates_on s old.pool ≡ base ++ extra
          → updates_on s (told t).pool ≡ base ++ (extra ++ t.update ∷ [])
      grown_by extra grown = filter_push (on s) old.pool t.update of
          ∙ ap (λ l. l ++ t.update ∷ []) grown ∙ append_assoc base extra (t.update ∷ [])

      others_told : {n : Now} (y : ℕ) (c : Edge) → y ≢ t.place → IsEdge old y c → Role n old.pool y c.routes.speaker
          → Role (now (n.extra ++ t.update ∷ []) n.here n.there n.says) (told t).pool y c.routes.speaker
      others_told {n} y c ne at = role_told (n.extra ++ t.update ∷ []) (λ _. Contains-push n.extra t.update)
          (Contains-append_left n.extra (t.update ∷ [])) (λ _. told_others sound t y ne at)

      hushed : (extra : List Fields) {o : ℕ} {rs : List Register} {Own : Option Value → Type 0}
          → HasPart old.pool extra s o rs Own t.edge.routes.speaker
          → HasPart (told t).pool (extra ++ t.update ∷ []) s o left Own after.routes.speaker
      hushed extra k = part_push {extra = extra} (extra ++ t.update ∷ []) t.update (λ _. Contains-push extra t.update)
          (Contains-append_left extra (t.update ∷ []))
          (assumption)

      -- the new place announces the advert
      tells_advert : {extra : List Fields} {here : List Register} {says : Bool} → t.place ≡ j
          → StageOf (now extra here (u.register ∷ []) says) old.pool old.edges
          → To (now extra here (u.register ∷ []) says) old.pool t.edge.routes.speaker
          → Then (now (extra ++ u ∷ []) here [] says)
      tells_advert {extra} {here} {says} is g k =
          let waits : t.update.register ∷ left ≡ u.register ∷ [] = sym waits_mine ∙ k.waits in
          let ends : left ≡ [] = cc (waits) in
          let register : t.update.register ≡ u.register = cc (waits) in
          let has : value_at (table_of t.edge) u.register ≡ Some value = rw k.name at k.own_is in
          let same : t.update.value ≡ value = cc (t.there, ap (value_at (table_of t.edge)) register) in
          subst (λ l. Then (now (extra ++ u ∷ []) here l says)) ends
          (subst (λ (y : Fields). Then (now (extra ++ y ∷ []) here left says)) (λ n. update_of (register n) (same n))
          (stage_set t.place after g (grown_by extra g.grown) (New is (hushed extra k))
          (λ y c ne at z. not_to left (λ here'. ne (here' ∙ sym is)) (others_told y c ne at z))))

      -- the old place announces its withdrawal
      record Withdraws (extra : List Fields) (there : List Register) : Type 0 where
        named : t.update.register ≡ r
        none : advert_in t.update.value.content ≡ None
        stage : Then (now (extra ++ t.update ∷ []) [] there false)

      withdraws : {extra : List Fields} {there : List Register} → t.place ≡ i
          → StageOf (now extra (r ∷ []) there false) old.pool old.edges
          → From (now extra (r ∷ []) there false) old.pool t.edge.routes.speaker → Withdraws extra there
      withdraws {extra} {there} is g k = record {
        named = named;
        none = none_in (advert_in t.update.value.content) (ap (λ v. is_some (advert_of v)) (sym t.there
            ∙ ap (value_at (table_of t.edge)) (named ∙ λ n. register_of (sym k.name n) (key_of s))) ∙ k.own_is);
        stage = subst (λ l. Then (now (extra ++ t.update ∷ []) l there false)) ends
            (stage_set t.place after g (grown_by extra g.grown) (Old is (hushed extra k))
            (λ y c ne at z. not_from left false (λ here. ne (here ∙ sym is)) (others_told y c ne at z)));
      }
        where
          waits : t.update.register ∷ left ≡ r ∷ []
          waits = sym waits_mine ∙ k.waits

          ends : left ≡ []
          ends = cc (waits)

          named : t.update.register ≡ r
          named = cc (waits)

          none_in : (c : Option Advert) → is_some c ≡ false → c ≡ None
          none_in None e = refl
          none_in (Some y) e = cc

      from_tells : {n : Now} → Phase n → t.place ≡ i → StageOf n old.pool old.edges
          → From n old.pool t.edge.routes.speaker → Stage (told t).pool (told t).edges
      from_tells AtLost is g k = let w = withdraws is g k in at_phase (AtOver t.update w.named w.none) w.stage
      from_tells (AtAged yes') is g k =
          let w = withdraws is g k in at_phase (AtLeft yes' t.update w.named w.none) w.stage
      from_tells other is g k = cc (waits_mine, k.waits)

      to_tells : {n : Now} → Phase n → t.place ≡ j → StageOf n old.pool old.edges
          → To n old.pool t.edge.routes.speaker → Stage (told t).pool (told t).edges
      to_tells AtFirst is g k = at_phase AtTold (tells_advert is g k)
      to_tells (AtAged yes') is g k = at_phase AtLost (tells_advert is g k)
      to_tells (AtLeft yes' w named none) is g k = at_phase (AtBack yes' w named none) (tells_advert is g k)
      to_tells other is g k = cc (waits_mine, k.waits)

    tells_stage : Stage old.pool old.edges → Stage (told t).pool (told t).edges
    tells_stage k = elim (cases_Bool (is_of s t.update.register)) [
      | inl of ↦ elim (k.of.roles t.place t.edge t.at) [
        | Old is z ↦ from_tells of k.phase is k.of z
        | New is z ↦ to_tells of k.phase is k.of z
        | Other ne ne' z ↦ cc (waits_mine of, z.waits)
      ]
      | inr other ↦ at_phase k.phase (tells_other other k.of)
    ]

  -- ---- every step
  stage_moves : {old new : Fabric} → IsSound old → Move old new → Stage old.pool old.edges → Stage new.pool new.edges
  stage_moves sound Stays k = k
  stage_moves sound (Tells t) k = tells_stage sound t k
  stage_moves sound (Takes t) k = elim (cases_Bool (is_of s t.update.register)) [
    | inl of ↦ takes_stage sound t of k
    | inr other ↦ stays_same t.place t.edge (after_hearing t.edge t.update) t.at
        (heard_other (is_of s) (whole_station s) t.edge.routes t.update other) k
  ]

  -- the old place loses the station by itself
  loses_stage : {pool : List Fields} {edges : List Edge} (x : ℕ) (a b : Edge) → slice_get edges x ≡ Some a
      → IsGoodEdge a → Talks a.routes.speaker b.routes.speaker → may ≡ true → LosesItself i s x a b → Stage pool edges
      → Stage pool (slice_set edges x b)
  loses_stage {pool} {edges} x a b at good talks yes' l k = go k.phase k.of (k.of.roles x a at)
    where
      had : is_some (own_advert a.routes.speaker (key_of s)) ≡ true
      had = ap is_some (advert_bare s good l.1).1

      gone : (y : Option Advert) → own_advert b.routes.speaker (key_of s) ≡ y
          → is_some (own_advert b.routes.speaker (key_of s)) ≡ false
      gone None e = rw e
      gone (Some y) e = absurd (l.2 (None, y, e))

      set : {extra : List Fields} {there : List Register} → StageOf (now extra [] there true) pool edges
          → From (now extra [] there true) pool a.routes.speaker
          → StageOf (now extra (r ∷ []) there false) pool (slice_set edges x b)
      set g t = from_set x b (r ∷ []) false l.0 g (elim (speaks s talks) [
        | inl same ↦ absurd (not_both (rw (← same_own s same) at had) (gone _ refl))
        | inr spoke ↦ record {
          name = spoke.address ∙ t.name;
          own_is = gone _ refl;
          waits = rw (← t.name) (spoke.waits t.waits);
          known = λ w in' of. elim (t.known w in' of) [
            | inl old ↦ inl (talks_news talks good.routes.numbers w old)
            | inr new ↦ inr new
          ];
        }
      ])

      go : {n : Now} → Phase n → StageOf n pool edges → Role n pool x a.routes.speaker
          → Stage pool (slice_set edges x b)
      go phase g (New is t) = absurd (apart (sym l.0 ∙ is))
      go phase g (Other ne ne' t) = absurd (ne l.0)
      go AtFirst g (Old is t) = at_phase (AtAged yes') (set g t)
      go AtTold g (Old is t) = at_phase AtLost (set g t)
      go other g (Old is t) = absurd (not_both had t.own_is)

  -- every other edge may restart, and the old place may lose the station by itself
  abbrev pub MayOpen : ℕ → Type 0
  MayOpen x = (x ≢ i) × (x ≢ j)

  abbrev pub MayLose : ℕ → Edge → Edge → Type 0
  MayLose x a b = (may ≡ true) × LosesItself i s x a b

  change_stage : {old new : Fabric} → IsSound old → Change s MayOpen MayLose old new → Stage old.pool old.edges
      → Stage new.pool new.edges
  change_stage sound (Moves _ m) k = stage_moves sound m k
  change_stage sound (Same x a b at same) k = stays_same x a b at same k
  change_stage sound (Opens x a b cs at ne quiet) k =
      at_phase k.phase (stage_set x b k.of k.of.grown (Other ne.0 ne.1 quiet) (λ y c ne at t. t))
  change_stage sound (Loses x a b at talks l) k = loses_stage x a b at (sound.good x a at) talks l.0 l.1 k

  beside_step : (old new : Fabric) (step : Step) → LeavesStation i j s old step new
      → Leaves s MayOpen MayLose old step new
  beside_step old new (Local e event) h = λ x a b is at at'. inl (h x a b is at at')
  beside_step old new (Restart e n) h = elim h [
    | inl same ↦ inl same
    | inr elsewhere ↦ inr (λ x a is at. let r = elsewhere x is in ((r.not_from, r.not_to), r.never a at))
  ]
  beside_step old new other h = tt

  pub runs_stage : (steps : List Step) {old : Fabric} (new : Fabric) → IsSound old → RunsBeside i j s old steps new
      → Stage old.pool old.edges → Stage new.pool new.edges × IsSound new
  runs_stage [] new sound h stage = rw h (stage, sound)
  runs_stage (step ∷ steps) {old} new sound h stage = runs_stage steps new (step_sound old h.0 step h.1 h.2 sound) h.4
      (change_stage sound (change s MayOpen MayLose h.0 step h.1 sound h.2 (beside_step old h.0 step h.3)) stage)

  losing_step : may ≡ true → (old new : Fabric) (step : Step) → LeavesOrLoses i j s old step new
      → Leaves s MayOpen MayLose old step new
  losing_step yes' old new (Local e event) h = λ x a b is at at'. elim (h x a b is at at') [
    | inl same ↦ inl same
    | inr l ↦ inr (yes', l)
  ]
  losing_step yes' old new (Restart e n) h = beside_step old new (Restart e n) h
  losing_step yes' old new other h = tt

  losing_stage : may ≡ true → (steps : List Step) {old : Fabric} (new : Fabric) → IsSound old
      → RunsLosing i j s old steps new → Stage old.pool old.edges → Stage new.pool new.edges × IsSound new
  losing_stage yes' [] new sound h stage = rw h (stage, sound)
  losing_stage yes' (step ∷ steps) {old} new sound h stage = losing_stage yes' steps new
      (step_sound old h.0 step h.1 h.2 sound) h.4
      (change_stage sound (change s MayOpen MayLose h.0 step h.1 sound h.2 (losing_step yes' old h.0 step h.3)) stage)

-- announcements and deliveries
pub rests_beside : (i j : ℕ) (s : Station) (steps : List Step) (old new : Fabric) → Rests old steps new
    → RunsBeside i j s old steps new
rests_beside i j s [] old new h = h
rests_beside i j s (Local e event ∷ steps) old new h = absurd h.2
rests_beside i j s (Restart e n ∷ steps) old new h = absurd h.2
rests_beside i j s (other ∷ steps) old new h = (h.0, h.1, h.4, tt, rests_beside i j s steps h.0 new h.5)

-- ---- the beginning of a move

agreed_waits : (f : Fabric) (s : Station) → AgreesOn f s → (i : ℕ) {a : Edge} → IsEdge f i a
    → waiting s a.routes.speaker ≡ []
agreed_waits f s agree i {a} at = filter_none (is_of s) a.routes.speaker.pending
    (λ r in' of. agree.quiet i a r at of in')

-- one event from outside, by which the second edge learns the station
pub record Begins (old : Fabric) (i j : ℕ) (s : Station) (from to : Edge) (new : Fabric) : Type 0 where
  pub after : Edge
  pub learns : LearnsIt to.routes s after.routes
  pub is : new ≡ record old { edges = slice_set old.edges j after }
  pub apart : i ≢ j

module _ {old : Fabric} {i j : ℕ} {s : Station} {new : Fabric} (sound : IsSound old)
    (m : StationComes old i j s new) where
  pub begins : Begins old i j s m.from m.to new
  begins = starts (rw m.at_to at m.step)
    where
      apart : i ≢ j
      apart same =
          let entry = learnt m.from s (sound.good i m.from m.at_from) m.had in
          let some : entry_at m.to.routes.learned s ≡ Some entry.0 =
          subst (λ (e : Edge). entry_at e.routes.learned s ≡ Some entry.0)
          (one_edge old.edges (sym same) m.at_to m.at_from)
          entry.1.learnt in
          cc (m.unknown)

      starts : StepsAt old (suc j) m.to (event_of m.event) m.result new → Begins old i j s m.from m.to new
      starts h =
          let whole : new ≡ record old { edges = slice_set old.edges j h.after } = h.new_is
          ∙ (λ n. record old { edges = slice_set old.edges (minus j n) h.after }) in
          let here : IsEdge new j h.after = rw whole (set_same old.edges j h.after m.at_to) in
          record {
            after = h.after;
            learns = elim ((local_effect m.to m.event h.answer h.after h.steps).learns s m.unknown) [
              | inl none ↦ absurd (let no : IsSome {T = Entry} None =
                  rw (one_edge new.edges {i = j} refl here m.at_after, none) at m.learnt in cc)
              | inr learns ↦ learns
            ];
            is = whole;
            apart = apart;
          }

  abbrev pub plan : Bool → Plan
  plan may = record {
    may = may;
    base = updates_on s old.pool;
    i = i;
    j = j;
    s = s;
    o = address_of m.from;
    q = address_of m.to;
    value = next_value m.to.routes.speaker begins.learns.content;
    apart = begins.apart;
    some = begins.learns.advert;
  }

  pub mid_sound : IsSound new
  mid_sound = step_sound old new (Local (suc j) m.event) m.result m.step sound

  -- an update that each edge knew is still known to each
  pub known_still : (w : Fields) → ((y : ℕ) → Has old y w) → (y : ℕ) → Has new y w
  known_still w has y c at = elim (set_cases old.edges j begins.after y c (rw begins.is at at)) [
    | inl p ↦ rw (p.1, begins.learns.speaker) (said_news (key_of s) begins.learns.content
        (sound.good j m.to m.at_to).routes.numbers w (has j m.to m.at_to))
    | inr p ↦ has y c p.1
  ]

  quiet_aside : (x : ℕ) {c : Edge} → x ≢ i → IsEdge old x c → IsAside old.pool s c.routes.speaker
  quiet_aside x {c} ne at = record {
    quiet = λ r of mine. silent r (station_key s r.key of) mine (advert_of (value_at (table_of c) r)) refl;
    waits = agreed_waits old s m.agree x at;
    away = λ w in' of mine. inl (agreed_known old s m.agree x in' of c at);
  }
    where
      silent : (r : Register) → (ip : Option Ip) × (r.key ≡ Mac s.vni s.mac ip) → r.originator ≡ address_of c
          → (y : Option Advert) → advert_of (value_at (table_of c) r) ≡ y → advert_of (value_at (table_of c) r) ≡ None
      silent r k mine None e = e
      silent r k mine (Some y) e = absurd (ne (station_one s sound m.agree x i c m.from at m.at_from (
        k.0,
        y,
        ap (λ q. advert_of (value_at (table_of c) q)) (λ n. register_of (sym mine n) (sym k.1 n)) ∙ e,
      ) m.had))

  -- the first stage
  pub first_stage : (may : Bool) → Stage (plan may) new.pool new.edges
  first_stage may = subst (λ (f : Fabric). Stage (plan may) f.pool f.edges) (sym begins.is)
      (at_phase (plan may) AtFirst (record {
        grown = sym (append-nil (updates_on s old.pool));
        roles = λ x c at. elim (set_cases old.edges j begins.after x c at) [
          | inl p ↦ rw (p.0, p.1) (New refl (record {
            name = rw begins.learns.speaker;
            own_is = rw begins.learns.speaker (own_same m.to.routes.speaker (key_of s) begins.learns.content);
            waits = rw begins.learns.speaker (marked_first s m.to.routes.speaker.pending
                (own_register m.to.routes.speaker (key_of s)) (agreed_waits old s m.agree j m.at_to)
                (about_station s None));
            known = λ w in' of. inl (rw begins.learns.speaker (said_news (key_of s) begins.learns.content
                (sound.good j m.to m.at_to).routes.numbers w (agreed_known old s m.agree j in' of m.to m.at_to)));
          }))
          | inr p ↦ elim (cases_eq x i) [
            | inl here ↦ rw (here, one_edge old.edges (sym here) m.at_from p.1) (Old refl (record {
              name = refl;
              own_is = ap is_some (advert_bare s (sound.good i m.from m.at_from) m.had).1;
              waits = agreed_waits old s m.agree i m.at_from;
              known = λ w in' of. inl (agreed_known old s m.agree i in' of m.from m.at_from);
            }))
            | inr ne ↦ Other ne p.0 (quiet_aside x ne p.1)
          ]
        ];
        from = set_kept old.edges j begins.after i m.at_from;
        to = set_kept old.edges j begins.after j m.at_to;
      }))

-- ---- the end of a move

some_is : (c : Option Advert) → is_some c ≡ true → (x : Advert) × (c ≡ Some x)
some_is (Some x) is = (x, refl)
some_is None is = cc

module _ (p : Plan) where
  -- the new place advertises the station
  to_advertises : {n : Now} {pool : List Fields} {edges : List Edge} (g : StageOf p n pool edges)
      → Advertises g.to.0 p.s
  to_advertises g = let x = some_in (advert_in p.value.content) p.some in (None, x.0, rw (to_of p g).own_is x.1)

  -- so the old place doesn't, if all agree on it
  pub never_both : {n : Now} {f : Fabric} → IsSound f → AgreesOn f p.s → StageOf p n f.pool f.edges → n.says ≡ true → ⊥
  never_both sound agree g says =
      let y = some_is (own_advert g.from.0.routes.speaker (key_of p.s)) ((from_of p g).own_is ∙ says) in
      p.apart (station_one p.s sound agree p.i p.j g.from.0 g.to.0 g.from.1 g.to.1 (None, y.0, y.1)
      (to_advertises g))

  -- The updates that the pool has got in the end: the withdrawal comes first only if the old place lost the station by
  -- itself.
  record Ends (new : Fabric) : Type 0 where
    withdrawal : Value
    none : advert_in withdrawal.content ≡ None
    is : (updates_on p.s new.pool ≡ p.base ++ u p ∷ update_of (r p) withdrawal ∷ [])
        ⊎ ((p.may ≡ true) × (updates_on p.s new.pool ≡ p.base ++ update_of (r p) withdrawal ∷ u p ∷ []))
    owner : (x : ℕ) (c : Edge) → IsEdge new x c → IsOwner (table_of c) p.s.vni p.s.mac p.q
    gone : (c : Edge) → IsEdge new p.i c → Advertises c p.s → ⊥

  module _ {new : Fabric} (sound : IsSound new) (agree : AgreesOn new p.s) where
    over : {extra : List Fields} → StageOf p (now extra [] [] false) new.pool new.edges → (w : Fields)
        → advert_in w.value.content ≡ None
        → (updates_on p.s new.pool ≡ p.base ++ u p ∷ update_of (r p) w.value ∷ [])
        ⊎ ((p.may ≡ true) × (updates_on p.s new.pool ≡ p.base ++ update_of (r p) w.value ∷ u p ∷ [])) → Ends new
    over g w none is = record {
      withdrawal = w.value;
      none = none;
      is = is;
      owner = λ x c at. rw (to_of p g).name at
          (station_owner p.s sound agree p.j x g.to.0 c g.to.1 at (to_advertises g));
      gone = λ c at says. not_both (ap is_some (advert_bare p.s (sound.good p.i c at) says).1)
          (rw (one_edge new.edges {i = p.i} refl at g.from.1) at (from_of p g).own_is);
    }

    ends : {n : Now} → Phase p n → StageOf p n new.pool new.edges → Ends new
    ends AtTold g = absurd (never_both sound agree g refl)
    ends (AtOver w named none) g = over g w none (inl (rw (← named) g.grown))
    ends (AtBack yes' w named none) g = over g w none (inr (yes', rw (← named) g.grown))
    ends other g = cc (
      agreed_waits new p.s agree p.i g.from.1,
      (from_of p g).waits,
      agreed_waits new p.s agree p.j g.to.1,
      (to_of p g).waits,
    )

  ended : {new : Fabric} → AgreesOn new p.s → Stage p new.pool new.edges × IsSound new → Ends new
  ended agree end = ends end.1 agree end.0.phase end.0.of

pub station_moves : StationMoves
station_moves i j s old mid new steps sound m runs agree = record {
  pool = record {
    advert = p.value;
    withdrawal = e.withdrawal;
    is_advert = p.some;
    is_withdrawal = e.none;
    is = elim e.is [ inl is ↦ is | inr never ↦ cc (never.0) ];
  };
  owner = e.owner;
  gone = e.gone;
}
  where
    p : Plan
    p = plan sound m false

    e : Ends p new
    e = ended p agree (runs_stage p steps new (mid_sound sound m) runs (first_stage sound m false))

pub station_moves_anyhow : StationMovesAnyhow
station_moves_anyhow i j s old mid new steps sound m runs agree = record {
  pool = record {
    advert = p.value;
    withdrawal = e.withdrawal;
    is_advert = p.some;
    is_withdrawal = e.none;
    is = elim e.is [ inl is ↦ inl is | inr is ↦ inr is.1 ];
  };
  owner = e.owner;
  gone = e.gone;
}
  where
    p : Plan
    p = plan sound m true

    e : Ends p new
    e = ended p agree (losing_stage p refl steps new (mid_sound sound m) runs (first_stage sound m true))

-- ---- a station moves in a fabric that agrees on everything: two announcements, and nothing else

-- the elements that fail no test
all_pass : {X : Type 0} (p : X → Bool) (xs : List X) → filter (λ x. not (p x)) xs ≡ [] → filter p xs ≡ xs
all_pass p [] e = refl
all_pass p (x ∷ xs) e = go (p x) (all_pass p xs) e
  where
    go : (b : Bool) → (filter (λ y. not (p y)) xs ≡ [] → filter p xs ≡ xs)
        → cond (not b) (x ∷ filter (λ y. not (p y)) xs) (filter (λ y. not (p y)) xs) ≡ []
        → cond b (x ∷ filter p xs) (filter p xs) ≡ x ∷ xs
    go true rest e = rw (rest e)
    go false rest e = cc

module _ (old : Fabric) (i j : ℕ) (s : Station) (mid : Fabric) (sound : IsSound old)
    (moves : AgreedMoves old i j s mid) where
  abbrev m : StationComes old i j s mid
  m = record {
    agree = (agree_on_each old moves.agree).stations s;
    from = moves.from;
    to = moves.to;
    at_from = moves.at_from;
    at_to = moves.at_to;
    had = moves.had;
    unknown = moves.unknown;
    event = moves.event;
    result = moves.result;
    step = moves.step;
    after = moves.after;
    at_after = moves.at_after;
    learnt = moves.learnt;
  }

  sound_mid : IsSound mid
  sound_mid = step_sound old mid (Local (suc j) moves.event) moves.result moves.step sound

  began : Begins old i j s moves.from moves.to mid
  began = begins sound m

  -- each edge knows the whole pool, so nothing comes back
  knows : (w : Fields) → Contains old.pool w → (y : ℕ) → Has old y w
  knows w in' y c at = let v = moves.agree.arrived y c at w in' in rw v.1 v.2

  pub moved_ready : IsReady mid
  moved_ready = record {
    sound = sound_mid;
    numbers = λ x a at some.
        let none = count_none (may_return mid.pool a.routes.speaker) mid.pool
        (λ u in'. ap (λ b. b && is_latest mid.pool u) (known_stays_away a.routes.speaker u
        (known_still sound m u (knows u (rw began.is at in')) x a
        at))) in
        absurd (omega (arith, none));
  }

  -- ---- nothing of any other register is pending, and nothing will be
  abbrev others : Register → Bool
  others r = not (is_of s r)

  whole : AreWhole others
  whole r o v n ip key = rw key

  agreed : AllCalm others old
  agreed = agreed_calm others (agree_about moves.agree others)

  calm : AllCalm others mid
  calm = rw began.is (calm_set others old.pool old.edges j began.after
      (calm_same (rw began.learns.speaker (says_other others moves.to.routes.speaker (key_of s) began.learns.content
      (ap not (about_station s None)))) (agreed j moves.to moves.at_to)) agreed)

  -- after any announcements and deliveries, when all agree again, the pool has got two updates, and the second edge is
  -- the one owner everywhere
  pub move_ends : (steps : List Step) {new : Fabric} → Rests mid steps new → AllAgree new
      → IsMoved old.pool s (address_of moves.from) (address_of moves.to) new.pool
      × ((x : ℕ) (c : Edge) → IsEdge new x c → IsOwner (table_of c) s.vni s.mac (address_of moves.to))
  move_ends steps {new} rests agree = (
    record {
      advert = e.pool.advert;
      withdrawal = e.pool.withdrawal;
      is_advert = e.pool.is_advert;
      is_withdrawal = e.pool.is_withdrawal;
      is = pool ∙ ap (λ l. old.pool ++ l) more;
    },
    e.owner,
  )
    where
      e : StationMoved old i s (address_of moves.from) (address_of moves.to) new
      e = station_moves i j s old mid new steps sound m (rests_beside i j s steps mid new rests)
          ((agree_on_each new agree).stations s)

      later : IsLaterFabric mid new
      later = runs_lead steps mid new sound_mid (rests_run steps mid new rests)

      pool : new.pool ≡ old.pool ++ later.more
      pool = later.pool ∙ ap (λ (f : Fabric). f.pool ++ later.more) began.is

      rest : List Fields → List Fields
      rest us = filter (λ (u : Fields). others u.register) us

      none : rest later.more ≡ []
      none = append_cancel_left (rest old.pool) (rest later.more) []
          (sym (filter-append (λ (u : Fields). others u.register) old.pool later.more) ∙ ap rest (sym pool)
          ∙ (calm_rests others whole steps new sound_mid rests calm).1
          ∙ ap (λ (f : Fabric). rest f.pool) began.is ∙ sym (append-nil (rest old.pool)))

      more : later.more ≡ update_of (register_of (address_of moves.to) (key_of s)) e.pool.advert
          ∷ update_of (register_of (address_of moves.from) (key_of s)) e.pool.withdrawal ∷ []
      more = append_cancel_left (updates_on s old.pool) later.more _
          (ap (λ l. updates_on s old.pool ++ l)
          (sym (all_pass (on s) later.more none))
          ∙ sym (filter-append (on s) old.pool later.more)
          ∙ ap (updates_on s) (sym pool) ∙ e.pool.is)
