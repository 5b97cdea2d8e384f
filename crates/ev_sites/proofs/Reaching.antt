-- The bridges of a fabric's edges came from their starts by events, each with the limit of `Bridge::event`.
use Rattle.std.proofs.Common.{◌≡◌, inl, inr, ℕ, suc, ◌-◌, ◌<◌, ◌^◌, Bool, true, false, cond, not, ◌&&◌, Option}
use Rattle.std.proofs.Common.{Some, None, Result, Ok, Err, List, [], ◌∷◌, length, refl, ap, ◌∙◌, arith}
use Rattle.std.specs.Prelude.{slice_get, slice_set, ◌==◌}
use Rattle.std.proofs.lemmas.Bool.{cases_eq}
use Rattle.std.proofs.lemmas.Option.{slice_get_within}
use Rattle.ether_wire.specs.Addr.{is_group}
use Rattle.mac_arena.specs.declared.station.Station.{Station}
use Rattle.mac_arena.specs.Learning.{entry_at, is_pinned}
use Rattle.route_wire.specs.Fields.{Fields}
use Rattle.route_join.specs.Table.{is_listed}
use Rattle.rstp_state.specs.declared.start.PortSettings.{PortSettings}
use Rattle.rstp_state.specs.declared.start.Settings.{Settings}
use Rattle.rstp_run.specs.declared.event.Event as tree
use Rattle.rstp_run.specs.declared.event.Event.TheVariants as tree_events
use Rattle.rstp_run.specs.Events.{firings_at, start}
use Rattle.rstp_run.specs.Firings.{ComesByEvents}
use Rattle.rstp_run.specs.RootPort.{Comes}
use Rattle.rstp_run.specs.Rules.{Tree}
use Rattle.rstp_run.specs.Settled.{IsReached}
use Rattle.ev_sites.specs.Network.{IsBridgeAt, IsNetwork}
use Rattle.ev_mobility.specs.declared.alert.Alert.{Alert}
use Rattle.ev_claims.specs.LocalRoutes.{vni_at, after_removal}
use Rattle.ev_edge.specs.declared.arrival.Arrival.{Arrival}
use Rattle.ev_edge.specs.declared.arrival.Arrival.TheVariants.{Dropped, Message, Data}
use Rattle.ev_edge.specs.declared.config.EdgeConfig.{EdgeConfig}
use Rattle.ev_edge.specs.declared.event.Event.{Event}
use Rattle.ev_edge.specs.declared.event.Event.TheVariants as events
use Rattle.ev_edge.specs.declared.pinning.PinCase.{PinCase}
use Rattle.ev_edge.specs.declared.pinning.PinCase.TheVariants as pins
use Rattle.ev_edge.specs.declared.refusal.EdgeRefusal.{EdgeRefusal}
use Rattle.ev_edge.specs.declared.refusal.Refusal as edge
use Rattle.ev_edge.specs.declared.reply.Reply.{Reply}
use Rattle.ev_edge.specs.Arrival.{frame_arrival, tunnel_arrival}
use Rattle.ev_edge.specs.Bridging.{BridgeGoes}
use Rattle.ev_edge.specs.Config.{settings_of}
use Rattle.ev_edge.specs.Edge.{Edge, table_of, address_of}
use Rattle.ev_edge.specs.Opening.{IsOpening}
use Rattle.ev_edge.specs.Pinning.{DoesPin, pin_case, refused_pin, after_unpin}
use Rattle.ev_edge.specs.Storms.{taking_on}
use Rattle.ev_edge.specs.Steps.{Steps, LearnsIf, FrameSteps, TunnelSteps, Bridges, BridgesAt, Seconds, Takes, Pins}
use Rattle.ev_edge.specs.Steps.{Marks}
use Rattle.ev_edge.proofs.Cases.{learnt_by, or_refused}
use Rattle.ev_fabric.specs.declared.refusal.FabricRefusal.{FabricRefusal}
use Rattle.ev_fabric.specs.declared.step.Step.{Step}
use Rattle.ev_fabric.specs.declared.step.Step.TheVariants.{Local, Announce, Deliver, Restart}
use Rattle.ev_fabric.specs.Fabric.{Fabric, IsEdge}
use Rattle.ev_fabric.specs.Local.{event_of}
use Rattle.ev_fabric.specs.Opening.{IsStart}
use Rattle.ev_fabric.specs.Runs.{Runs}
use Rattle.ev_fabric.specs.Sound.{IsSound}
use Rattle.ev_fabric.specs.Steps.{StepsAt, AnnouncesAt, in_incarnation, OpensAnew, RestartsAt, FabricSteps}
use Rattle.ev_fabric.proofs.Places.{set_cases, there_at}
use Rattle.ev_fabric.proofs.Opened.{start_sound}
use Rattle.ev_fabric.proofs.Fabrics.{runs_sound}
use Rattle.ev_fabric.proofs.Cases.{at_edge, at_delivery}
use Rattle.ev_sites.specs.Sites.{Site, IsSiteAt, AreAtRest, NoCircleThroughTunnels}
use Rattle.ev_sites.specs.Fabrics.{BridgesCanBe, EveryRunCanBe, AreSitesOf, SitesRest, NoCircleInAFabric}

-- ---- one edge

-- the bridge came from its start by events, each with the limit of `Bridge::event`
abbrev pub CameByEvents : Settings → List PortSettings → Tree → Type 0
CameByEvents settings ports t = (events : List tree.Event) × ComesByEvents events (start settings ports) t

-- the second bridge came from each start from which the first one came
abbrev pub Goes : Edge → Edge → Type 0
Goes a b =
    (settings : Settings) (ports : List PortSettings) → CameByEvents settings ports a.tree
    → CameByEvents settings ports b.tree

same_tree : (a b : Edge) → b.tree ≡ a.tree → Goes a b
same_tree a b is settings ports h = rw is h

pub stays : (a b : Edge) → b ≡ a → Goes a b
stays a b is = same_tree a b (ap (λ (x : Edge). x.tree) is)

bridge_goes : (a b : Edge) {event : tree.Event} {flush : ℕ} {sent : _} → BridgeGoes event a.tree b.tree flush sent
    → Goes a b
bridge_goes a b {event} {flush} goes settings ports h = (event ∷ h.0, (a.tree, goes.settled, flush, h.1, goes.happens))

learns_go : (x : Bool) (a : Edge) (s : Station) (port : ℕ) (told : Option Alert) (b : Edge) → LearnsIf x a s port told b
    → Goes a b
learns_go x a s port told b h = learnt_by (Goes a) a s port told b (stays a a refl)
    (λ heard. stays a a refl) (stays a a refl) (λ new. stays a a refl) (λ n new. stays a a refl) x h

bridges_go : (event : tree.Event) (a : Edge) (result : Result Reply edge.Refusal) (b : Edge)
    → Bridges event a result b
    → Goes a b
bridges_go event a (Ok reply) b h = bridge_goes a b h.goes
bridges_go event a (Err r) b h = absurd h

bridges_at_go : (vni : Option ℕ) (event : tree.Event) (a : Edge) (result : Result Reply edge.Refusal) (b : Edge)
    → BridgesAt vni event a result b → Goes a b
bridges_at_go None event a result b h = stays a b h.1
bridges_at_go (Some vni) event a result b h = bridges_go event a result b h

seconds_go : (a : Edge) (result : Result Reply edge.Refusal) (b : Edge) → Seconds a result b → Goes a b
seconds_go a (Ok reply) b h = bridge_goes a b h.goes
seconds_go a (Err r) b h = absurd h

frame_goes : (arrival : Result Arrival edge.Refusal) (a : Edge) (port : ℕ)
    (result : Result Reply edge.Refusal)
    (b : Edge) → FrameSteps arrival a port result b → Goes a b
frame_goes (Err r) a port result b h = stays a b h.1
frame_goes (Ok Dropped) a port result b h = stays a b h.1
frame_goes (Ok (Message m)) a port result b h = bridges_go (tree_events.Bpdu port m) a result b h
frame_goes (Ok (Data vni destination source)) a port (Ok reply) b h =
    learns_go (h.learning.learns && not (is_group source)) (taking_on a port vni destination)
    (record { vni = vni; mac = source }) port reply.alert b h.learning.learning
frame_goes (Ok (Data vni destination source)) a port (Err r) b h = absurd h

tunnel_goes : (arrival : Result Arrival edge.Refusal) (a : Edge) (result : Result Reply edge.Refusal)
    (b : Edge)
    → TunnelSteps arrival a result b → Goes a b
tunnel_goes (Err r) a result b h = stays a b h.1
tunnel_goes (Ok Dropped) a result b h = stays a b h.1
tunnel_goes (Ok (Message m)) a result b h = absurd h
tunnel_goes (Ok (Data vni destination source)) a (Ok reply) b h = stays a b h.2
tunnel_goes (Ok (Data vni destination source)) a (Err r) b h = absurd h

takes_go : (x : Bool) (a : Edge) (u : Fields) (result : Result Reply edge.Refusal) (b : Edge)
    → Takes x a u result b
    → Goes a b
takes_go true a u (Ok reply) b h = same_tree a b (ap (λ (x : Edge). x.tree) h.3)
takes_go true a u (Err r) b h = stays a b h.1
takes_go false a u (Ok reply) b h = same_tree a b (ap (λ (x : Edge). x.tree) h.2)
takes_go false a u (Err r) b h = stays a b h.1

does_pin_go : (c : PinCase) (a : Edge) (s : Station) (port : ℕ) (told : Option Alert) (b : Edge)
    → DoesPin c a s port told b → Goes a b
does_pin_go pins.Keep a s port told b h = stays a b h.1
does_pin_go pins.Shift a s port told b h = same_tree a b (ap (λ (x : Edge). x.tree) h.1)
does_pin_go (pins.Deny alert) a s port told b h = stays a b h.1
does_pin_go pins.Pin a s port told b h = or_refused (Goes a) (stays a a refl) (stays a a refl) h

pins_go : (refused : Option EdgeRefusal) (a : Edge) (s : Station) (port : ℕ) (result : Result Reply edge.Refusal)
    (b : Edge) → Pins refused a s port result b → Goes a b
pins_go (Some r) a s port result b h = stays a b h.1
pins_go None a s port (Ok reply) b h = does_pin_go (pin_case a s port) a s port reply.alert b h.0
pins_go None a s port (Err r) b h = absurd h

unpin_tree : (a : Edge) (s : Station) → (after_unpin a s).tree ≡ a.tree
unpin_tree a s =
    elim (is_pinned (entry_at a.routes.learned s)) as (λ x.
    (cond x (record a { routes = after_removal a.routes s }) a).tree ≡ a.tree) [ true ↦ refl | false ↦ refl ]

marks_go : (x : Bool) (a : Edge) (away : List ℕ) (result : Result Reply edge.Refusal) (b : Edge)
    → Marks x a away result b → Goes a b
marks_go true a away result b h = same_tree a b (ap (λ (x : Edge). x.tree) h.1)
marks_go false a away result b h = stays a b h.1

pub steps_go : (a : Edge) (event : Event) (result : Result Reply edge.Refusal) (b : Edge) → Steps a event result b
    → Goes a b
steps_go a (events.Frame port octets) result b h = frame_goes (frame_arrival a port octets.now) a port result b h
steps_go a (events.TunnelFrame from octets) result b h = tunnel_goes (tunnel_arrival a from octets.now) a result b h
steps_go a (events.Take u) result b h = takes_go (u.register.originator == address_of a) a u result b h
steps_go a (events.Pin s port) result b h = pins_go (refused_pin a s port) a s port result b h
steps_go a (events.Unpin s) result b h = same_tree a b (ap (λ (x : Edge). x.tree) h.1 ∙ unpin_tree a s)
steps_go a (events.Thaw s) result b h = same_tree a b (ap (λ (x : Edge). x.tree) h.1)
steps_go a events.Second result b h = seconds_go a result b h
steps_go a (events.PortUp port) result b h = bridges_at_go (vni_at a.routes.ports port) _ a result b h
steps_go a (events.PortDown port) result b h = bridges_at_go (vni_at a.routes.ports port) _ a result b h
steps_go a (events.Mcheck port) result b h = bridges_at_go (vni_at a.routes.ports port) _ a result b h
steps_go a events.Announce result b h = same_tree a b (ap (λ (x : Edge). x.tree) h.1)
steps_go a (events.Away o) result b h = marks_go (is_listed (table_of a) o) a _ result b h
steps_go a (events.Back o) result b h = marks_go (is_listed (table_of a) o) a _ result b h

-- ---- a fabric

-- the edge's bridge came from the start with which this configuration opens an edge
abbrev pub Came : EdgeConfig → Edge → Type 0
Came c a = CameByEvents c.tree (settings_of c.ports.items) a.tree

-- each edge's bridge came from the start with which the edge was opened
abbrev pub BridgesCame : Fabric → Type 0
BridgesCame f =
    (i : ℕ) (c : EdgeConfig) (a : Edge) → slice_get f.configs i ≡ Some c → IsEdge f i a
    → Came c a

pub opening_came : {c : EdgeConfig} {a : Edge} → IsOpening c a → Came c a
opening_came h = ([], h.tree)

-- one edge becomes another one, which was opened as the one before
one_goes : (old new : Fabric) (i : ℕ) {a : Edge} (b : Edge) → IsEdge old i a → new.edges ≡ slice_set old.edges i b
    → new.configs ≡ old.configs → Goes a b → BridgesCame old → BridgesCame new
one_goes old new i {a} b at edges configs goes h j c x at_c at_x =
    elim (set_cases old.edges i b j x (rw edges at at_x)) [
      | inl p ↦ rw p.1 (goes c.tree (settings_of c.ports.items) (h i c a (rw p.0 at was) at))
      | inr p ↦ h j c x was p.1
    ]
  where
    was : slice_get old.configs j ≡ Some c
    was = rw configs at at_c

back : (i : ℕ) → suc i - 1 ≡ i
back i = omega arith

unchanged : (old new : Fabric) → new ≡ old → BridgesCame old → BridgesCame new
unchanged old new is h = rw is h

steps_at : {old new : Fabric} {i : ℕ} {a : Edge} {event : Event} {result : Result Reply FabricRefusal} → IsEdge old i a
    → StepsAt old (suc i) a event result new → BridgesCame old → BridgesCame new
steps_at {old} {new} {i} {a} {event} at s h =
    one_goes old new i s.after at
    (ap (λ (f : Fabric). f.edges) s.new_is ∙ rw (back i))
    (ap (λ (f : Fabric). f.configs) s.new_is) (steps_go a event s.answer s.after s.steps) h

announces_at : (old new : Fabric) (i : ℕ) {a : Edge} (result : Result Reply FabricRefusal) → IsEdge old i a
    → AnnouncesAt old (suc i) a result new → BridgesCame old → BridgesCame new
announces_at old new i (Err why) at s h = unchanged old new s.1 h
announces_at old new i {a} (Ok reply) at s h =
    one_goes old new i s.0 at (ap (λ (f : Fabric). f.edges) s.2 ∙ rw (back i))
    (ap (λ (f : Fabric). f.configs) s.2) (steps_go a events.Announce (Ok reply) s.0 s.1) h

reopened : {old new : Fabric} {i : ℕ} {a : Edge} {n : ℕ} {reply : Reply} → OpensAnew old (suc i) a n reply new
    → BridgesCame old → BridgesCame new
reopened {old} {new} {i} {n} s h j c x at_c at_x =
    elim (set_cases old.edges i s.after j x (rw edges at at_x)) [
      | inl p ↦ elim (set_cases old.configs i (in_incarnation s.config n) j c
          (rw configs at at_c)) [
            | inl q ↦
                rw q.1 (rw p.1 (opening_came s.opened))
            | inr q ↦ absurd (q.0 p.0)
          ]
      | inr p ↦ elim (set_cases old.configs i (in_incarnation s.config n) j c
          (rw configs at at_c)) [
            | inl q ↦ absurd (p.0 q.0)
            | inr q ↦ h j c x q.1 p.1
          ]
    ]
  where
    edges : new.edges ≡ slice_set old.edges i s.after
    edges = ap (λ (f : Fabric). f.edges) s.new_is ∙ rw (back i)

    configs : new.configs ≡ slice_set old.configs i (in_incarnation s.config n)
    configs = ap (λ (f : Fabric). f.configs) s.new_is ∙ rw (back i)

restarts_at : (old new : Fabric) (i : ℕ) (a : Edge) (n : ℕ) (result : Result Reply FabricRefusal)
    → RestartsAt old (suc i) a n result new → BridgesCame old → BridgesCame new
restarts_at old new i a n (Err why) s h = unchanged old new s.1 h
restarts_at old new i a n (Ok reply) s h = reopened s h

step_came : (old new : Fabric) (step : Step) (result : Result Reply FabricRefusal) → FabricSteps old step result new
    → BridgesCame old → BridgesCame new
step_came old new (Local e event) result s h =
    at_edge (BridgesCame new) old new result (λ e a. StepsAt old e a (event_of event) result new) e s
    (λ is. unchanged old new is.1 h) (λ i a _ at s. steps_at at s h)
step_came old new (Announce e) result s h =
    at_edge (BridgesCame new) old new result (λ e a. AnnouncesAt old e a result new) e s
    (λ is. unchanged old new is.1 h) (λ i a _ at s. announces_at old new i result at s h)
step_came old new (Deliver e k) result s h =
    at_delivery (BridgesCame new) old new result e k s (λ why is. unchanged old new is.1 h)
    (λ i a n u _ _ at there s. steps_at at s h)
step_came old new (Restart e n) result s h =
    at_edge (BridgesCame new) old new result (λ e a. RestartsAt old e a n result new) e s
    (λ is. unchanged old new is.1 h) (λ i a _ at s. restarts_at old new i a n result s h)

runs_came : (steps : List Step) (old new : Fabric) → Runs old steps new → BridgesCame old → BridgesCame new
runs_came [] old new s h = unchanged old new s h
runs_came (step ∷ steps) old new s h = runs_came steps s.0 new s.3 (step_came old s.0 step s.1 s.2 h)

start_came : {cs : List EdgeConfig} {f : Fabric} → IsStart cs f → BridgesCame f
start_came h i c a at_c at_a =
    opening_came (h.opened.opened i c a (rw h.configs at at_c) at_a)

pub every_run_came : {cs : List EdgeConfig} {old : Fabric} (new : Fabric) (steps : List Step) → IsStart cs old
    → Runs old steps new → BridgesCame new
every_run_came {cs} {old} new steps start runs = runs_came steps old new runs (start_came start)

-- the limit of each event may be any
comes_at_all : (events : List tree.Event) (s t : Tree) → ComesByEvents events s t → Comes events s t
comes_at_all [] s t h = h
comes_at_all (event ∷ earlier) s t (mid, settled, mask, before, happens) =
    (mid, firings_at mid, settled, mask, comes_at_all earlier s mid before, happens)

pub every_run_can_be : EveryRunCanBe
every_run_can_be cs old new steps opened runs i c a at_c at_a =
    let came = every_run_came new steps opened runs i c a at_c at_a in
    (came.0, comes_at_all came.0 (start c.tree (settings_of c.ports.items)) a.tree came.1)

-- ---- the sites of its edges

-- an edge has the configuration with which it was opened last
pub opened_with : {f : Fabric} → IsSound f → (i : ℕ) (a : Edge) → IsEdge f i a
    → (c : EdgeConfig) × (slice_get f.configs i ≡ Some c)
opened_with {f} h i a at =
    there_at f.configs i (omega (arith, slice_get_within f.edges i a at, h.count))

-- an edge's bridge came from its start by events
reached : (f : Fabric) → IsSound f → BridgesCanBe f → (i : ℕ) (a : Edge) → IsEdge f i a → IsReached a.tree
reached f h can i a at =
    let c = opened_with h i a at in
    (c.0.tree, settings_of c.0.ports.items, can i c.0 a c.1 at)

module _ (f : Fabric) (sites : List Site) (h : IsSound f) (can : BridgesCanBe f) (of : AreSitesOf f sites)
    (rest : SitesRest sites) (i : ℕ) (s : Site) (at : IsSiteAt sites i s) where
  -- the edge's own bridge
  mine : (b : ℕ) (t : Tree) → b ≡ s.attached → IsBridgeAt s.net b t → t ≡ (of i s at).0.tree
  mine b t same is = one_bridge (rw same at is) (of i s at).2.bridge
    where
      one_bridge : {t u : Tree} → IsBridgeAt s.net s.attached t → IsBridgeAt s.net s.attached u → t ≡ u
      one_bridge p q = cc

  fits : (t : Tree) → t ≡ (of i s at).0.tree → length t.ports < 2 ^ 12
  fits t is =
      let good = h.good i (of i s at).0 (of i s at).1 in
      omega (arith, (ap (λ (x : Tree). length x.ports) is), good.keeps.ports, good.routes.routes.few)

  network : IsNetwork s.net
  network = record {
    reached = λ b t is. elim (cases_eq b s.attached) [
      | inl same ↦ rw (mine b t same is) (reached f h can i (of i s at).0 (of i s at).1)
      | inr other ↦ rest.others i s at b t other is
    ];
    few = λ b t is. elim (cases_eq b s.attached) [
      | inl same ↦ fits t (mine b t same is)
      | inr other ↦ rest.few i s at b t other is
    ];
    distinct = rest.distinct i s at;
  }

sites_at_rest : (f : Fabric) (sites : List Site) → IsSound f → BridgesCanBe f → AreSitesOf f sites → SitesRest sites
    → AreAtRest sites
sites_at_rest f sites h can of rest =
    record { networks = λ i s at. network f sites h can of rest i s at; rest = rest.rest }

pub no_circle_in_a_fabric : NoCircleThroughTunnels → NoCircleInAFabric
no_circle_in_a_fabric no_circle cs old new steps fit start runs sites of rest x points goes =
    no_circle sites (sites_at_rest new sites (runs_sound steps old new runs (start_sound cs old fit start))
    (every_run_can_be cs old new steps start runs) of rest) x points goes
