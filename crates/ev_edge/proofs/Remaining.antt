-- An edge stays good at each event: a consequence of the relation of edge, event, answer and next edge.
use Rattle.std.proofs.Common.{◌≡◌, ℕ, ◌<◌, ◌^◌, Bool, true, false, cond, eqb, not, ◌&&◌}
use Rattle.std.proofs.Common.{Option, Some, None, Result, Ok, Err, List, drop, length, refl, sym, ap}
use Rattle.std.proofs.Common.{◌∙◌, arith}
use Rattle.std.specs.Prelude.{IsSome}
use Rattle.std.specs.FinMap.{FinMap}
use Rattle.std.proofs.lemmas.List.{length-map}
use Rattle.std.proofs.lemmas.Bool.{false≢true}
use Rattle.std.proofs.lemmas.Bool.Decides.{nat_tests}
use Rattle.std.proofs.lemmas.Bool.{cases_Bool}
use Rattle.std.proofs.lemmas.Option.{none-some}
use Rattle.std.proofs.Common.{inl, inr}
use Rattle.ether_wire.specs.Addr.{is_group}
use Rattle.ether_wire.specs.Frame.{frame_of, destination_of, payload_of}
use Rattle.ether_wire.specs.declared.frame.FrameRefusal.{FrameRefusal}
use Rattle.ether_wire.specs.Ports.{place_of_port}
use Rattle.bpdu_wire.specs.Reading.{reading}
use Rattle.bpdu_wire.specs.declared.bpdu.Bpdu.{Bpdu}
use Rattle.bpdu_wire.specs.declared.refusal.BpduRefusal as bpdu
use Rattle.route_wire.specs.Fields.{Fields}
use Rattle.route_join.specs.Table.{is_listed}
use Rattle.mac_arena.specs.declared.station.Station.{Station}
use Rattle.mac_arena.specs.declared.station.Entry.{Entry}
use Rattle.mac_arena.specs.Station.{station_cmp}
use Rattle.mac_arena.specs.Learning.{entry_at, is_full, is_pinned}
use Rattle.rstp_state.specs.declared.port.PortState.{PortState}
use Rattle.rstp_run.specs.declared.event.Event as tree
use Rattle.rstp_run.specs.declared.event.Event.TheVariants as tree_events
use Rattle.rstp_run.specs.Events.{direct, ports_at}
use Rattle.rstp_run.specs.Rules.{Tree}
use Rattle.rstp_run.specs.Runs.{Firing, Run}
use Rattle.rstp_run.proofs.Steps.{length-change_at}
use Rattle.ev_mobility.specs.declared.alert.Alert.{Alert}
use Rattle.ev_mobility.specs.declared.window.Window.{Window}
use Rattle.ev_claims.specs.LocalRoutes.{LocalRoutes, vni_at, after_advert, after_refresh, after_pin, after_shift}
use Rattle.ev_claims.specs.LocalRoutes.{after_removal}
use Rattle.ev_claims.specs.LocalRoutes.{after_take, after_own, after_announcement}
use Rattle.ev_claims.specs.Leaving.{after_flush, flushed_in}
use Rattle.ev_edge.specs.declared.arrival.Arrival.{Arrival}
use Rattle.ev_edge.specs.declared.arrival.Arrival.TheVariants.{Dropped, Message, Data}
use Rattle.ev_edge.specs.declared.event.Event.{Event}
use Rattle.ev_edge.specs.declared.event.Event.TheVariants as events
use Rattle.ev_edge.specs.declared.pinning.PinCase.{PinCase}
use Rattle.ev_edge.specs.declared.pinning.PinCase.TheVariants.{Keep, Shift, Deny, Pin}
use Rattle.ev_edge.specs.declared.refusal.EdgeRefusal.{EdgeRefusal}
use Rattle.ev_edge.specs.declared.refusal.Refusal.{Refusal}
use Rattle.ev_edge.specs.declared.reply.Reply.{Reply}
use Rattle.ev_edge.specs.Arrival.{port_arrival, frame_arrival, tunnel_arrival, arrival_on, arrival_at, reserved_arrival}
use Rattle.ether_wire.specs.Addr.{is_reserved}
use Rattle.ev_edge.specs.Arrival.{message_in, data_in, holds_bpdu, is_up}
use Rattle.ev_edge.specs.Away.{with_away, with_back}
use Rattle.ev_edge.specs.Bridging.{next_second, aged}
use Rattle.ev_edge.specs.declared.storms.Storm.{Storm}
use Rattle.ev_edge.specs.Edge.{Edge, IsGoodEdge, AreListed, table_of, address_of}
use Rattle.ev_edge.specs.Learning.{is_spent}
use Rattle.ev_edge.specs.Pinning.{unpinned_case, pin_case_at, pin_case, refused_pin, DoesPin, after_unpin}
use Rattle.ev_edge.specs.Storms.{storms_with, taking_on}
use Rattle.ev_edge.specs.Steps.{Steps, LearnsIf, FrameSteps, TunnelSteps, Bridges, BridgesAt, Seconds, Takes}
use Rattle.ev_edge.specs.Steps.{Pins, Marks}
use Rattle.ev_edge.proofs.Marking.{away_listed, back_listed}
use Rattle.ev_edge.specs.Learning.{quotas_with}
use Rattle.ev_edge.proofs.Cases.{IsNew, learnt_by, or_refused}
use Rattle.ev_edge.proofs.Admitting.{of_admitted}
use Rattle.ev_edge.proofs.Quotas.{later_kept, quotas_kept}
use Rattle.ev_edge.proofs.Keeping.{removals_ports, taken_ports, second_early, aged_ports}
use Rattle.ev_edge.proofs.Keeping.{ListsAs, removals_list, taken_list, own_list, aged_list, listed_still}
use Rattle.ev_edge.proofs.Winning.{pin_fits, pinned_alone}
use Rattle.ev_edge.proofs.Staying.{Keeps, keeps_of, good_by, advert_keeps, refresh_keeps, pin_keeps, shift_keeps}
use Rattle.ev_edge.proofs.Staying.{removal_keeps, flush_keeps, aged_keeps, later_keeps, other_keeps, own_keeps}
use Rattle.ev_edge.proofs.Staying.{announced_keeps}
use Rattle.rstp_run.proofs.Within.{run_length}

same_good : (e e' : Edge) → e' ≡ e → IsGoodEdge e → IsGoodEdge e'
same_good e e' is h = rw is h

-- other local routes, of the same ports
routes_good : (e e' : Edge) (c : LocalRoutes) → IsGoodEdge e → Keeps c e.clock → c.ports ≡ e.routes.ports
    → ListsAs c e.routes → e' ≡ record e { routes = c } → IsGoodEdge e'
routes_good e e' c h k ports same is = rw is (good_by (record e { routes = c }) k (h.keeps.ports ∙ sym (ap length
    ports)) h.keeps.early
    (listed_still e c h.keeps.away same) h.keeps.quotas)

windows_good : (e : Edge) (windows : FinMap station_cmp Window) → IsGoodEdge e
    → IsGoodEdge (record e { windows = windows })
windows_good e windows h = good_by (record e { windows = windows }) (keeps_of e h) h.keeps.ports h.keeps.early
    h.keeps.away h.keeps.quotas

-- other counts of storms
storms_good : (e : Edge) (storms : List Storm) → IsGoodEdge e → IsGoodEdge (record e { storms = storms })
storms_good e storms h = good_by (record e { storms = storms }) (keeps_of e h) h.keeps.ports h.keeps.early h.keeps.away
    h.keeps.quotas

-- other edges are away
marks_good : (e : Edge) (away : List ℕ) (result : Result Reply Refusal) (e' : Edge) → IsGoodEdge e
    → AreListed away (table_of e) → (b : Bool) → Marks b e away result e' → IsGoodEdge e'
marks_good e away result e' h listed true d = rw d.1 (good_by (record e { away = away }) (keeps_of e h) h.keeps.ports
    h.keeps.early listed
    h.keeps.quotas)
marks_good e away result e' h listed false d = same_good e e' d.1 h

number_left : (c : LocalRoutes) → is_spent c ≡ false → c.speaker.counter < 2 ^ 63
number_left c few = grind (arith, nat_tests)

-- ---- learning

advert_good : (e : Edge) (s : Station) (port n : ℕ) (windows : FinMap station_cmp Window) → IsGoodEdge e
    → vni_at e.routes.ports port ≡ Some s.vni → is_group s.mac ≡ false → IsNew e s port n
    → IsGoodEdge (record e {
      routes = after_advert e.routes s port e.clock n;
      windows = windows;
      quotas = quotas_with e s port;
    })
advert_good e s port n windows h behind single new = good_by _
    (advert_keeps e.routes s port e.clock n (keeps_of e h) new.none new.room (number_left e.routes new.few) behind
    single new.next) h.keeps.ports h.keeps.early h.keeps.away (quotas_kept e s port h.keeps.quotas new.calm)

learns_good : (e : Edge) (s : Station) (port : ℕ) (told : Option Alert) (e' : Edge) → IsGoodEdge e
    → vni_at e.routes.ports port ≡ Some s.vni → (learns group : Bool) → is_group s.mac ≡ group
    → LearnsIf (learns && not group) e s port told e' → IsGoodEdge e'
learns_good e s port told e' h behind true false single d = learnt_by IsGoodEdge e s port told e' h
    (λ heard. routes_good e _ (after_refresh e.routes s port e.clock) h
    (refresh_keeps e.routes s port e.clock (keeps_of e h) heard.known heard.loose behind single) refl refl refl)
    (windows_good e _ h) (advert_good e s port 0 e.windows h behind single)
    (λ n. advert_good e s port n _ h behind single) true d
learns_good e s port told e' h behind true true single d = same_good e e' d.1 h
learns_good e s port told e' h behind false group single d = same_good e e' d.1 h

-- ---- the bridge

direct_length : (event : tree.Event) (ports : List PortState) → length (ports_at event ports) ≡ length ports
direct_length (tree_events.Bpdu p message) ports = length-change_at (place_of_port p) _ ports
direct_length tree_events.Second ports = length-map ports _
direct_length (tree_events.PortUp p) ports = length-change_at (place_of_port p) _ ports
direct_length (tree_events.PortDown p) ports = length-change_at (place_of_port p) _ ports
direct_length (tree_events.Mcheck p) ports = length-change_at (place_of_port p) _ ports

goes_length : (event : tree.Event) (old new : Tree) (firings : List Firing) → Run firings (direct event old) new
    → length new.ports ≡ length old.ports
goes_length event old new firings run = run_length firings (direct event old) new run ∙ direct_length event _
    ∙ length-map old.ports _

bridges_good : (event : tree.Event) (e : Edge) (result : Result Reply Refusal) (e' : Edge) → IsGoodEdge e
    → Bridges event e result e' → IsGoodEdge e'
bridges_good event e (Ok reply) e' h d =
    rw d.after (good_by _ (flush_keeps e.routes d.flush e.clock (keeps_of e h))
    (goes_length event e.tree e'.tree d.goes.happens.firings d.goes.happens.run ∙ h.keeps.ports
    ∙ sym (ap length (removals_ports e.routes (flushed_in e.routes.learned d.flush)))) h.keeps.early
    (listed_still e (after_flush e.routes d.flush) h.keeps.away
    (removals_list e.routes (flushed_in e.routes.learned d.flush))) h.keeps.quotas)
bridges_good event e (Err r) e' h d = absurd d

bridges_at_good : (vni : Option ℕ) (event : tree.Event) (e : Edge) (result : Result Reply Refusal) (e' : Edge)
    → IsGoodEdge e → BridgesAt vni event e result e' → IsGoodEdge e'
bridges_at_good None event e result e' h d = same_good e e' d.1 h
bridges_at_good (Some vni) event e result e' h d = bridges_good event e result e' h d

seconds_good : (e : Edge) (result : Result Reply Refusal) (e' : Edge) → IsGoodEdge e → Seconds e result e'
    → IsGoodEdge e'
seconds_good e (Err r) e' h d = absurd d
seconds_good e (Ok reply) e' h d =
    let times = second_early e.clock h.keeps.early in
    rw d.after (good_by _ (aged_keeps (after_flush e.routes d.flush) e.ageing (next_second e.clock)
    (later_keeps (after_flush e.routes d.flush) e.clock (next_second e.clock) times.0
    (flush_keeps e.routes d.flush e.clock (keeps_of e h))))
    (goes_length tree_events.Second e.tree e'.tree d.goes.happens.firings d.goes.happens.run ∙ h.keeps.ports
    ∙ sym (ap length (aged_ports (after_flush e.routes d.flush) e.ageing (next_second e.clock)
    ∙ removals_ports e.routes (flushed_in e.routes.learned d.flush)))) times.1
    (listed_still e (aged (after_flush e.routes d.flush) e.ageing (next_second e.clock)) h.keeps.away
    (aged_list (after_flush e.routes d.flush) e.ageing (next_second e.clock)
    ∙ removals_list e.routes (flushed_in e.routes.learned d.flush)))
    (later_kept e.quotas e.clock (next_second e.clock) times.0 h.keeps.quotas))

-- ---- frames

-- a frame of a network came at a port of it
pub data_port_of : (e : Edge) (port : ℕ) (octets : List ℕ) (vni destination source : ℕ)
    → port_arrival e port octets ≡ Ok (Data vni destination source) → vni_at e.routes.ports port ≡ Some vni
data_port_of e port octets vni destination source is = go (vni_at e.routes.ports port) refl is
  where
    reserved : (b : Bool) (r : Result Bpdu bpdu.BpduRefusal)
        → cond b (message_in r) (Ok Dropped) ≡ Ok (Data vni destination source) → ⊥
    reserved true (Ok m) q = cc
    reserved true (Err r) q = cc
    reserved false r q = cc

    of_data : (v : ℕ) (frame : List ℕ) (b : Bool) → cond b (reserved_arrival frame) (Ok (data_in v frame))
        ≡ Ok (Data vni destination source) → v ≡ vni
    of_data v frame true q = absurd (reserved (holds_bpdu frame) (reading (drop 3 (payload_of frame))) q)
    of_data v frame false q = cc

    at_port : (v : ℕ) (up : Bool) (f : Result (List ℕ) FrameRefusal)
        → arrival_at up v f ≡ Ok (Data vni destination source) → v ≡ vni
    at_port v up (Err r) q = cc
    at_port v true (Ok frame) q = of_data v frame (is_reserved (destination_of frame)) q
    at_port v false (Ok frame) q = cc

    go : (o : Option ℕ) → vni_at e.routes.ports port ≡ o
        → arrival_on o (is_up e.tree port) octets ≡ Ok (Data vni destination source)
        → vni_at e.routes.ports port ≡ Some vni
    go None at q = cc
    go (Some v) at q = at ∙ ap Some (at_port v (is_up e.tree port) (frame_of octets) q)

-- also within the storm limit of the port
pub data_port : (e : Edge) (port : ℕ) (octets : List ℕ) (vni destination source : ℕ)
    → frame_arrival e port octets ≡ Ok (Data vni destination source) → vni_at e.routes.ports port ≡ Some vni
data_port e port octets vni destination source is =
    data_port_of e port octets vni destination source
    (of_admitted (port_arrival e port octets) e port vni destination source is)

frame_good : (arrival : Result Arrival Refusal) (e : Edge) (port : ℕ) (result : Result Reply Refusal) (e' : Edge)
    → IsGoodEdge e → ((vni destination source : ℕ) → arrival ≡ Ok (Data vni destination source)
    → vni_at e.routes.ports port ≡ Some vni)
    → FrameSteps arrival e port result e' → IsGoodEdge e'
frame_good (Err r) e port result e' h at d = same_good e e' d.1 h
frame_good (Ok Dropped) e port result e' h at d = same_good e e' d.1 h
frame_good (Ok (Message b)) e port result e' h at d = bridges_good _ e result e' h d
frame_good (Ok (Data vni destination source)) e port (Ok reply) e' h at d =
    learns_good (taking_on e port vni destination) (record { vni = vni; mac = source }) port reply.alert e'
    (storms_good e (storms_with e port vni destination) h) (at vni destination source refl)
    d.learning.learns (is_group source) refl d.learning.learning
frame_good (Ok (Data vni destination source)) e port (Err r) e' h at d = absurd d

-- the octets of a frame at a port
pub frame_stays : (e : Edge) (port : ℕ) (octets : List ℕ) (result : Result Reply Refusal) (e' : Edge) → IsGoodEdge e
    → FrameSteps (frame_arrival e port octets) e port result e' → IsGoodEdge e'
frame_stays e port octets result e' h d = frame_good (frame_arrival e port octets) e port result e' h
    (data_port e port octets) d

tunnel_good : (arrival : Result Arrival Refusal) (e : Edge) (result : Result Reply Refusal) (e' : Edge) → IsGoodEdge e
    → TunnelSteps arrival e result e' → IsGoodEdge e'
tunnel_good (Err r) e result e' h d = same_good e e' d.1 h
tunnel_good (Ok Dropped) e result e' h d = same_good e e' d.1 h
tunnel_good (Ok (Message b)) e result e' h d = absurd d
tunnel_good (Ok (Data vni destination source)) e (Ok reply) e' h d = same_good e e' d.2 h
tunnel_good (Ok (Data vni destination source)) e (Err r) e' h d = absurd d

-- ---- updates and pins

takes_good : (e : Edge) (u : Fields) (result : Result Reply Refusal) (e' : Edge) → IsGoodEdge e → (b : Bool)
    → eqb u.register.originator (address_of e) ≡ b → Takes b e u result e' → IsGoodEdge e'
takes_good e u (Ok reply) e' h true t d = routes_good e e' (after_own e.routes u) h
    (own_keeps e.routes u e.clock (grind (arith, nat_tests)) d.0 d.1 (keeps_of e h)) refl
    (own_list e.routes u) d.3
takes_good e u (Err r) e' h true t d = same_good e e' d.1 h
takes_good e u (Ok reply) e' h false t d = routes_good e e' (after_take e.routes u) h
    (other_keeps e.routes u e.clock (λ same. grind (arith, nat_tests)) (keeps_of e h)) (taken_ports e.routes u)
    (taken_list e.routes u) d.2
takes_good e u (Err r) e' h false t d = same_good e e' d.1 h

-- a newly pinned station finds a number, and a place
record IsPinnable (e : Edge) (s : Station) : Type 0 where
  few : is_spent e.routes ≡ false
  room : entry_at e.routes.learned s ≡ None → is_full e.routes.learned ≡ false

unpinned_fits : (e : Edge) (s : Station) (known : Bool) → unpinned_case e s known ≡ Pin
    → (is_spent e.routes ≡ false) × ((not known && is_full e.routes.learned) ≡ false)
unpinned_fits e s known is = (grind (arith, is), grind (arith, is))

pinnable : (e : Edge) (s : Station) (port : ℕ) (o : Option Entry) → entry_at e.routes.learned s ≡ o
    → pin_case_at e s port o ≡ Pin → IsPinnable e s
pinnable e s port None at is = let f = unpinned_fits e s false is in record { few = f.0; room = λ none. f.1 }
pinnable e s port (Some x) at is =
    let f = unpinned_fits e s true (grind (arith, is)) in
    record { few = f.0; room = λ none. absurd (none-some x (sym none ∙ at)) }

-- a station that goes to another port is pinned
shifts_pinned : (e : Edge) (s : Station) (port : ℕ) (o : Option Entry) → pin_case_at e s port o ≡ Shift
    → is_pinned o ≡ true
shifts_pinned e s port None is = grind (arith, is)
shifts_pinned e s port (Some x) is = grind (arith, is)

does_pin_good : (e : Edge) (s : Station) (port : ℕ) (told : Option Alert) (e' : Edge) → IsGoodEdge e
    → refused_pin e s port ≡ None → (c : PinCase) → pin_case e s port ≡ c → DoesPin c e s port told e' → IsGoodEdge e'
does_pin_good e s port told e' h free Keep is d = same_good e e' d.1 h
does_pin_good e s port told e' h free Shift is d =
    let fits = pin_fits e s port free in
    routes_good e e' (after_shift e.routes s port) h (shift_keeps e.routes s port e.clock (keeps_of e h)
    (shifts_pinned e s port (entry_at e.routes.learned s) is) fits.0 fits.1) refl refl d.1
does_pin_good e s port told e' h free (Deny alert) is d = same_good e e' d.1 h
does_pin_good e s port told e' h free Pin is d =
    let fits = pin_fits e s port free in
    let f = pinnable e s port (entry_at e.routes.learned s) refl is in
    let alone = pinned_alone e s port (entry_at e.routes.learned s) is in
    or_refused IsGoodEdge h
    (routes_good e _ (after_pin e.routes s port) h (pin_keeps e.routes s port e.clock (keeps_of e h) f.room
    (number_left e.routes f.few) fits.0 fits.1 alone) refl refl refl) d

pins_good : (e : Edge) (s : Station) (port : ℕ) (result : Result Reply Refusal) (e' : Edge) → IsGoodEdge e
    → (refused : Option EdgeRefusal) → refused_pin e s port ≡ refused → Pins refused e s port result e' → IsGoodEdge e'
pins_good e s port result e' h (Some r) is d = same_good e e' d.1 h
pins_good e s port (Ok reply) e' h None is d = does_pin_good e s port reply.alert e' h is (pin_case e s port) refl d.0
pins_good e s port (Err r) e' h None is d = absurd d

unpin_good : (e : Edge) (s : Station) → IsGoodEdge e → IsGoodEdge (after_unpin e s)
unpin_good e s h = elim (cases_Bool (is_pinned (entry_at e.routes.learned s))) [
  | inl pinned ↦ rw pinned (routes_good e _ (after_removal e.routes s) h
      (removal_keeps e.routes s e.clock (keeps_of e h) (known (entry_at e.routes.learned s) pinned)) refl refl refl)
  | inr free ↦ rw free h
]
  where
    known : (o : Option Entry) → is_pinned o ≡ true → IsSome o
    known None is = absurd (false≢true is)
    known (Some x) is = refl

-- ---- all events

pub steps_good : (e : Edge) (event : Event) (result : Result Reply Refusal) (e' : Edge) → IsGoodEdge e
    → Steps e event result e' → IsGoodEdge e'
steps_good e (events.Frame port octets) result e' h d =
    frame_good (frame_arrival e port octets.now) e port result e' h (data_port e port octets.now) d
steps_good e (events.TunnelFrame from octets) result e' h d =
    tunnel_good (tunnel_arrival e from octets.now) e result e' h d
steps_good e (events.Take u) result e' h d = takes_good e u result e' h (eqb u.register.originator (address_of e)) refl
    d
steps_good e (events.Pin s port) result e' h d = pins_good e s port result e' h (refused_pin e s port) refl d
steps_good e (events.Unpin s) result e' h d = same_good _ e' d.1 (unpin_good e s h)
steps_good e (events.Thaw s) result e' h d = same_good _ e' d.1 (windows_good e _ h)
steps_good e events.Second result e' h d = seconds_good e result e' h d
steps_good e (events.PortUp port) result e' h d = bridges_at_good (vni_at e.routes.ports port) _ e result e' h d
steps_good e (events.PortDown port) result e' h d = bridges_at_good (vni_at e.routes.ports port) _ e result e' h d
steps_good e (events.Mcheck port) result e' h d = bridges_at_good (vni_at e.routes.ports port) _ e result e' h d
steps_good e events.Announce result e' h d = routes_good e e' (after_announcement e.routes) h
    (announced_keeps e.routes e.clock (keeps_of e h)) refl refl d.1
steps_good e (events.Away a) result e' h d = marks_good e (with_away (table_of e).originators e.away a) result e' h
    (away_listed (table_of e).originators e.away a) (is_listed (table_of e) a) d
steps_good e (events.Back a) result e' h d = marks_good e (with_back e.away a) result e' h
    (back_listed (table_of e).originators e.away a h.keeps.away) (is_listed (table_of e) a) d
