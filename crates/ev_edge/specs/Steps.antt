-- The effect of an event on an edge, and its answer: a table by event and answer.
use Rattle.std.specs.Prelude.{◌≡◌, ◌⊎◌, ◌↔◌, ℕ, ◌==◌, ◌&&◌, Bool, true, false, not, IsTrue, Option, Some, None, Result}
use Rattle.std.specs.Prelude.{Ok, Err, List, [], if◌then◌else◌}
use Rattle.ether_wire.specs.Addr.{is_group}
use Rattle.route_wire.specs.Fields.{Fields}
use Rattle.route_join.specs.Table.{is_listed, value_at}
use Rattle.route_join.specs.Taken.{taken_of}
use Rattle.mac_arena.specs.declared.station.Station.{Station}
use Rattle.ev_tunnel.specs.declared.decision.Source.{Source}
use Rattle.ev_tunnel.specs.declared.decision.Source.TheVariants.{Port, Tunnel}
use Rattle.ev_tunnel.specs.declared.decision.Decision.{Decision}
use Rattle.ev_mobility.specs.declared.alert.Alert.{Alert}
use Rattle.ev_mobility.specs.declared.alert.Alert.TheVariants.{LostStatic}
use Rattle.rstp_run.specs.declared.event.Event as tree
use Rattle.rstp_run.specs.declared.event.Event.TheVariants as tree_events
use Rattle.rstp_run.specs.Events.{Learns, Passes}
use Rattle.ev_claims.specs.Speaker.{announced, is_ahead, is_spent, is_returning}
use Rattle.ev_claims.specs.LocalRoutes.{vni_at, after_take, after_own, after_announcement, loses_pinned}
use Rattle.ev_edge.specs.declared.arrival.Arrival.{Arrival}
use Rattle.ev_edge.specs.declared.arrival.Arrival.TheVariants.{Dropped, Message, Data}
use Rattle.ev_edge.specs.declared.event.Event.{Event}
use Rattle.ev_edge.specs.declared.event.Event.TheVariants as events
use Rattle.ev_edge.specs.declared.reply.Reply.{Reply}
use Rattle.ev_edge.specs.declared.refusal.Refusal.{Refusal}
use Rattle.ev_edge.specs.declared.refusal.Refusal.TheVariants.{Edge as OfEdge}
use Rattle.ev_edge.specs.declared.refusal.EdgeRefusal.{EdgeRefusal}
use Rattle.ev_edge.specs.declared.refusal.EdgeRefusal.TheVariants.{UnknownOriginator, OwnNameAhead, NoMemory}
use Rattle.ev_edge.specs.declared.refusal.EdgeRefusal.TheVariants.{NoSuchPort, OwnSpent}
use Rattle.ev_edge.specs.Edge.{Edge, table_of, address_of}
use Rattle.ev_edge.specs.Away.{with_away, with_back}
use Rattle.ev_edge.specs.Storms.{taking_on}
use Rattle.ev_edge.specs.Arrival.{frame_arrival, tunnel_arrival}
use Rattle.ev_edge.specs.Learning.{Learning}
use Rattle.ev_edge.specs.Pinning.{Pinning, refused_pin, after_unpin, after_thawing}
use Rattle.ev_edge.specs.Bridging.{BridgeGoes, after_bridge, after_second}
use Rattle.ev_edge.specs.Sending.{IsDecision}

-- ---- answers

-- nothing to tell
abbrev pub nothing : Reply
nothing = record { decision = None; bpdus = record { items = [] }; taken = None; announced = None; alert = None }

-- only an alert, or nothing
abbrev pub alone : Option Alert → Reply
alone alert = record nothing { alert = alert }

-- the answer of a call that overwrites another reply
abbrev pub answered : Result (Unit {0}) Refusal → Reply → Result Reply Refusal
answered (Ok done) reply = Ok reply
answered (Err r) reply = Err r

-- ---- frames

-- learning where it is due
abbrev pub LearnsIf : Bool → Edge → Station → ℕ → Option Alert → Edge → Type 0
LearnsIf true e s port told e' = Learning e s port told e'
LearnsIf false e s port told e' = (told ≡ None) × (e' ≡ e)

-- a frame on a port that doesn't pass goes nowhere
abbrev pub SendsIf : Bool → Edge → ℕ → ℕ → Source → Option Decision → Type 0
SendsIf passes e vni destination from None = ⊥
SendsIf true e vni destination from (Some d) = IsDecision e vni destination from d
SendsIf false e vni destination from (Some d) = (d.local ≡ 0) × (d.remote.items ≡ [])

-- the source of a frame is learnt, if the port learns and it is no group address
pub record LearnsAt (e : Edge) (port vni source : ℕ) (told : Option Alert) (e' : Edge) : Type 0 where
  pub learns : Bool
  pub are_learnt : IsTrue learns ↔ Learns e.tree port
  pub learning : LearnsIf (learns && not (is_group source)) e (record { vni = vni; mac = source }) port told e'

-- A port receives a frame of a VNI. Its source is learnt first; then the edge forwards it by its stations and routes at
-- that point, if the port passes.
pub record DataSteps (e : Edge) (port vni destination source : ℕ) (reply : Reply) (e' : Edge) : Type 0 where
  pub learning : LearnsAt e port vni source reply.alert e'
  pub passes : Bool
  pub are_passed : IsTrue passes ↔ Passes e.tree port
  pub sending : SendsIf passes e' vni destination (Port port) reply.decision
  pub reply_is : reply ≡ record nothing { decision = reply.decision; alert = reply.alert }

-- ---- the bridge

-- only an event of the bridge
pub record BridgeSteps (event : tree.Event) (e : Edge) (reply : Reply) (e' : Edge) : Type 0 where
  pub flush : ℕ
  pub goes : BridgeGoes event e.tree e'.tree flush reply.bpdus.items
  pub after : e' ≡ after_bridge e e'.tree flush
  pub reply_is : reply ≡ record nothing { bpdus = reply.bpdus }

abbrev pub Bridges : tree.Event → Edge → Result Reply Refusal → Edge → Type 0
Bridges event e (Ok reply) e' = BridgeSteps event e reply e'
Bridges event e (Err r) e' = ⊥

-- at a port that is there
abbrev pub BridgesAt : Option ℕ → tree.Event → Edge → Result Reply Refusal → Edge → Type 0
BridgesAt None event e result e' = (result ≡ Err (OfEdge NoSuchPort)) × (e' ≡ e)
BridgesAt (Some vni) event e result e' = Bridges event e result e'

pub record SecondSteps (e : Edge) (reply : Reply) (e' : Edge) : Type 0 where
  pub flush : ℕ
  pub goes : BridgeGoes tree_events.Second e.tree e'.tree flush reply.bpdus.items
  pub after : e' ≡ after_second e e'.tree flush
  pub reply_is : reply ≡ record nothing { bpdus = reply.bpdus }

abbrev pub Seconds : Edge → Result Reply Refusal → Edge → Type 0
Seconds e (Ok reply) e' = SecondSteps e reply e'
Seconds e (Err r) e' = ⊥

-- ---- frames, by their kinds

-- a frame of a network is counted, if its port has a storm limit, and then learnt from and sent
abbrev pub FrameSteps : Result Arrival Refusal → Edge → ℕ → Result Reply Refusal → Edge → Type 0
FrameSteps (Err r) e port result e' = (result ≡ Err r) × (e' ≡ e)
FrameSteps (Ok Dropped) e port result e' = (result ≡ Ok nothing) × (e' ≡ e)
FrameSteps (Ok (Message b)) e port result e' = Bridges (tree_events.Bpdu port b) e result e'
FrameSteps (Ok (Data vni destination source)) e port (Ok reply) e' =
    DataSteps (taking_on e port vni destination) port vni destination source reply e'
FrameSteps (Ok (Data vni destination source)) e port (Err r) e' = ⊥

-- from a tunnel nothing is learnt, and nothing goes into a tunnel
abbrev pub TunnelSteps : Result Arrival Refusal → Edge → Result Reply Refusal → Edge → Type 0
TunnelSteps (Err r) e result e' = (result ≡ Err r) × (e' ≡ e)
TunnelSteps (Ok Dropped) e result e' = (result ≡ Ok nothing) × (e' ≡ e)
TunnelSteps (Ok (Message b)) e result e' = ⊥
TunnelSteps (Ok (Data vni destination source)) e (Ok reply) e' =
    SendsIf true e vni destination Tunnel reply.decision × (reply ≡ record nothing { decision = reply.decision })
    × (e' ≡ e)
TunnelSteps (Ok (Data vni destination source)) e (Err r) e' = ⊥

-- ---- updates

abbrev pub lost_alert : Bool → Option Alert
lost_alert lost = if lost then Some LostStatic else None

-- why another edge's update isn't taken; the memory for a new register may be refused
abbrev pub OtherRefused : Edge → Fields → Refusal → Type 0
OtherRefused e u r =
    ((r ≡ OfEdge UnknownOriginator) × (is_listed (table_of e) u.register.originator ≡ false))
    ⊎ ((r ≡ OfEdge NoMemory) × (is_listed (table_of e) u.register.originator ≡ true)
    × (value_at (table_of e) u.register ≡ None))

abbrev pub TakesOther : Edge → Fields → Result Reply Refusal → Edge → Type 0
TakesOther e u (Ok reply) e' =
    (is_listed (table_of e) u.register.originator ≡ true)
    × (reply ≡ record nothing { taken = Some (taken_of (table_of e) u); alert = lost_alert (loses_pinned e.routes u) })
    × (e' ≡ record e { routes = after_take e.routes u })
TakesOther e u (Err r) e' = OtherRefused e u r × (e' ≡ e)

-- why an update under the edge's own name isn't taken; the memory for a new register, or for the withdrawal of an
-- advert
-- of an earlier incarnation, may be refused
abbrev pub OwnRefused : Edge → Fields → Refusal → Type 0
OwnRefused e u r =
    ((r ≡ OfEdge OwnNameAhead) × (is_ahead e.routes.speaker u ≡ true))
    ⊎ ((r ≡ OfEdge OwnSpent) × (is_spent e.routes.speaker u ≡ true))
    ⊎ ((r ≡ OfEdge NoMemory) × (is_ahead e.routes.speaker u ≡ false) × (is_spent e.routes.speaker u ≡ false)
    × ((value_at (table_of e) u.register ≡ None) ⊎ (is_returning e.routes.speaker u ≡ true)))

abbrev pub TakesOwn : Edge → Fields → Result Reply Refusal → Edge → Type 0
TakesOwn e u (Ok reply) e' =
    (is_ahead e.routes.speaker u ≡ false) × (is_spent e.routes.speaker u ≡ false)
    × (reply ≡ record nothing { taken = Some (taken_of (table_of e) u) })
    × (e' ≡ record e { routes = after_own e.routes u })
TakesOwn e u (Err r) e' = OwnRefused e u r × (e' ≡ e)

abbrev pub Takes : Bool → Edge → Fields → Result Reply Refusal → Edge → Type 0
Takes true e u result e' = TakesOwn e u result e'
Takes false e u result e' = TakesOther e u result e'

-- ---- pins

abbrev pub Pins : Option EdgeRefusal → Edge → Station → ℕ → Result Reply Refusal → Edge → Type 0
Pins (Some r) e s port result e' = (result ≡ Err (OfEdge r)) × (e' ≡ e)
Pins None e s port (Ok reply) e' = Pinning e s port reply.alert e' × (reply ≡ alone reply.alert)
Pins None e s port (Err r) e' = ⊥

-- ---- edges that go away and come back

-- only the edges that are away change, if the edge that the event names is listed; else nothing does
abbrev pub Marks : Bool → Edge → List ℕ → Result Reply Refusal → Edge → Type 0
Marks true e away result e' = (result ≡ Ok nothing) × (e' ≡ record e { away = away })
Marks false e away result e' = (result ≡ Err (OfEdge UnknownOriginator)) × (e' ≡ e)

-- ---- all events

abbrev pub Steps : Edge → Event → Result Reply Refusal → Edge → Type 0
Steps e (events.Frame port octets) result e' = FrameSteps (frame_arrival e port octets.now) e port result e'
Steps e (events.TunnelFrame from octets) result e' = TunnelSteps (tunnel_arrival e from octets.now) e result e'
Steps e (events.Take u) result e' = Takes (u.register.originator == address_of e) e u result e'
Steps e (events.Pin s port) result e' = Pins (refused_pin e s port) e s port result e'
Steps e (events.Unpin s) result e' = (result ≡ Ok nothing) × (e' ≡ after_unpin e s)
Steps e (events.Thaw s) result e' = (result ≡ Ok nothing) × (e' ≡ after_thawing e s)
Steps e events.Second result e' = Seconds e result e'
Steps e (events.PortUp port) result e' = BridgesAt (vni_at e.routes.ports port) (tree_events.PortUp port) e result e'
Steps e (events.PortDown port) result e' = BridgesAt (vni_at e.routes.ports port) (tree_events.PortDown port) e result
    e'
Steps e (events.Mcheck port) result e' = BridgesAt (vni_at e.routes.ports port) (tree_events.Mcheck port) e result e'
Steps e events.Announce result e' =
    (result ≡ Ok (record nothing { announced = announced e.routes.speaker }))
    × (e' ≡ record e { routes = after_announcement e.routes })
Steps e (events.Away a) result e' =
    Marks (is_listed (table_of e) a) e (with_away (table_of e).originators e.away a) result e'
Steps e (events.Back a) result e' = Marks (is_listed (table_of e) a) e (with_back e.away a) result e'
