-- The statements of the laws of edges.
use Rattle.std.specs.Prelude.{◌≡◌, ◌≢◌, ◌↔◌, ℕ, ◌==◌, ◌&&◌, Bool, true, false, not, Option, Some, None, IsSome, is_some}
use Rattle.std.specs.Prelude.{Result, Ok, Err, List, []}
use Rattle.std.specs.Option.{ForSome}
use Rattle.ether_wire.specs.Ports.{IsPort, has_port}
use Rattle.ether_wire.specs.Frame.{frame_of, destination_of}
use Rattle.vxlan_wire.specs.Vxlan.{instance_of}
use Rattle.route_wire.specs.declared.update.Advert.{Advert}
use Rattle.route_wire.specs.declared.update.Ip.{Ip}
use Rattle.route_wire.specs.declared.update.Key.TheVariants.{Mac}
use Rattle.route_join.specs.Table.{value_at}
use Rattle.route_join.specs.Owner.{IsOwner}
use Rattle.mac_arena.specs.declared.station.Station.{Station}
use Rattle.mac_arena.specs.declared.station.Entry.{Entry}
use Rattle.mac_arena.specs.Learning.{entry_at}
use Rattle.rstp_run.specs.Events.{Passes}
use Rattle.ev_tunnel.specs.declared.decision.Decision.{Decision}
use Rattle.ev_mobility.specs.declared.alert.Alert.TheVariants.{NoMemory as Unroomed}
use Rattle.ev_claims.specs.Speaker.{own_advert}
use Rattle.ev_claims.specs.LocalRoutes.{key_of, vni_at}
use Rattle.ev_edge.specs.declared.arrival.Arrival.{Arrival}
use Rattle.ev_edge.specs.declared.arrival.Arrival.TheVariants.{Dropped, Message, Data}
use Rattle.ev_edge.specs.declared.event.Event.{Event}
use Rattle.ev_edge.specs.declared.event.Event.TheVariants as events
use Rattle.ev_edge.specs.declared.refusal.EdgeRefusal.TheVariants.{NoMemory}
use Rattle.ev_edge.specs.declared.refusal.Refusal.{Refusal}
use Rattle.ev_edge.specs.declared.refusal.Refusal.TheVariants.{Edge as OfEdge}
use Rattle.ev_edge.specs.declared.reply.Reply.{Reply}
use Rattle.ev_edge.specs.Edge.{Edge, IsGoodEdge, table_of, address_of}
use Rattle.ether_wire.specs.Addr.{is_reserved}
use Rattle.ev_edge.specs.Arrival.{frame_arrival, tunnel_arrival}
use Rattle.ev_edge.specs.Steps.{FrameSteps, TunnelSteps, Steps}
use Rattle.ev_edge.specs.Changes.{Changes}

-- ---- where frames go

-- the decision of the answer, if it has one
abbrev pub decision_in : Result Reply Refusal → Option Decision
decision_in (Ok reply) = reply.decision
decision_in (Err r) = None

-- each access port that a frame from this port leaves by is of its network, passes, and is another one
abbrev pub LeavesBy : Edge → ℕ → Decision → Type 0
LeavesBy e port d = (p : ℕ) → IsPort p → has_port d.local p ≡ true
    → (vni_at e.routes.ports p ≡ vni_at e.routes.ports port) × Passes e.tree p × (p ≢ port)

-- a frame of this network from a tunnel goes into no tunnel, and leaves only by ports of the network that pass
pub record LeavesTunnel (e : Edge) (octets : List ℕ) (d : Decision) : Type 0 where
  pub remote : d.remote.items ≡ []
  pub local : (vni : ℕ) (inner : List ℕ) → instance_of octets ≡ Ok (vni, inner) → (p : ℕ) → IsPort p
      → has_port d.local p ≡ true → (vni_at e.routes.ports p ≡ Some vni) × Passes e.tree p

-- the octets are a frame whose destination is reserved
abbrev pub IsReserved : List ℕ → Type 0
IsReserved octets = (frame : List ℕ) × (frame_of octets ≡ Ok frame) × (is_reserved (destination_of frame) ≡ true)

-- the datagram holds a frame with these properties
abbrev pub HoldsReserved : List ℕ → Type 0
HoldsReserved octets = (vni : ℕ) × (inner : List ℕ) × (instance_of octets ≡ Ok (vni, inner)) × IsReserved inner

-- ---- the learnt stations are the advertised and owned ones

-- The stations that the edge has learnt or pinned are exactly those that it advertises, as static exactly the pinned
-- ones, none of them with an IP address, and it owns each.
pub record AdvertisesItsOwn (e : Edge) : Type 0 where
  pub learnt : (s : Station) → IsSome (entry_at e.routes.learned s) ↔ IsSome (own_advert e.routes.speaker (key_of s))
  pub pinned : (s : Station) (x : Entry) (a : Advert) → entry_at e.routes.learned s ≡ Some x
      → own_advert e.routes.speaker (key_of s) ≡ Some a → x.pinned ≡ a.is_static
  pub bare : (s : Station) (ip : Ip) → own_advert e.routes.speaker (Mac s.vni s.mac (Some ip)) ≡ None
  pub owned : (s : Station) → IsSome (entry_at e.routes.learned s) → IsOwner (table_of e) s.vni s.mac (address_of e)

-- ---- memory

-- the source of the frame is to be learnt
abbrev pub is_data : Result Arrival Refusal → Bool
is_data (Err r) = false
is_data (Ok Dropped) = false
is_data (Ok (Message b)) = false
is_data (Ok (Data vni destination source)) = true

-- Whether an event never needs memory: no frame to be learnt from, no pin, and no update but another's of a register
-- that is there.
abbrev pub takes_none : Edge → Event → Bool
takes_none e (events.Frame port octets) = not (is_data (frame_arrival e port octets.now))
takes_none e (events.TunnelFrame from octets) = true
takes_none e (events.Take u) = not (u.register.originator == address_of e) && is_some (value_at (table_of e) u.register)
takes_none e (events.Pin s port) = false
takes_none e (events.Unpin s) = true
takes_none e (events.Thaw s) = true
takes_none e events.Second = true
takes_none e (events.PortUp port) = true
takes_none e (events.PortDown port) = true
takes_none e (events.Mcheck port) = true
takes_none e events.Announce = true
takes_none e (events.Away a) = true
takes_none e (events.Back a) = true

-- the answer reports refused memory, as a refusal or as an alert
abbrev pub TellsNoMemory : Result Reply Refusal → Type 0
TellsNoMemory (Ok reply) = reply.alert ≡ Some Unroomed
TellsNoMemory (Err r) = r ≡ OfEdge NoMemory

-- ---- over all states of an edge, so over those between two steps, too

-- an edge stays good, whatever comes
abbrev pub StaysGood : Type 0
StaysGood = (e e' : Edge) (event : Event) (result : Result Reply Refusal) → IsGoodEdge e → Steps e event result e'
    → IsGoodEdge e'

abbrev pub ChangesItsOwn : Type 0
ChangesItsOwn = (e e' : Edge) (event : Event) (result : Result Reply Refusal) → IsGoodEdge e → Steps e event result e'
    → Changes e event result e'

abbrev pub LeavesByMembers : Type 0
LeavesByMembers =
    (e e' : Edge) (port : ℕ) (octets : List ℕ) (result : Result Reply Refusal) → IsGoodEdge e
    → FrameSteps (frame_arrival e port octets) e port result e' → ForSome (decision_in result) (LeavesBy e port)

abbrev pub LeavesNoTunnelByOne : Type 0
LeavesNoTunnelByOne =
    (e e' : Edge) (from : ℕ) (octets : List ℕ) (result : Result Reply Refusal) → IsGoodEdge e
    → TunnelSteps (tunnel_arrival e from octets) e result e' → ForSome (decision_in result) (LeavesTunnel e octets)

abbrev pub OwnsItsAdverts : Type 0
OwnsItsAdverts = (e : Edge) → IsGoodEdge e → AdvertisesItsOwn e

abbrev pub TakesNoMemory : Type 0
TakesNoMemory =
    (e e' : Edge) (event : Event) (result : Result Reply Refusal) → takes_none e event ≡ true
    → Steps e event result e' → TellsNoMemory result → ⊥

-- ---- the bridge

-- the octets are a message to the bridge
abbrev pub is_message : Result Arrival Refusal → Bool
is_message (Ok (Message b)) = true
is_message (Err r) = false
is_message (Ok Dropped) = false
is_message (Ok (Data vni destination source)) = false

-- an event of the bridge: a second, a port that goes up or down, a check of migration, or a frame with a BPDU
abbrev pub is_of_bridge : Edge → Event → Bool
is_of_bridge e (events.Frame port octets) = is_message (frame_arrival e port octets.now)
is_of_bridge e events.Second = true
is_of_bridge e (events.PortUp port) = true
is_of_bridge e (events.PortDown port) = true
is_of_bridge e (events.Mcheck port) = true
is_of_bridge e (events.TunnelFrame from octets) = false
is_of_bridge e (events.Take u) = false
is_of_bridge e (events.Pin s port) = false
is_of_bridge e (events.Unpin s) = false
is_of_bridge e (events.Thaw s) = false
is_of_bridge e events.Announce = false
is_of_bridge e (events.Away a) = false
is_of_bridge e (events.Back a) = false

-- two steps of an edge by the same event of the bridge have the same answer and the same edge afterwards
abbrev pub BridgeHasOneOutcome : Type 0
BridgeHasOneOutcome =
    (e a b : Edge) (event : Event) (x y : Result Reply Refusal) → is_of_bridge e event ≡ true → Steps e event x a
    → Steps e event y b → (x ≡ y) × (a ≡ b)
