-- Laws about every run of a fabric.
use Rattle.std.specs.Prelude.{◌≡◌, ◌≢◌, ◌⊎◌, ◌↔◌, ℕ, ◌<◌, ◌^◌, true, false, Option, Some, None, IsSome, Result, Ok}
use Rattle.std.specs.Prelude.{List, [], ◌∷◌, ◌++◌, Contains}
use Rattle.ether_wire.specs.Ports.{has_port, no_ports}
use Rattle.route_wire.specs.declared.update.Register.{Register}
use Rattle.route_wire.specs.declared.update.Value.{Value}
use Rattle.route_wire.specs.Fields.{Fields}
use Rattle.route_wire.specs.Order.{is_newer}
use Rattle.route_join.specs.Table.{Table, value_at, IsTableOf}
use Rattle.route_join.specs.Owner.{advert_in, IsOwner}
use Rattle.route_join.specs.Report.{report_of}
use Rattle.route_join.specs.Joins.{join}
use Rattle.mac_arena.specs.declared.station.Station.{Station}
use Rattle.mac_arena.specs.declared.station.Entry.{Entry}
use Rattle.mac_arena.specs.Learning.{entry_at}
use Rattle.rstp_run.specs.Events.{Passes}
use Rattle.ev_tunnel.specs.declared.decision.Decision.{Decision}
use Rattle.ev_tunnel.specs.Datagram.{datagram_of}
use Rattle.ev_tunnel.specs.Decision.{is_up}
use Rattle.ev_claims.specs.LocalRoutes.{vni_at}
use Rattle.ev_edge.specs.declared.arrival.Arrival.TheVariants.{Data}
use Rattle.ev_edge.specs.declared.config.EdgeConfig.{EdgeConfig}
use Rattle.ev_edge.specs.declared.event.Event.{Event}
use Rattle.ev_edge.specs.declared.event.Event.TheVariants as events
use Rattle.ev_edge.specs.declared.refusal.Refusal.{Refusal}
use Rattle.ev_edge.specs.declared.reply.Reply.{Reply}
use Rattle.ev_edge.specs.Arrival.{frame_arrival, tunnel_arrival}
use Rattle.ev_edge.specs.Edge.{Edge, IsGoodEdge, table_of, address_of}
use Rattle.ev_edge.specs.Steps.{Steps}
use Rattle.ev_fabric.specs.declared.step.Step.{Step}
use Rattle.ev_fabric.specs.Fabric.{Fabric, IsEdge, incarnation_of}
use Rattle.ev_fabric.specs.Opening.{AreConfigs, IsStart}
use Rattle.ev_fabric.specs.Sound.{update_of, IsSound}
use Rattle.ev_fabric.specs.Agreed.{AllAgree, Advertises}
use Rattle.ev_fabric.specs.Runs.{Runs}

-- ---- every run

-- a fabric as it is opened is sound
abbrev pub Starts : Type 0
Starts = (cs : List EdgeConfig) (f : Fabric) → AreConfigs cs → IsStart cs f → IsSound f

-- it stays sound in every run
abbrev pub EveryRun : Type 0
EveryRun = (steps : List Step) (old new : Fabric) → Runs old steps new → IsSound old → IsSound new

-- ---- no table is ahead

-- the value is of an earlier incarnation of the edge b, or isn't newer than b's own value of the register
abbrev pub IsNotAhead : Edge → Register → Value → Type 0
IsNotAhead b r v = (v.incarnation < incarnation_of b) ⊎ ((w : Value) × (value_at (table_of b) r ≡ Some w)
    × (is_newer v w ≡ false))

abbrev pub NoneAhead : Type 0
NoneAhead = (f : Fabric) → IsSound f → (i j : ℕ) (a b : Edge) → IsEdge f i a → IsEdge f j b → (r : Register) (v : Value)
    → r.originator ≡ address_of b → value_at (table_of a) r ≡ Some v → IsNotAhead b r v

-- each value of the edge at place i is in the pool, except for its own pending ones
abbrev pub Announced : Type 0
Announced = (f : Fabric) → IsSound f → (i : ℕ) (a : Edge) → IsEdge f i a → (r : Register) (v : Value)
    → value_at (table_of a) r ≡ Some v
    → (r.originator ≡ address_of a → Contains a.routes.speaker.pending r → ⊥) → Contains f.pool (update_of r v)

-- two updates of one register, incarnation and number are equal
abbrev pub SaidOnce : Type 0
SaidOnce = (f : Fabric) → IsSound f → (u w : Fields) → Contains f.pool u → Contains f.pool w → u.register ≡ w.register
    → u.value.incarnation ≡ w.value.incarnation → u.value.counter ≡ w.value.counter → u ≡ w

-- ---- equal tables

-- of two good edges with equal registers at most one advertises a station, after any history
abbrev pub OneOfTwo : Type 0
OneOfTwo = (a b : Edge) (s : Station) → IsGoodEdge a → IsGoodEdge b → (table_of a).registers ≡ (table_of b).registers
    → Advertises a s → Advertises b s → address_of a ≡ address_of b

-- ---- if all agree

abbrev pub AgreedTables : Type 0
AgreedTables = (f : Fabric) → IsSound f → AllAgree f → (i : ℕ) (a : Edge) → IsEdge f i a → IsTableOf f.pool (table_of a)

abbrev pub AgreedReports : Type 0
AgreedReports = (f : Fabric) → IsSound f → AllAgree f → (i j : ℕ) (a b : Edge) → IsEdge f i a → IsEdge f j b
    → report_of (table_of a) ≡ report_of (table_of b)

-- at most one edge advertises a station
abbrev pub OneOfAll : Type 0
OneOfAll = (f : Fabric) → IsSound f → AllAgree f → (i j : ℕ) (a b : Edge) (s : Station) → IsEdge f i a → IsEdge f j b
    → Advertises a s → Advertises b s → i ≡ j

-- the station is learnt, on a port of its VNI
pub record IsBehindPort (a : Edge) (s : Station) (x : Entry) : Type 0 where
  pub learnt : entry_at a.routes.learned s ≡ Some x
  pub port : vni_at a.routes.ports x.port ≡ Some s.vni

abbrev pub Learnt : Type 0
Learnt = (a : Edge) (s : Station) → IsGoodEdge a → Advertises a s → (x : Entry) × IsBehindPort a s x

-- every edge takes it for the owner
abbrev pub OwnerOfAll : Type 0
OwnerOfAll = (f : Fabric) → IsSound f → AllAgree f → (i j : ℕ) (a b : Edge) (s : Station) → IsEdge f i a → IsEdge f j b
    → Advertises a s → IsOwner (table_of b) s.vni s.mac (address_of a)

-- no table has an advert of an earlier incarnation of its originator
abbrev pub NoneBack : Type 0
NoneBack = (f : Fabric) → IsSound f → AllAgree f → (i j : ℕ) (a b : Edge) → IsEdge f i a → IsEdge f j b
    → (r : Register) (v : Value) → r.originator ≡ address_of b → value_at (table_of a) r ≡ Some v
    → IsSome (advert_in v.content) → v.incarnation ≡ incarnation_of b

-- ---- destinations of frames

-- the octets and the port of a frame that comes at a port
abbrev pub frame_in : Event → Option (ℕ × List ℕ)
frame_in (events.Frame port octets) = Some (port, octets.now)
frame_in (events.TunnelFrame from octets) = None
frame_in (events.Take u) = None
frame_in (events.Pin s port) = None
frame_in (events.Unpin s) = None
frame_in (events.Thaw s) = None
frame_in events.Second = None
frame_in (events.PortUp port) = None
frame_in (events.PortDown port) = None
frame_in (events.Mcheck port) = None
frame_in events.Announce = None
frame_in (events.Away a) = None
frame_in (events.Back a) = None

-- the octets of a datagram and the edge that it comes from
abbrev pub tunnel_frame_in : Event → Option (ℕ × List ℕ)
tunnel_frame_in (events.TunnelFrame from octets) = Some (from, octets.now)
tunnel_frame_in (events.Frame port octets) = None
tunnel_frame_in (events.Take u) = None
tunnel_frame_in (events.Pin s port) = None
tunnel_frame_in (events.Unpin s) = None
tunnel_frame_in (events.Thaw s) = None
tunnel_frame_in events.Second = None
tunnel_frame_in (events.PortUp port) = None
tunnel_frame_in (events.PortDown port) = None
tunnel_frame_in (events.Mcheck port) = None
tunnel_frame_in events.Announce = None
tunnel_frame_in (events.Away a) = None
tunnel_frame_in (events.Back a) = None

-- The event is a frame for the station in its VNI: it comes from another source address at a port that passes.
pub record IsFrameFor (a : Edge) (event : Event) (port : ℕ) (s : Station) : Type 0 where
  pub octets : List ℕ
  pub frame : frame_in event ≡ Some (port, octets)
  pub source : ℕ
  pub arrives : frame_arrival a port octets ≡ Ok (Data s.vni s.mac source)
  pub other : source ≢ s.mac
  pub passes : Passes a.tree port

-- the event is a datagram of another edge with a frame for the station
pub record IsTunnelFrameFor (a : Edge) (event : Event) (s : Station) : Type 0 where
  pub from : ℕ
  pub octets : List ℕ
  pub frame : tunnel_frame_in event ≡ Some (from, octets)
  pub source : ℕ
  pub arrives : tunnel_arrival a from octets ≡ Ok (Data s.vni s.mac source)

-- the frame goes to the edge o only
pub record GoesTo (o : ℕ) (reply : Reply) : Type 0 where
  pub decision : Decision
  pub there : reply.decision ≡ Some decision
  pub local : decision.local ≡ no_ports
  pub remote : decision.remote.items ≡ o ∷ []

-- the frame goes to port q only, and to it exactly if it may
pub record GoesOut (q : ℕ) (May : Type 0) (reply : Reply) : Type 0 where
  pub decision : Decision
  pub there : reply.decision ≡ Some decision
  pub local : (p : ℕ) → (has_port decision.local p ≡ true) ↔ ((p ≡ q) × May)
  pub remote : decision.remote.items ≡ []

-- if all agree, a frame for a station that another edge advertises goes to that edge only, unless that edge is away
abbrev pub FramesGo : Type 0
FramesGo = (f : Fabric) → IsSound f → AllAgree f → (i j : ℕ) (o a b : Edge) (s : Station) → IsEdge f i o → IsEdge f j a
    → i ≢ j → Advertises o s → is_up a.away (address_of o) ≡ true
    → (event : Event) (port : ℕ) (reply : Reply) → IsFrameFor a event port s → Steps a event (Ok reply) b
    → GoesTo (address_of o) reply

-- at the edge that advertises the station, a frame for it goes to the port on which it is learnt
abbrev pub FramesComeOut : Type 0
FramesComeOut = (o b : Edge) (s : Station) → IsGoodEdge o → Advertises o s → (event : Event) (port : ℕ) (reply : Reply)
    → IsFrameFor o event port s → Steps o event (Ok reply) b
    → (x : Entry) × IsBehindPort o s x × GoesOut x.port (Passes o.tree x.port × (x.port ≢ port)) reply

-- and so does a frame from another edge
abbrev pub TunnelFramesComeOut : Type 0
TunnelFramesComeOut = (o b : Edge) (s : Station) → IsGoodEdge o → Advertises o s → (event : Event) (reply : Reply)
    → IsTunnelFrameFor o event s → Steps o event (Ok reply) b
    → (x : Entry) × IsBehindPort o s x × GoesOut x.port (Passes o.tree x.port) reply

-- The datagram, entered at the edge o as one from this address, isn't refused, and its frame goes only to the port on
-- which the station is learnt, if that port passes; otherwise nowhere.
pub record ComesOut (o : Edge) (from : ℕ) (datagram : List ℕ) (s : Station) : Type 0 where
  pub entry : Entry
  pub behind : IsBehindPort o s entry
  pub out : (event : Event) (result : Result Reply Refusal) (after : Edge)
      → tunnel_frame_in event ≡ Some (from, datagram) → Steps o event result after
      → (reply : Reply) × (result ≡ Ok reply) × GoesOut entry.port (Passes o.tree entry.port) reply

-- From port to port, if all agree, and the edge o isn't away at the edge a: a frame at a port of a for a station that o
-- advertises goes to o only; and the datagram of its VNI and octets, entered at o, comes out at the station's port. The
-- VNI has three octets, as each VNI has by its type.
abbrev pub FromPortToPort : Type 0
FromPortToPort =
    (f : Fabric) → IsSound f → AllAgree f → (i j : ℕ) (o a b : Edge) (s : Station) → IsEdge f i o → IsEdge f j a → i ≢ j
    → Advertises o s → is_up a.away (address_of o) ≡ true
    → s.vni < 2 ^ 24 → (event : Event) (port : ℕ) (reply : Reply) → (frame : IsFrameFor a event port s)
    → Steps a event (Ok reply) b
    → GoesTo (address_of o) reply × ComesOut o (address_of a) (datagram_of s.vni frame.octets) s

-- ---- tables of edges

-- the tables of two edges as one
abbrev pub joined : Edge → Edge → Table
joined a b = join (table_of a) (table_of b)

-- the join is commutative, associative and idempotent
pub record AreJoined (a b c : Edge) : Type 0 where
  pub commutes : (joined a b).registers ≡ (joined b a).registers
  pub associates : (join (joined a b) (table_of c)).registers ≡ (join (table_of a) (joined b c)).registers
  pub repeats : (joined a a).registers ≡ (table_of a).registers

abbrev pub TablesJoin : Type 0
TablesJoin = (a b c : Edge) → AreJoined a b c

-- the join of two edges' tables is the table of both sets of updates
abbrev pub SetsJoin : Type 0
SetsJoin = (us vs : List Fields) (a b : Edge) → IsTableOf us (table_of a) → IsTableOf vs (table_of b)
    → IsTableOf (us ++ vs) (joined a b)
