-- Fabrics that meet the laws' premises, each after some run from its opening.
use Rattle.std.specs.Prelude.{◌≡◌, ◌≢◌, ◌⊎◌, ℕ, suc, ◌+◌, ◌*◌, ◌<◌, ◌≤◌, ◌^◌, true, false, Some, None, IsSome, Ok}
use Rattle.std.specs.Prelude.{List, [], ◌∷◌, ◌++◌, length, Contains, slice_get}
use Rattle.route_wire.specs.declared.update.Register.{Register}
use Rattle.route_wire.specs.declared.update.Value.{Value}
use Rattle.route_wire.specs.declared.update.Content.TheVariants.{Withdrawn}
use Rattle.route_wire.specs.Fields.{Fields}
use Rattle.route_wire.specs.Order.{is_newer}
use Rattle.route_join.specs.Table.{value_at, register_of}
use Rattle.route_join.specs.Owner.{advert_in, advert_at}
use Rattle.mac_arena.specs.declared.station.Station.{Station}
use Rattle.mac_arena.specs.declared.station.Entry.{Entry}
use Rattle.mac_arena.specs.Learning.{entry_at}
use Rattle.rstp_run.specs.Events.{Passes}
use Rattle.ev_tunnel.specs.Datagram.{datagram_of}
use Rattle.ev_claims.specs.Speaker.{is_newest}
use Rattle.ev_claims.specs.LocalRoutes.{key_of}
use Rattle.ev_edge.specs.declared.config.EdgeConfig.{EdgeConfig}
use Rattle.ev_edge.specs.declared.event.Event.{Event}
use Rattle.ev_edge.specs.declared.reply.Reply.{Reply}
use Rattle.ev_edge.specs.Edge.{Edge, table_of, address_of}
use Rattle.ev_edge.specs.Steps.{Steps}
use Rattle.ev_fabric.specs.declared.step.Step.{Step}
use Rattle.ev_fabric.specs.declared.step.Step.TheVariants.{Local, Deliver, Restart}
use Rattle.ev_fabric.specs.declared.step.LocalEvent.{LocalEvent}
use Rattle.ev_fabric.specs.Fabric.{Fabric, IsEdge, incarnation_of}
use Rattle.ev_fabric.specs.Opening.{AreConfigs, IsStart}
use Rattle.ev_fabric.specs.Agreed.{AllAgree, Advertises}
use Rattle.ev_fabric.specs.Runs.{Runs}
use Rattle.ev_fabric.specs.Sound.{update_of, IsSound}
use Rattle.ev_fabric.specs.Laws.{tunnel_frame_in, IsFrameFor, IsBehindPort, GoesTo, GoesOut}
use Rattle.ev_fabric.specs.Convergence.{Rests}
use Rattle.ev_fabric.specs.Steps.{FabricSteps}
use Rattle.ev_fabric.specs.Station.{is_of, AgreesOn, StationComes, RunsBeside, RunsAlone, NoneRestarts, to_come_on}
use Rattle.ev_fabric.specs.Station.{StationMovedAnyhow}
use Rattle.ev_fabric.specs.Rounds.{IsOrderly, Rounds}
use Rattle.ev_fabric.specs.Meanwhile.{IsFlooded}
use Rattle.ev_sites.specs.Sites.{Site, Point, ByEdge, ByTunnel}
use Rattle.ev_sites.specs.Fabrics.{AreSitesOf, SitesRest}
use Rattle.ev_sites.specs.Sessions.{Process, Took, Holds, Parts, IsDelivered, IsSent, Session, Met, Knows}

-- the fabric came by some run from its opening
pub record HasRun (f : Fabric) : Type 0 where
  pub configs : List EdgeConfig
  pub opened : Fabric
  pub steps : List Step
  pub fit : AreConfigs configs
  pub start : IsStart configs opened
  pub run : Runs opened steps f

-- The sites of a fabric's edges are at rest. A frame that comes in at x goes on to y by the edge of x's site, and one
-- that comes in there goes on to z through a tunnel.
pub record SitesOfAFabric : Type 0 where
  pub fabric : Fabric
  pub has_run : HasRun fabric
  pub sites : List Site
  pub x : Point
  pub y : Point
  pub z : Point
  pub are_sites : AreSitesOf fabric sites
  pub rest : SitesRest sites
  pub by_edge : ByEdge sites x y
  pub by_tunnel : ByTunnel sites x z

-- All edges of a fabric agree, and one of them, `edge_out`, advertises a station. A frame for it comes in at a port of
-- another, `edge_in`, and goes to `edge_out` only. Its datagram, entered there as one from `edge_in`, goes to the port
-- on which the station is learnt, which passes, and to nothing else.
pub record FrameOfAFabric : Type 0 where
  pub fabric : Fabric
  pub has_run : HasRun fabric
  pub agree : AllAgree fabric
  pub station : Station
  pub network : station.vni < 2 ^ 24
  pub place_out : ℕ
  pub place_in : ℕ
  pub apart : place_out ≢ place_in
  pub edge_out : Edge
  pub edge_in : Edge
  pub at_out : IsEdge fabric place_out edge_out
  pub at_in : IsEdge fabric place_in edge_in
  pub advertises : Advertises edge_out station
  pub event : Event
  pub port : ℕ
  pub frame : IsFrameFor edge_in event port station
  pub reply : Reply
  pub after_in : Edge
  pub steps_in : Steps edge_in event (Ok reply) after_in
  pub goes : GoesTo (address_of edge_out) reply
  pub entering : Event
  pub datagram : tunnel_frame_in entering ≡ Some (address_of edge_in, datagram_of station.vni frame.octets)
  pub answer : Reply
  pub after_out : Edge
  pub steps_out : Steps edge_out entering (Ok answer) after_out
  pub entry : Entry
  pub behind : IsBehindPort edge_out station entry
  pub passes : Passes edge_out.tree entry.port
  pub given : GoesOut entry.port (Passes edge_out.tree entry.port) answer

-- All edges of a fabric agree, and the one at place i advertises a station, which comes to the edge at place j. After
-- some announcements and deliveries, and nothing else, all agree again, and the edge at place j advertises the station.
-- These are two rounds of the station in which the announcements come first.
pub record MoveOfAFabric : Type 0 where
  pub old : Fabric
  pub has_run : HasRun old
  pub agreed : AllAgree old
  pub station : Station
  pub i : ℕ
  pub j : ℕ
  pub mid : Fabric
  pub comes : StationComes old i j station mid
  pub steps : List Step
  pub new : Fabric
  pub rests : Rests mid steps new
  pub beside : RunsBeside i j station mid steps new
  pub half : Fabric
  pub first_round : IsOrderly i j station mid half
  pub second_round : IsOrderly i j station half new
  pub agree : AllAgree new
  pub edge : Edge
  pub at : IsEdge new j edge
  pub advertises : Advertises edge station

-- ---- a move in traffic

-- an update of the station is pending at some edge
abbrev pub IsPendingOf : Station → Fabric → Type 0
IsPendingOf s f = (i : ℕ) × (a : Edge) × (r : Register) × IsEdge f i a × Contains a.routes.speaker.pending r
    × (is_of s r ≡ true)

-- one of the steps delivers an update of the station to an edge that has neither it nor a newer one of its register
pub record Delivers (s : Station) (old : Fabric) (steps : List Step) (new : Fabric) : Type 0 where
  pub place : ℕ
  pub edge : Edge
  pub number : ℕ
  pub update : Fields
  pub at : IsEdge old place edge
  pub news : is_newest edge.routes.speaker update ≡ true
  pub there : slice_get new.pool number ≡ Some update
  pub of : is_of s update.register ≡ true
  pub among : Contains steps (Deliver (suc place) (suc number))

-- before each of these steps there are others: an update of the station is pending, and one is delivered
abbrev pub InTraffic : Station → Fabric → List (List Step × Step) → Fabric → Type 0
InTraffic s old [] new = new ≡ old
InTraffic s old (part ∷ parts) new = (mid : Fabric) × (next : Fabric) × Runs old part.0 mid × IsPendingOf s old
    × Delivers s old part.0 mid × Runs mid (part.1 ∷ []) next × InTraffic s next parts new

abbrev pub all_steps : List (List Step × Step) → List Step
all_steps [] = []
all_steps (part ∷ parts) = part.0 ++ part.1 ∷ all_steps parts

-- A station moves in a fabric of three edges, and between every two steps of the move updates of another station are
-- pending and delivered. The steps after the station has come are four rounds of it, and two rounds in which the
-- announcements come first. Then the laws on a move hold of this run.
pub record MoveInTraffic : Type 0 where
  pub old : Fabric
  pub has_run : HasRun old
  pub three : length old.edges ≡ 3
  pub station : Station
  pub other : Station
  pub apart : other ≢ station
  pub mid : Fabric
  pub comes : StationComes old 0 1 station mid
  pub parts : List (List Step × Step)
  pub new : Fabric
  pub traffic : InTraffic other mid parts new
  pub beside : RunsBeside 0 1 station mid (all_steps parts) new
  pub none : NoneRestarts (all_steps parts)
  -- rounds
  pub four : Rounds (RunsBeside 0 1 station) station 4 mid new
  pub half : Fabric
  pub first : IsOrderly 0 1 station mid half
  pub second : IsOrderly 0 1 station half new
  pub rounds : ℕ
  pub enough : 2 * to_come_on station mid + 1 ≤ rounds
  pub many : Rounds (RunsAlone station) station rounds mid new
  -- by `station_agrees_after_a_move` and `station_agrees`
  pub agrees_in_four : AgreesOn new station
  pub agrees_in_two : AgreesOn new station
  pub agrees_soon : AgreesOn new station
  -- by `station_moves_anyhow`
  pub moved : StationMovedAnyhow old 0 station (address_of comes.from) (address_of comes.to) new
  -- a delivery of the new advert, and what `taken_stays` says of it
  pub given : Fabric
  pub number : ℕ
  pub update : Fields
  pub there : slice_get given.pool number ≡ Some update
  pub of : is_of station update.register ≡ true
  pub got : Fabric
  pub reply : Reply
  pub gives : FabricSteps given (Deliver 1 (suc number)) (Ok reply) got
  pub later : List Step
  pub goes_on : Runs got later new
  pub none_later : NoneRestarts later
  pub stays : (b : Edge) → IsEdge new 0 b
      → (v : Value) × (value_at (table_of b) update.register ≡ Some v) × (is_newer update.value v ≡ false)
  -- a frame for the station at the third edge, on the way, and what `frames_meanwhile` says of it
  pub way : List Step
  pub between : Fabric
  pub on_way : RunsBeside 0 1 station mid way between
  pub none_before : NoneRestarts way
  pub edge : Edge
  pub at : IsEdge between 2 edge
  pub after : Edge
  pub event : Event
  pub port : ℕ
  pub frame : IsFrameFor edge event port station
  pub answer : Reply
  pub sends : Steps edge event (Ok answer) after
  pub goes : GoesTo (address_of comes.from) answer ⊎ GoesTo (address_of comes.to) answer
      ⊎ IsFlooded after station port answer

-- ---- a session after a restart

-- each of three edges is a process
abbrev pub each_alone : List Process
each_alone = (0 ∷ []) ∷ (1 ∷ []) ∷ (2 ∷ []) ∷ []

-- A process has the edges at places 0 and 2 of a fabric, and another one has the edge at place 1. The edge at place 0
-- restarts, any steps follow, and then a session of the two processes. At its beginning the edge at place 1 has an
-- advert of the earlier life, of a station that the edge at place 0 hasn't learnt since. At its end it has none.
pub record SessionOfAFabric : Type 0 where
  pub before : Fabric
  pub has_run : HasRun before
  pub three : length before.edges ≡ 3
  pub life : ℕ
  pub reply : Reply
  pub began : Fabric
  pub restart : FabricSteps before (Restart 1 life) (Ok reply) began
  pub meanwhile : List Step
  pub old : Fabric
  pub goes_on : Runs began meanwhile old
  pub sound : IsSound old
  pub steps : List Step
  pub new : Fabric
  pub session : Session (0 ∷ 2 ∷ []) (1 ∷ []) old steps new
  -- the edges at the beginning and at the end
  pub first_old : Edge
  pub first : Edge
  pub second : Edge
  pub third : Edge
  pub at_first_old : IsEdge old 0 first_old
  pub at_first : IsEdge new 0 first
  pub at_second : IsEdge new 1 second
  pub at_third : IsEdge new 2 third
  -- the advert of the earlier life
  pub station : Station
  pub earlier : Value
  pub had : Holds old 1 (update_of (register_of (address_of first) (key_of station)) earlier)
  pub was_advert : IsSome (advert_in earlier.content)
  pub is_earlier : earlier.incarnation < life
  pub not_learnt : entry_at first_old.routes.learned station ≡ None
  pub gone : advert_at (table_of second) (address_of first) (key_of station) ≡ None
  -- the withdrawal that both have in its place
  pub withdrawal : Value
  pub is_withdrawn : withdrawal.content ≡ Withdrawn
  pub of_life : withdrawal.incarnation ≡ life
  pub held_by_first : Holds new 0 (update_of (register_of (address_of first) (key_of station)) withdrawal)
  pub held_by_second : Holds new 1 (update_of (register_of (address_of first) (key_of station)) withdrawal)
  -- An event from outside comes between two deliveries of the session. In the session the first edge learns another
  -- station. Its advert is announced in the session, and both edges have it at the end.
  pub sooner : List Step
  pub later : List Step
  pub event : LocalEvent
  pub between : steps ≡ sooner ++ Local 1 event ∷ later
  pub delivers : (k : ℕ) × Contains sooner (Deliver 2 k)
  pub delivers_back : (k : ℕ) × Contains later (Deliver 1 k)
  pub other : Station
  pub present : Value
  pub news : List Fields
  pub announced : new.pool ≡ old.pool ++ news
  pub among : Contains news (update_of (register_of (address_of first) (key_of other)) present)
  pub is_advert : IsSome (advert_in present.content)
  pub is_present : present.incarnation ≡ life
  pub learnt_since : entry_at first_old.routes.learned other ≡ None
  pub learnt : IsSome (entry_at first.routes.learned other)
  pub first_has : Holds new 0 (update_of (register_of (address_of first) (key_of other)) present)
  pub second_has : Holds new 1 (update_of (register_of (address_of first) (key_of other)) present)
  -- The third edge restarted, too, and has a withdrawal of its earlier life at the beginning. After the tables were
  -- sent back the second edge takes it, and the third edge takes it back, and keeps it.
  pub kept : Fields
  pub of_third : kept.register.originator ≡ address_of third
  pub of_past : kept.value.incarnation < incarnation_of third
  pub third_had : Holds old 2 kept
  pub second_takes : Took 1 kept session.there.parts.second session.there.parts.held new session.there.parts.ends
  pub third_takes : Took 2 kept session.there.parts.second session.there.parts.held new session.there.parts.ends
  pub third_has : Holds new 2 kept
  -- Also each two of the edges have met, if each is a process of its own.
  pub met : (m n : ℕ) (p q : Process) → m ≢ n → slice_get each_alone m ≡ Some p → slice_get each_alone n ≡ Some q
      → Met p q new
  -- by `sessions_agree`
  pub first_agrees : Knows second first × Knows first second
  pub third_agrees : Knows second third × Knows third second
  pub all_agree : (i j : ℕ) (a b : Edge) → i ≢ j → i < 3 → j < 3 → IsEdge new i a → IsEdge new j b → Knows b a
  -- by `begun_anew`
  pub anew : (r : Register) (v : Value) → r.originator ≡ address_of first → value_at (table_of second) r ≡ Some v
      → IsSome (advert_in v.content) → life ≤ v.incarnation

-- ---- a session in all but one premise

-- The registers of the edges at places 1 and 2 are delivered as in a session of these two, and those of the edge at
-- place 1 are sent. Only `alike` is left out, for the registers of the edge at place 2, which restarted. A withdrawal
-- of its earlier life, which the edge at place 0 has, comes first. Then the older advert that the edge at place 1 has
-- comes back, and is no news. So the edge at place 1 keeps it.
pub record AdvertStays : Type 0 where
  pub old : Fabric
  pub has_run : HasRun old
  pub sound : IsSound old
  pub steps : List Step
  pub new : Fabric
  pub parts : Parts old steps new
  pub none : NoneRestarts steps
  pub second : Edge
  pub third : Edge
  pub at_second : IsEdge new 1 second
  pub at_third : IsEdge new 2 third
  pub there : (r : Register) → r.originator ≡ address_of third → IsDelivered 2 1 third r old steps new parts
  pub back : (r : Register) → r.originator ≡ address_of second → IsSent 1 2 second r old steps new parts
  -- the advert
  pub station : Station
  pub advert : Value
  pub is_advert : IsSome (advert_in advert.content)
  pub is_earlier : advert.incarnation < incarnation_of third
  pub stays : Holds new 1 (update_of (register_of (address_of third) (key_of station)) advert)
  pub not_learnt : entry_at third.routes.learned station ≡ None
  -- the withdrawal
  pub withdrawal : Value
  pub is_withdrawn : withdrawal.content ≡ Withdrawn
  pub first_has : Holds old 0 (update_of (register_of (address_of third) (key_of station)) withdrawal)
  pub comes : Took 2 (update_of (register_of (address_of third) (key_of station)) withdrawal) parts.first old parts.held
      parts.begins
  pub third_has : Holds new 2 (update_of (register_of (address_of third) (key_of station)) withdrawal)
  -- by `sessions_agree`
  pub no_session : Session (2 ∷ []) (1 ∷ []) old steps new → ⊥
