-- One station of a fabric: when all edges agree on it, and the effects of its move, with any other updates pending,
-- missing or under way.
use Rattle.std.specs.Prelude.{◌≡◌, ◌≢◌, ◌⊎◌, ℕ, suc, ◌+◌, ◌^◌, ◌≤◌, ◌<◌, ◌==◌, ◌&&◌, Bool, true, false, if◌then◌else◌}
use Rattle.std.specs.Prelude.{Option, Some, None, IsSome, is_some, Result, Ok, List, [], ◌∷◌, ◌++◌, length, Contains}
use Rattle.std.specs.List.{filter, count_by, sum_by}
use Rattle.route_wire.specs.declared.update.Ip.{Ip}
use Rattle.route_wire.specs.declared.update.Key.{Key}
use Rattle.route_wire.specs.declared.update.Key.TheVariants.{Flood, Mac}
use Rattle.route_wire.specs.declared.update.Register.{Register}
use Rattle.route_wire.specs.declared.update.Value.{Value}
use Rattle.route_wire.specs.Fields.{Fields}
use Rattle.route_wire.specs.Order.{is_newer}
use Rattle.route_join.specs.Table.{value_at, register_of}
use Rattle.route_join.specs.Owner.{is_about, advert_in, IsOwner}
use Rattle.mac_arena.specs.declared.station.Station.{Station}
use Rattle.mac_arena.specs.declared.station.Entry.{Entry}
use Rattle.mac_arena.specs.Learning.{entry_at}
use Rattle.ev_tunnel.specs.Datagram.{datagram_of}
use Rattle.ev_tunnel.specs.Decision.{is_up}
use Rattle.ev_claims.specs.Speaker.{Speaker, own, own_advert}
use Rattle.ev_claims.specs.LocalRoutes.{key_of}
use Rattle.ev_edge.specs.declared.config.EdgeConfig.{EdgeConfig}
use Rattle.ev_edge.specs.declared.event.Event.{Event}
use Rattle.ev_edge.specs.declared.reply.Reply.{Reply}
use Rattle.ev_edge.specs.Edge.{Edge, table_of, address_of}
use Rattle.ev_edge.specs.Steps.{Steps}
use Rattle.ev_fabric.specs.declared.refusal.FabricRefusal.{FabricRefusal}
use Rattle.ev_fabric.specs.declared.step.LocalEvent.{LocalEvent}
use Rattle.ev_fabric.specs.declared.step.Step.{Step}
use Rattle.ev_fabric.specs.declared.step.Step.TheVariants.{Local, Announce, Deliver, Restart}
use Rattle.ev_fabric.specs.Fabric.{Fabric, IsEdge, incarnation_of}
use Rattle.ev_fabric.specs.Steps.{FabricSteps}
use Rattle.ev_fabric.specs.Sound.{update_of, IsSound}
use Rattle.ev_fabric.specs.Agreed.{Advertises}
use Rattle.ev_fabric.specs.Laws.{IsBehindPort, IsFrameFor, GoesTo, ComesOut}
use Rattle.ev_fabric.specs.ConvergenceMove.{IsMoved}
use Rattle.ev_fabric.specs.Opening.{AreConfigs, IsStart}
use Rattle.ev_fabric.specs.ConvergenceEdge.{comes_back}
use Rattle.ev_fabric.specs.Convergence.{Rests, HasNumbers, announcing, each, two_rounds}

-- ---- registers

-- the register is of the station: of its MAC in its VNI, with any originator and any IP address
abbrev pub is_of : Station → Register → Bool
is_of s r = is_about s.vni s.mac r.key

abbrev pub is_flood_list : ℕ → Key → Bool
is_flood_list vni (Flood v) = v == vni
is_flood_list vni (Mac v m ip) = false

-- the register is of the flood list of the VNI
abbrev pub is_flood : ℕ → Register → Bool
is_flood vni r = is_flood_list vni r.key

-- ---- agreement

-- None of these registers is pending at any edge, and each edge has each update of the pool that has one of them, or a
-- newer one of its register. There is no premise on any other register.
pub record AgreesAbout (f : Fabric) (these : Register → Bool) : Type 0 where
  pub quiet : (i : ℕ) (a : Edge) (r : Register) → IsEdge f i a → these r ≡ true → Contains a.routes.speaker.pending r
      → ⊥
  pub arrived : (i : ℕ) (a : Edge) (u : Fields) → IsEdge f i a → these u.register ≡ true → Contains f.pool u
      → (v : Value) × (value_at (table_of a) u.register ≡ Some v) × (is_newer u.value v ≡ false)

-- the edges agree on the station
abbrev pub AgreesOn : Fabric → Station → Type 0
AgreesOn f s = AgreesAbout f (is_of s)

-- the edges agree on the flood list of a VNI
abbrev pub AgreesOnFlood : Fabric → ℕ → Type 0
AgreesOnFlood f vni = AgreesAbout f (is_flood vni)

-- edges that agree on everything agree on each station and on each flood list
pub record AgreesOnEach (f : Fabric) : Type 0 where
  pub stations : (s : Station) → AgreesOn f s
  pub floods : (vni : ℕ) → AgreesOnFlood f vni

-- ---- consequences for a station on which the edges agree

-- the originator is an edge of the fabric, and this is its present incarnation
pub record IsOfPresentIncarnation (f : Fabric) (o life : ℕ) : Type 0 where
  pub place : ℕ
  pub edge : Edge
  pub there : IsEdge f place edge
  pub address : address_of edge ≡ o
  pub present : life ≡ incarnation_of edge

pub record IsAgreedStation (f : Fabric) (s : Station) : Type 0 where
  -- each edge has the same values of the station's registers
  pub equal : (i j : ℕ) (a b : Edge) (r : Register) → IsEdge f i a → IsEdge f j b → is_of s r ≡ true
      → value_at (table_of a) r ≡ value_at (table_of b) r
  -- they are in the pool
  pub from : (i : ℕ) (a : Edge) (r : Register) (v : Value) → IsEdge f i a → is_of s r ≡ true
      → value_at (table_of a) r ≡ Some v → Contains f.pool (update_of r v)
  -- and the pool has no newer one of the register
  pub newest : (i : ℕ) (a : Edge) (u : Fields) (v : Value) → IsEdge f i a → is_of s u.register ≡ true
      → Contains f.pool u → value_at (table_of a) u.register ≡ Some v → is_newer u.value v ≡ false
  -- at most one edge of all advertises the station
  pub one : (i j : ℕ) (a b : Edge) → IsEdge f i a → IsEdge f j b → Advertises a s → Advertises b s → i ≡ j
  -- that edge has learnt it on a port of its VNI
  pub learnt : (i : ℕ) (a : Edge) → IsEdge f i a → Advertises a s → (x : Entry) × IsBehindPort a s x
  -- every edge takes it for the owner
  pub owner : (i j : ℕ) (a b : Edge) → IsEdge f i a → IsEdge f j b → Advertises a s
      → IsOwner (table_of b) s.vni s.mac (address_of a)
  -- none has an advert of an earlier incarnation of any originator
  pub present : (i : ℕ) (a : Edge) (r : Register) (v : Value) → IsEdge f i a → is_of s r ≡ true
      → value_at (table_of a) r ≡ Some v → IsSome (advert_in v.content)
      → IsOfPresentIncarnation f r.originator v.incarnation

abbrev pub AgreedStation : Type 0
AgreedStation = (f : Fabric) (s : Station) → IsSound f → AgreesOn f s → IsAgreedStation f s

-- if all agree on a station, a frame for it goes from another edge to the one that advertises it, and only there,
-- unless that one is away at this edge
abbrev pub StationFramesGo : Type 0
StationFramesGo = (f : Fabric) (s : Station) → IsSound f → AgreesOn f s → (i j : ℕ) (o a b : Edge) → IsEdge f i o
    → IsEdge f j a → i ≢ j → Advertises o s → is_up a.away (address_of o) ≡ true
    → (event : Event) (port : ℕ) (reply : Reply) → IsFrameFor a event port s → Steps a event (Ok reply) b
    → GoesTo (address_of o) reply

-- From port to port, in any other traffic of the fabric, if the edge o isn't away at the edge a: a frame at a port of
-- a, for a station that o advertises, goes to o only; and the datagram of its VNI and octets, entered at o, comes out
-- at the station's port. The VNI has three octets, as each VNI has by its type.
abbrev pub StationFromPortToPort : Type 0
StationFromPortToPort =
    (f : Fabric) (s : Station) → IsSound f → AgreesOn f s → (i j : ℕ) (o a b : Edge) → IsEdge f i o → IsEdge f j a
    → i ≢ j
    → Advertises o s → is_up a.away (address_of o) ≡ true
    → s.vni < 2 ^ 24 → (event : Event) (port : ℕ) (reply : Reply) → (frame : IsFrameFor a event port s)
    → Steps a event (Ok reply) b
    → GoesTo (address_of o) reply × ComesOut o (address_of a) (datagram_of s.vni frame.octets) s

-- ---- a move

-- All agree on the station, the edge at place i advertises it, and something comes from outside to the edge at place j,
-- which hasn't learnt it, and has then, by a frame or by a pin. Places are counted from 0.
pub record StationComes (old : Fabric) (i j : ℕ) (s : Station) (new : Fabric) : Type 0 where
  pub agree : AgreesOn old s
  pub from : Edge
  pub to : Edge
  pub at_from : IsEdge old i from
  pub at_to : IsEdge old j to
  pub had : Advertises from s
  pub unknown : entry_at to.routes.learned s ≡ None
  pub event : LocalEvent
  pub result : Result Reply FabricRefusal
  pub step : FabricSteps old (Local (suc j) event) result new
  pub after : Edge
  pub at_after : IsEdge new j after
  pub learnt : IsSome (entry_at after.routes.learned s)

-- the edge's own registers of the station stay: it isn't learnt there again, nor aged, flushed, pinned or unpinned
abbrev pub SaysTheSame : Station → Edge → Edge → Type 0
SaysTheSame s a b = (ip : Option Ip) → own b.routes.speaker (Mac s.vni s.mac ip)
    ≡ own a.routes.speaker (Mac s.vni s.mac ip)

-- the pool has no advert of the station by this originator
abbrev pub NeverAdvertised : List Fields → Station → ℕ → Type 0
NeverAdvertised pool s o = (u : Fields) → Contains pool u → u.register.originator ≡ o → is_of s u.register ≡ true
    → advert_in u.value.content ≡ None

-- The edge that restarts is neither of the two of the move, and it announced no advert of the station before.
pub record RestartsElsewhere (i j : ℕ) (s : Station) (old : Fabric) (x : ℕ) : Type 0 where
  pub not_from : x ≢ i
  pub not_to : x ≢ j
  pub never : (a : Edge) → IsEdge old x a → NeverAdvertised old.pool s (address_of a)

-- No event from outside changes an edge's own registers of the station; and an edge that restarts is neither of the two
-- edges of the move, and has announced no advert of the station. Every announcement and delivery is allowed, and so is
-- each restart that changes nothing.
abbrev pub LeavesStation : ℕ → ℕ → Station → Fabric → Step → Fabric → Type 0
LeavesStation i j s old (Local e event) new = (x : ℕ) (a b : Edge) → e ≡ suc x → IsEdge old x a → IsEdge new x b
    → SaysTheSame s a b
LeavesStation i j s old (Announce e) new = Unit {0}
LeavesStation i j s old (Deliver e k) new = Unit {0}
LeavesStation i j s old (Restart e n) new = (new ≡ old) ⊎ ((x : ℕ) → e ≡ suc x → RestartsElsewhere i j s old x)

-- any list of steps, with any results, each of which leaves the station so
abbrev pub RunsBeside : ℕ → ℕ → Station → Fabric → List Step → Fabric → Type 0
RunsBeside i j s old [] new = new ≡ old
RunsBeside i j s old (step ∷ steps) new = (mid : Fabric) × (result : Result Reply FabricRefusal)
    × FabricSteps old step result mid × LeavesStation i j s old step mid × RunsBeside i j s mid steps new

-- the updates of registers of the station, in their order
abbrev pub updates_on : Station → List Fields → List Fields
updates_on s us = filter (λ u. is_of s u.register) us

-- The result of a move: of the station's registers the pool has got two updates, an advert of the new place and then a
-- withdrawal of the old one; every edge takes the new place for the owner; the old one advertises the station no more.
pub record StationMoved (old : Fabric) (i : ℕ) (s : Station) (from to : ℕ) (new : Fabric) : Type 0 where
  pub pool : IsMoved (updates_on s old.pool) s from to (updates_on s new.pool)
  pub owner : (x : ℕ) (c : Edge) → IsEdge new x c → IsOwner (table_of c) s.vni s.mac to
  pub gone : (c : Edge) → IsEdge new i c → Advertises c s → ⊥

abbrev pub StationMoves : Type 0
StationMoves = (i j : ℕ) (s : Station) (old mid new : Fabric) (steps : List Step) → IsSound old
    → (m : StationComes old i j s mid) → RunsBeside i j s mid steps new → AgreesOn new s
    → StationMoved old i s (address_of m.from) (address_of m.to) new

-- ---- a move during which the old place may lose the station by itself

-- the edge at place i advertised the station and doesn't: it was aged, flushed or unpinned there
abbrev pub LosesItself : ℕ → Station → ℕ → Edge → Edge → Type 0
LosesItself i s x a b = (x ≡ i) × Advertises a s × (Advertises b s → ⊥)

-- as `LeavesStation`, but the edge at place i may lose the station
abbrev pub LeavesOrLoses : ℕ → ℕ → Station → Fabric → Step → Fabric → Type 0
LeavesOrLoses i j s old (Local e event) new = (x : ℕ) (a b : Edge) → e ≡ suc x → IsEdge old x a → IsEdge new x b
    → SaysTheSame s a b ⊎ LosesItself i s x a b
LeavesOrLoses i j s old (Announce e) new = Unit {0}
LeavesOrLoses i j s old (Deliver e k) new = Unit {0}
LeavesOrLoses i j s old (Restart e n) new = LeavesStation i j s old (Restart e n) new

abbrev pub RunsLosing : ℕ → ℕ → Station → Fabric → List Step → Fabric → Type 0
RunsLosing i j s old [] new = new ≡ old
RunsLosing i j s old (step ∷ steps) new = (mid : Fabric) × (result : Result Reply FabricRefusal)
    × FabricSteps old step result mid × LeavesOrLoses i j s old step mid × RunsLosing i j s mid steps new

-- The pool has got an advert of the station by one originator and a withdrawal by another, in either order.
pub record IsMovedAnyhow (old : List Fields) (s : Station) (from to : ℕ) (new : List Fields) : Type 0 where
  pub advert : Value
  pub withdrawal : Value
  pub is_advert : IsSome (advert_in advert.content)
  pub is_withdrawal : advert_in withdrawal.content ≡ None
  pub is : (new ≡ old ++ update_of (register_of to (key_of s)) advert
      ∷ update_of (register_of from (key_of s)) withdrawal ∷ [])
      ⊎ (new ≡ old ++ update_of (register_of from (key_of s)) withdrawal
      ∷ update_of (register_of to (key_of s)) advert ∷ [])

-- as `StationMoved`, with the two updates in any order
pub record StationMovedAnyhow (old : Fabric) (i : ℕ) (s : Station) (from to : ℕ) (new : Fabric) : Type 0 where
  pub pool : IsMovedAnyhow (updates_on s old.pool) s from to (updates_on s new.pool)
  pub owner : (x : ℕ) (c : Edge) → IsEdge new x c → IsOwner (table_of c) s.vni s.mac to
  pub gone : (c : Edge) → IsEdge new i c → Advertises c s → ⊥

abbrev pub StationMovesAnyhow : Type 0
StationMovesAnyhow = (i j : ℕ) (s : Station) (old mid new : Fabric) (steps : List Step) → IsSound old
    → (m : StationComes old i j s mid) → RunsLosing i j s mid steps new → AgreesOn new s
    → StationMovedAnyhow old i s (address_of m.from) (address_of m.to) new

-- ---- how far a move is from its end

-- each of m edges takes update k of the pool
abbrev pub all_take : ℕ → ℕ → List Step
all_take m k = each (λ e. Deliver e k ∷ []) m

-- The new place announces its pending updates, and one more; then there is an update that each edge takes; then the old
-- place announces its pending updates, and one more; then there is a second update, and once each edge has taken it
-- they agree on the station again.
abbrev pub StationArrives : Type 0
StationArrives = (i j : ℕ) (s : Station) (old mid told : Fabric) → IsSound old → HasNumbers mid
    → (m : StationComes old i j s mid) → Rests mid (announcing (suc j) (length m.to.routes.speaker.pending + 1)) told
    → (k : ℕ) × ((heard left : Fabric) → Rests told (all_take (length mid.edges) (suc k)) heard
    → Rests heard (announcing (suc i) (length m.from.routes.speaker.pending + 1)) left
    → (l : ℕ) × ((new : Fabric) → Rests left (all_take (length mid.edges) (suc l)) new → AgreesOn new s))

-- ---- an undisturbed station

-- No event from outside changes an edge's own registers of the station; and an edge that restarts has announced no
-- advert of it.
abbrev pub IsLeftAlone : Station → Fabric → Step → Fabric → Type 0
IsLeftAlone s old (Local e event) new = (x : ℕ) (a b : Edge) → e ≡ suc x → IsEdge old x a → IsEdge new x b
    → SaysTheSame s a b
IsLeftAlone s old (Announce e) new = Unit {0}
IsLeftAlone s old (Deliver e k) new = Unit {0}
IsLeftAlone s old (Restart e n) new = (new ≡ old) ⊎ ((x : ℕ) (a : Edge) → e ≡ suc x → IsEdge old x a
    → NeverAdvertised old.pool s (address_of a))

-- any list of steps, with any results, each of which leaves the station undisturbed
abbrev pub RunsAlone : Station → Fabric → List Step → Fabric → Type 0
RunsAlone s old [] new = new ≡ old
RunsAlone s old (step ∷ steps) new = (mid : Fabric) × (result : Result Reply FabricRefusal)
    × FabricSteps old step result mid
    × IsLeftAlone s old step mid × RunsAlone s mid steps new

-- no edge restarts
abbrev pub NoneRestarts : List Step → Type 0
NoneRestarts [] = Unit {0}
NoneRestarts (Local e event ∷ steps) = NoneRestarts steps
NoneRestarts (Announce e ∷ steps) = NoneRestarts steps
NoneRestarts (Deliver e k ∷ steps) = NoneRestarts steps
NoneRestarts (Restart e n ∷ steps) = ⊥

-- edges that agree on an undisturbed station go on agreeing while none restarts, and nothing of it is announced
abbrev pub StationLasts : Type 0
StationLasts = (s : Station) (steps : List Step) (old new : Fabric) → IsSound old → AgreesOn old s
    → RunsAlone s old steps new → NoneRestarts steps → AgreesOn new s × (updates_on s new.pool ≡ updates_on s old.pool)

-- two rounds lead an opened fabric to a state in which all agree on each station, and go on agreeing on it while it is
-- undisturbed and no edge restarts
abbrev pub StationReached : Type 0
StationReached = (configs : List EdgeConfig) (f : Fabric) → AreConfigs configs → IsStart configs f
    → (mid : Fabric) × Rests f (two_rounds f) mid × IsSound mid
    × ((s : Station) (steps : List Step) (new : Fabric) → RunsAlone s mid steps new → NoneRestarts steps
    → AgreesOn new s)

-- The number of updates of the station that the edge may still announce: the pending ones, one if it advertises the
-- station, and one for each own advert of an earlier incarnation that would come back from the pool.
abbrev pub unannounced_on : Station → List Fields → Speaker → ℕ
unannounced_on s pool e = length (filter (is_of s) e.pending) + (if is_some (own_advert e (key_of s)) then 1 else 0)
    + count_by (λ (u : Fields). is_of s u.register && comes_back e u) pool

abbrev pub to_come_on : Station → Fabric → ℕ
to_come_on s f = sum_by (λ (a : Edge). unannounced_on s f.pool a.routes.speaker) f.edges

-- the number of an undisturbed station's updates in the pool, plus those that may still come, never grows
abbrev pub StationSettles : Type 0
StationSettles = (s : Station) (steps : List Step) (old new : Fabric) → IsSound old → RunsAlone s old steps new
    → length (updates_on s new.pool) + to_come_on s new ≤ length (updates_on s old.pool) + to_come_on s old
