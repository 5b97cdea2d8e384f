-- Which stations go from the learning table at an event: a test on each entry. No other one goes.
use Rattle.std.specs.Prelude.{◌≡◌, ◌↔◌, ℕ, ◌+◌, ◌==◌, ◌&&◌, ◌||◌, not, nat_le, Bool, true, false}
use Rattle.std.specs.Prelude.{Option, Some, None, IsSome, Result, Ok, Err}
use Rattle.route_wire.specs.Fields.{Fields}
use Rattle.mac_arena.specs.declared.station.Station.{Station}
use Rattle.mac_arena.specs.declared.station.Entry.{Entry}
use Rattle.mac_arena.specs.Station.{is_same}
use Rattle.mac_arena.specs.Learning.{entry_at, is_pinned}
use Rattle.rstp_run.specs.declared.event.Event as tree
use Rattle.rstp_run.specs.declared.event.Event.TheVariants as tree_events
use Rattle.ev_claims.specs.LocalRoutes.{after_update, is_lost, station_of}
use Rattle.ev_claims.specs.Leaving.{goes_by_flush}
use Rattle.ev_edge.specs.declared.arrival.Arrival.{Arrival}
use Rattle.ev_edge.specs.declared.arrival.Arrival.TheVariants.{Dropped, Message, Data}
use Rattle.ev_edge.specs.declared.event.Event.{Event}
use Rattle.ev_edge.specs.declared.event.Event.TheVariants as events
use Rattle.ev_edge.specs.declared.refusal.Refusal.{Refusal}
use Rattle.ev_edge.specs.declared.reply.Reply.{Reply}
use Rattle.ev_edge.specs.Edge.{Edge, IsGoodEdge, address_of}
use Rattle.ev_edge.specs.Arrival.{frame_arrival}
use Rattle.ev_edge.specs.Bridging.{BridgeGoes, next_second}
use Rattle.ev_edge.specs.Steps.{Steps}

-- of the stations that are learnt exactly those go that pass the test
abbrev pub GoExactly : Edge → Edge → (Station → Bool) → Type 0
GoExactly e e' goes =
    (s : Station) → IsSome (entry_at e.routes.learned s)
    → (entry_at e'.routes.learned s ≡ None) ↔ (goes s ≡ true)

-- ---- the tests

abbrev pub nobody : Station → Bool
nobody s = false

-- an unpinned one behind a port that is flushed
abbrev pub is_flushed : Edge → ℕ → Station → Bool
is_flushed e flush s = goes_by_flush flush (entry_at e.routes.learned s)

-- an unpinned station whose last frame is at least this number of seconds old
abbrev pub is_old : ℕ → ℕ → Option Entry → Bool
is_old ageing now None = false
is_old ageing now (Some x) = not x.pinned && nat_le (x.last + ageing) now

-- as a second passes: behind a port that is flushed, or too old by the new second
abbrev pub goes_in_second : Edge → ℕ → Station → Bool
goes_in_second e flush s =
    is_flushed e flush s || is_old e.ageing (next_second e.clock) (entry_at e.routes.learned s)

abbrev pub is_of : Option Station → Station → Bool
is_of None s = false
is_of (Some q) s = is_same q s

-- The station of another edge's update: of all adverts in the table with the update the edge's
-- own one isn't the best.
abbrev pub goes_by_take : Edge → Fields → Station → Bool
goes_by_take e u s =
    not (u.register.originator == address_of e)
    && (is_of (station_of u.register.key) s && is_lost (after_update e.routes u) s)

-- the station itself, if it is pinned
abbrev pub goes_by_unpin : Edge → Station → Station → Bool
goes_by_unpin e q s = is_same q s && is_pinned (entry_at e.routes.learned s)

-- ---- by event

-- those go that are behind the ports that the bridge flushes as it goes on
pub record FlushRemoves (event : tree.Event) (e : Edge) (reply : Reply) (e' : Edge) : Type 0 where
  pub flush : ℕ
  pub goes : BridgeGoes event e.tree e'.tree flush reply.bpdus.items
  pub gone : GoExactly e e' (is_flushed e flush)

pub record SecondRemoves (e : Edge) (reply : Reply) (e' : Edge) : Type 0 where
  pub flush : ℕ
  pub goes : BridgeGoes tree_events.Second e.tree e'.tree flush reply.bpdus.items
  pub gone : GoExactly e e' (goes_in_second e flush)

-- a frame takes no station but by a BPDU
abbrev pub FrameRemoves : Result Arrival Refusal → Edge → ℕ → Reply → Edge → Type 0
FrameRemoves (Err r) e port reply e' = GoExactly e e' nobody
FrameRemoves (Ok Dropped) e port reply e' = GoExactly e e' nobody
FrameRemoves (Ok (Message b)) e port reply e' = FlushRemoves (tree_events.Bpdu port b) e reply e'
FrameRemoves (Ok (Data vni destination source)) e port reply e' = GoExactly e e' nobody

abbrev pub RemovesBy : Event → Edge → Reply → Edge → Type 0
RemovesBy (events.Frame port octets) e reply e' =
    FrameRemoves (frame_arrival e port octets.now) e port reply e'
RemovesBy (events.TunnelFrame from octets) e reply e' = GoExactly e e' nobody
RemovesBy (events.Take u) e reply e' = GoExactly e e' (goes_by_take e u)
RemovesBy (events.Pin s port) e reply e' = GoExactly e e' nobody
RemovesBy (events.Unpin s) e reply e' = GoExactly e e' (goes_by_unpin e s)
RemovesBy (events.Thaw s) e reply e' = GoExactly e e' nobody
RemovesBy events.Second e reply e' = SecondRemoves e reply e'
RemovesBy (events.PortUp port) e reply e' = FlushRemoves (tree_events.PortUp port) e reply e'
RemovesBy (events.PortDown port) e reply e' = FlushRemoves (tree_events.PortDown port) e reply e'
RemovesBy (events.Mcheck port) e reply e' = FlushRemoves (tree_events.Mcheck port) e reply e'
RemovesBy events.Announce e reply e' = GoExactly e e' nobody
RemovesBy (events.Away a) e reply e' = GoExactly e e' nobody
RemovesBy (events.Back a) e reply e' = GoExactly e e' nobody

-- a refused event removes no station
abbrev pub Removed : Event → Edge → Result Reply Refusal → Edge → Type 0
Removed event e (Ok reply) e' = RemovesBy event e reply e'
Removed event e (Err r) e' = GoExactly e e' nobody

-- so it is at each event of each good edge
abbrev pub StepsRemove : Type 0
StepsRemove =
    (e : Edge) (event : Event) (result : Result Reply Refusal) (e' : Edge)
    → IsGoodEdge e → Steps e event result e' → Removed event e result e'
