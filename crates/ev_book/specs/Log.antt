-- The history of edges that share a pool of announced updates.
use Rattle.std.specs.Prelude.{◌≡◌, ◌+◌, ◌==◌, ◌++◌, ℕ, Bool, true, false, if◌then◌else◌, Option, Some, None, List, []}
use Rattle.std.specs.Prelude.{◌∷◌}
use Rattle.std.specs.Prelude.{Result, Ok, Err, Contains, slice_get}
use Rattle.route_wire.specs.Fields.{Fields}
use Rattle.ev_edge.specs.declared.config.EdgeConfig.{EdgeConfig}
use Rattle.ev_edge.specs.declared.event.Event.{Event}
use Rattle.ev_edge.specs.declared.event.Event.TheVariants as events
use Rattle.ev_edge.specs.declared.reply.Reply.{Reply}
use Rattle.ev_edge.specs.declared.refusal.Refusal.{Refusal}
use Rattle.ev_edge.specs.Edge.{Edge, IsGoodEdge}
use Rattle.ev_edge.specs.Opening as edges
use Rattle.ev_edge.specs.Steps.{Steps}
use Rattle.ev_book.specs.declared.log_entry.Deed.{Deed}
use Rattle.ev_book.specs.declared.log_entry.Deed.TheVariants.{Opens, Announces, Takes}
use Rattle.ev_book.specs.declared.log_entry.LogEntry.{LogEntry}
use Rattle.ev_book.specs.declared.log_entry.LogEntry.TheVariants.{Begins, Does}

-- ---- events between two entries of an edge

-- the update that an answer announces
abbrev pub announced_by : Result Reply Refusal → Option Fields
announced_by (Ok reply) = reply.announced
announced_by (Err refusal) = None

-- an event that no other edge can see: not an update of another edge, and no announcement
abbrev pub IsQuiet : Event → Result Reply Refusal → Type 0
IsQuiet (events.Take u) answer = ⊥
IsQuiet events.Announce answer = announced_by answer ≡ None
IsQuiet (events.Frame port octets) answer = Unit {0}
IsQuiet (events.TunnelFrame from octets) answer = Unit {0}
IsQuiet (events.Pin s port) answer = Unit {0}
IsQuiet (events.Unpin s) answer = Unit {0}
IsQuiet (events.Thaw s) answer = Unit {0}
IsQuiet events.Second answer = Unit {0}
IsQuiet (events.PortUp port) answer = Unit {0}
IsQuiet (events.PortDown port) answer = Unit {0}
IsQuiet (events.Mcheck port) answer = Unit {0}
IsQuiet (events.Away a) answer = Unit {0}
IsQuiet (events.Back a) answer = Unit {0}

-- the edge goes by these events, of which no other edge can see one; the list has the last event first
abbrev pub Goes : Edge → List Event → Edge → Type 0
Goes a [] b = b ≡ a
Goes a (event ∷ earlier) b =
    (mid : Edge) × (answer : Result Reply Refusal) × Goes a earlier mid × IsQuiet event answer × Steps mid event
    answer b

abbrev pub Reaches : Edge → Edge → Type 0
Reaches a b = (events : List Event) × Goes a events b

-- ---- the edges and the pool after a history

-- whether updates of other processes come in, the configurations, each open edge by its place, and
-- the announced updates, the first one first
pub record World : Type 0 where
  pub outside : Bool
  pub configs : List EdgeConfig
  pub edges : ℕ → Option Edge
  pub pool : List Fields

abbrev pub world_of : Bool → List EdgeConfig → (ℕ → Option Edge) → List Fields → World
world_of outside configs edges pool = record { outside = outside; configs = configs; edges = edges; pool = pool }

-- no edge is open yet
abbrev pub begun : Bool → List EdgeConfig → World
begun outside configs = world_of outside configs (λ n. None) []

-- the update was announced here, or it may be of another process
abbrev pub IsKnown : Bool → List Fields → Fields → Type 0
IsKnown true pool u = Unit {0}
IsKnown false pool u = Contains pool u

abbrev pub pool_after : List Fields → Deed → List Fields
pool_after pool Opens = pool
pool_after pool (Announces u) = pool ++ u ∷ []
pool_after pool (Takes u) = pool

abbrev pub edges_after : (ℕ → Option Edge) → ℕ → Edge → ℕ → Option Edge
edges_after edges place later n = if place == n then Some later else edges n

abbrev pub world_after : World → LogEntry → World
world_after w (Begins outside configs) = w
world_after w (Does place deed later) =
    world_of w.outside w.configs (edges_after w.edges place later) (pool_after w.pool deed)

abbrev pub end_of : World → List LogEntry → World
end_of w [] = w
end_of w (e ∷ es) = end_of (world_after w e) es

-- ---- histories

-- an open edge goes by events that no other edge can see, and then by this event
pub record Turns (old : Option Edge) (event : Event) (answer : Result Reply Refusal) (later : Edge) : Type 0 where
  pub before : Edge
  pub is_open : old ≡ Some before
  pub mid : Edge
  pub reaches : Reaches before mid
  pub steps : Steps mid event answer later

-- an edge that isn't open is opened with its configuration
pub record IsOpening (w : World) (place : ℕ) (later : Edge) : Type 0 where
  pub config : EdgeConfig
  pub is_there : slice_get w.configs place ≡ Some config
  pub closed : w.edges place ≡ None
  pub opens : edges.IsOpening config later
  pub good : IsGoodEdge later

-- the edge announces an update
pub record Announcing (old : Option Edge) (u : Fields) (later : Edge) : Type 0 where
  pub reply : Reply
  pub turns : Turns old events.Announce (Ok reply) later
  pub says : reply.announced ≡ Some u

-- The edge is given an update that was announced before, which it may refuse. If updates of other processes come in, it
-- may be one of these.
pub record Taking (outside : Bool) (pool : List Fields) (old : Option Edge) (u : Fields) (later : Edge) : Type 0 where
  pub known : IsKnown outside pool u
  pub answer : Result Reply Refusal
  pub turns : Turns old (events.Take u) answer later

abbrev pub Follows : World → LogEntry → Type 0
Follows w (Begins outside configs) = ⊥
Follows w (Does place Opens later) = IsOpening w place later
Follows w (Does place (Announces u) later) = Announcing (w.edges place) u later
Follows w (Does place (Takes u) later) = Taking w.outside w.pool (w.edges place) u later

-- each entry follows the ones before it
abbrev pub AreLegal : World → List LogEntry → Type 0
AreLegal w [] = Unit {0}
AreLegal w (e ∷ es) = Follows w e × AreLegal (world_after w e) es

abbrev pub IsHistory : List LogEntry → Type 0
IsHistory [] = ⊥
IsHistory (Begins outside configs ∷ es) = AreLegal (begun outside configs) es
IsHistory (Does place deed later ∷ es) = ⊥

-- the edges and the pool at the end of a history
abbrev pub world : List LogEntry → World
world [] = begun false []
world (Begins outside configs ∷ es) = end_of (begun outside configs) es
world (Does place deed later ∷ es) = begun false []

-- ---- the number of an edge's entries

abbrev pub is_one : Bool → ℕ
is_one true = 1
is_one false = 0

abbrev pub is_of : ℕ → LogEntry → ℕ
is_of n (Begins outside configs) = 0
is_of n (Does place deed later) = is_one (place == n)

abbrev pub count : ℕ → List LogEntry → ℕ
count n [] = 0
count n (e ∷ es) = is_of n e + count n es
