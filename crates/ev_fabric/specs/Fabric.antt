-- Edges that share a pool of announced updates.
use Rattle.std.specs.Prelude.{◌≡◌, ℕ, zero, suc, Option, Some, None, List, map, slice_get}
use Rattle.route_wire.specs.Fields.{Fields}
use Rattle.ev_edge.specs.declared.config.EdgeConfig.{EdgeConfig}
use Rattle.ev_edge.specs.Edge.{Edge}

-- The edges, the configuration with which each was opened last, and the announced updates, the first one first. Edges
-- and updates are counted from 1.
pub record Fabric : Type 0 where
  pub edges : List Edge
  pub configs : List EdgeConfig
  pub pool : List Fields

abbrev pub fabric_of : List Edge → List EdgeConfig → List Fields → Fabric
fabric_of edges configs pool = record { edges = edges; configs = configs; pool = pool }

-- the one at this place, counted from 1
abbrev pub nth : {X : Type 0} → List X → ℕ → Option X
nth xs zero = None
nth xs (suc i) = slice_get xs i

-- a is the edge at place i, counted from 0
abbrev pub IsEdge : Fabric → ℕ → Edge → Type 0
IsEdge f i a = slice_get f.edges i ≡ Some a

abbrev pub incarnation_of : Edge → ℕ
incarnation_of a = a.routes.speaker.incarnation

abbrev pub addresses_of : List EdgeConfig → List ℕ
addresses_of cs = map (λ c. c.address) cs
