-- The configurations with which a fabric may be opened, and its state then.
use Rattle.std.specs.Prelude.{◌≡◌, ℕ, ◌<◌, ◌≤◌, eqb, Some, List, [], length, slice_get, Contains}
use Rattle.std.specs.List.{IsDistinct}
use Rattle.ev_edge.specs.declared.config.EdgeConfig.{EdgeConfig}
use Rattle.ev_edge.specs.Config.{IsConfig}
use Rattle.ev_edge.specs.Edge.{Edge, IsGoodEdge}
use Rattle.ev_edge.specs.Opening.{IsOpening}
use Rattle.ev_fabric.specs.Fabric.{Fabric, addresses_of}

-- the edge accepts updates from each of these addresses
abbrev pub ListsAll : List ℕ → EdgeConfig → Type 0
ListsAll addresses c = (o : ℕ) → Contains addresses o → Contains c.originators.items o

-- 1 to 64 edges of different addresses, each of which accepts updates from all
pub record AreConfigs (cs : List EdgeConfig) : Type 0 where
  pub some : 0 < length cs
  pub few : length cs ≤ 64
  pub apart : IsDistinct eqb (addresses_of cs)
  pub configs : (c : EdgeConfig) → Contains cs c → IsConfig c
  pub listed : (c : EdgeConfig) → Contains cs c → ListsAll (addresses_of cs) c

-- each edge is as it is opened, and good, as its type states
pub record AreOpened (cs : List EdgeConfig) (edges : List Edge) : Type 0 where
  pub count : length edges ≡ length cs
  pub opened : (i : ℕ) (c : EdgeConfig) (a : Edge) → slice_get cs i ≡ Some c → slice_get edges i ≡ Some a
      → IsOpening c a
  pub good : (i : ℕ) (a : Edge) → slice_get edges i ≡ Some a → IsGoodEdge a

-- the edges are opened, and nothing is announced
pub record IsStart (cs : List EdgeConfig) (f : Fabric) : Type 0 where
  pub configs : f.configs ≡ cs
  pub opened : AreOpened cs f.edges
  pub quiet : f.pool ≡ []
