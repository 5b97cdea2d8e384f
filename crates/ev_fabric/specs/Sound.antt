-- The invariant of every fabric: each edge is good, and the pool accounts for the updates of each edge. Two edges are
-- compared by their addresses only.
use Rattle.std.specs.Prelude.{◌≡◌, ◌≢◌, ◌⊎◌, ℕ, ◌<◌, true, Some, List, length, slice_get, Contains}
use Rattle.route_wire.specs.declared.update.Register.{Register}
use Rattle.route_wire.specs.declared.update.Value.{Value}
use Rattle.route_wire.specs.Fields.{Fields}
use Rattle.route_join.specs.Table.{Table, value_at, is_listed}
use Rattle.ev_claims.specs.Speaker.{Speaker}
use Rattle.ev_edge.specs.declared.config.EdgeConfig.{EdgeConfig}
use Rattle.ev_edge.specs.Config.{IsConfig}
use Rattle.ev_edge.specs.Edge.{Edge, IsGoodEdge, table_of, address_of}
use Rattle.ev_fabric.specs.Fabric.{Fabric, IsEdge, incarnation_of}

abbrev pub update_of : Register → Value → Fields
update_of r v = record { register = r; value = v }

-- The update is of the present incarnation n, and the table has its value, or one of n with a higher number.
pub record IsBehind (n : ℕ) (t : Table) (u : Fields) : Type 0 where
  pub present : u.value.incarnation ≡ n
  pub says : Value
  pub there : value_at t u.register ≡ Some says
  pub alive : says.incarnation ≡ n
  pub order : (u.value ≡ says) ⊎ (u.value.counter < says.counter)

-- How the pool accounts for an edge's table: each value of another originator was announced; each own value was
-- announced or is pending; each own update announced in this incarnation is the present value, or has a lower number.
pub record IsTold (pool : List Fields) (e : Speaker) : Type 0 where
  pub foreign : (r : Register) (v : Value) → r.originator ≢ e.address → value_at e.table r ≡ Some v
      → Contains pool (update_of r v)
  pub own : (r : Register) (v : Value) → r.originator ≡ e.address → value_at e.table r ≡ Some v
      → (Contains e.pending r → ⊥) → Contains pool (update_of r v)
  pub behind : (u : Fields) → Contains pool u → u.register.originator ≡ e.address
      → (u.value.incarnation < e.incarnation) ⊎ IsBehind e.incarnation e.table u

-- of one register, incarnation and number there is one update
abbrev pub SaidOnce : List Fields → Type 0
SaidOnce pool = (u w : Fields) → Contains pool u → Contains pool w → u.register ≡ w.register
    → u.value.incarnation ≡ w.value.incarnation → u.value.counter ≡ w.value.counter → u ≡ w

-- the edge was opened with c
pub record IsOf (c : EdgeConfig) (a : Edge) : Type 0 where
  pub config : IsConfig c
  pub address : address_of a ≡ c.address
  pub life : incarnation_of a ≡ c.incarnation
  pub originators : (table_of a).originators ≡ c.originators.items

pub record IsSound (f : Fabric) : Type 0 where
  pub apart : (i j : ℕ) (a b : Edge) → IsEdge f i a → IsEdge f j b → address_of a ≡ address_of b → i ≡ j
  pub good : (i : ℕ) (a : Edge) → IsEdge f i a → IsGoodEdge a
  pub told : (i : ℕ) (a : Edge) → IsEdge f i a → IsTold f.pool a.routes.speaker
  pub once : SaidOnce f.pool
  pub sources : (u : Fields) → Contains f.pool u → (i : ℕ) × (a : Edge) × IsEdge f i a
      × (address_of a ≡ u.register.originator)
  pub listed : (i j : ℕ) (a b : Edge) → IsEdge f i a → IsEdge f j b → is_listed (table_of a) (address_of b) ≡ true
  pub count : length f.configs ≡ length f.edges
  pub configs : (i : ℕ) (c : EdgeConfig) (a : Edge) → slice_get f.configs i ≡ Some c → IsEdge f i a → IsOf c a
