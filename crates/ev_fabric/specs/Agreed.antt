-- When all edges of a fabric agree.
use Rattle.std.specs.Prelude.{◌≡◌, ℕ, false, Option, Some, [], Contains}
use Rattle.route_wire.specs.declared.update.Ip.{Ip}
use Rattle.route_wire.specs.declared.update.Key.TheVariants.{Mac}
use Rattle.route_wire.specs.declared.update.Advert.{Advert}
use Rattle.route_wire.specs.declared.update.Value.{Value}
use Rattle.route_wire.specs.Fields.{Fields}
use Rattle.route_wire.specs.Order.{is_newer}
use Rattle.route_join.specs.Table.{value_at}
use Rattle.mac_arena.specs.declared.station.Station.{Station}
use Rattle.ev_claims.specs.Speaker.{own_advert}
use Rattle.ev_edge.specs.Edge.{Edge, table_of}
use Rattle.ev_fabric.specs.Fabric.{Fabric, IsEdge}

-- Nothing is pending, and each edge has each update of the pool, or a newer one of its register.
pub record AllAgree (f : Fabric) : Type 0 where
  pub quiet : (i : ℕ) (a : Edge) → IsEdge f i a → a.routes.speaker.pending ≡ []
  pub arrived : (i : ℕ) (a : Edge) → IsEdge f i a → (u : Fields) → Contains f.pool u
      → (v : Value) × (value_at (table_of a) u.register ≡ Some v) × (is_newer u.value v ≡ false)

-- the edge advertises the station, with some IP address or with none
abbrev pub Advertises : Edge → Station → Type 0
Advertises a s = (ip : Option Ip) × (x : Advert) × (own_advert a.routes.speaker (Mac s.vni s.mac ip) ≡ Some x)
