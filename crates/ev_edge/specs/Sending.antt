-- The decision of an edge on a frame.
use Rattle.std.specs.Prelude.{◌≡◌, ℕ, ◌<◌, ◌^◌, Option}
use Rattle.std.specs.Option.{option_map}
use Rattle.ether_wire.specs.Ports.{has_port}
use Rattle.mac_arena.specs.declared.station.Entry.{Entry}
use Rattle.mac_arena.specs.Learning.{entry_at}
use Rattle.ev_tunnel.specs.declared.decision.Decision.{Decision}
use Rattle.ev_tunnel.specs.declared.decision.Source.{Source}
use Rattle.ev_tunnel.specs.Decision.{local_up, remote_up}
use Rattle.ev_claims.specs.LocalRoutes.{is_member}
use Rattle.ev_edge.specs.Edge.{Edge, table_of, address_of, ArePassing}

-- the port where the destination is learnt
abbrev pub port_of : Edge → ℕ → ℕ → Option ℕ
port_of e vni mac = option_map (λ (x : Entry). x.port) (entry_at e.routes.learned (record { vni = vni; mac = mac }))

-- The decision for a frame of this VNI and destination: by the edge's stations and routes, without the edges that are
-- away, over the ports of the VNI and the passing ports, each set a word.
pub record IsDecision (e : Edge) (vni destination : ℕ) (from : Source) (d : Decision) : Type 0 where
  pub members : ℕ
  pub members_fit : members < 2 ^ 64
  pub are_members : (p : ℕ) → has_port members p ≡ is_member e.routes.ports vni p
  pub passing : ℕ
  pub passing_fit : passing < 2 ^ 64
  pub are_passing : ArePassing e.tree passing
  pub local : d.local ≡ local_up e.away (table_of e) vni destination (port_of e vni destination) (address_of e) from
      members passing
  pub remote : d.remote.items ≡ remote_up e.away (table_of e) vni destination (port_of e vni destination) (address_of e)
      from
