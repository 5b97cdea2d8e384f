-- Destinations of frames for a station between its move and the agreement on it.
use Rattle.std.specs.Prelude.{◌≡◌, ◌≢◌, ◌⊎◌, ℕ, Some, Ok, List}
use Rattle.ether_wire.specs.Ports.{has_port}
use Rattle.route_join.specs.Flood.{flood_of}
use Rattle.mac_arena.specs.declared.station.Station.{Station}
use Rattle.mac_arena.specs.declared.station.Entry.{Entry}
use Rattle.ev_tunnel.specs.declared.decision.Decision.{Decision}
use Rattle.ev_tunnel.specs.declared.decision.Source.TheVariants.{Port}
use Rattle.ev_tunnel.specs.Decision.{open_ports, others_of, up_edges}
use Rattle.ev_claims.specs.LocalRoutes.{is_member}
use Rattle.ev_edge.specs.declared.event.Event.{Event}
use Rattle.ev_edge.specs.declared.reply.Reply.{Reply}
use Rattle.ev_edge.specs.Edge.{Edge, table_of, address_of, ArePassing}
use Rattle.ev_edge.specs.Steps.{Steps}
use Rattle.rstp_run.specs.Events.{Passes}
use Rattle.ev_fabric.specs.declared.step.Step.{Step}
use Rattle.ev_fabric.specs.Fabric.{Fabric, IsEdge}
use Rattle.ev_fabric.specs.Sound.{IsSound}
use Rattle.ev_fabric.specs.Laws.{IsBehindPort, IsFrameFor, GoesTo, GoesOut}
use Rattle.ev_fabric.specs.Station.{StationComes, RunsBeside, NoneRestarts}

-- The frame is sent like one for an unknown station: to each port of the VNI that passes, except its own, and to each
-- other edge that advertises the VNI's flood list and isn't away.
pub record IsFlooded (e : Edge) (s : Station) (port : ℕ) (reply : Reply) : Type 0 where
  pub decision : Decision
  pub there : reply.decision ≡ Some decision
  pub members : ℕ
  pub are_members : (p : ℕ) → has_port members p ≡ is_member e.routes.ports s.vni p
  pub passing : ℕ
  pub are_passing : ArePassing e.tree passing
  pub local : decision.local ≡ open_ports (Port port) (record { members = members; passing = passing })
  pub remote : decision.remote.items ≡ others_of (address_of e) (up_edges e.away (flood_of (table_of e) s.vni))

-- the frame goes to the port on which the edge has learnt the station itself
abbrev pub GoesHome : Edge → Station → ℕ → Reply → Type 0
GoesHome a s port reply = (x : Entry) × IsBehindPort a s x
    × GoesOut x.port (Passes a.tree x.port × (x.port ≢ port)) reply

-- After a move and any steps of `RunsBeside` without a restart, an edge sends a frame for the station only to the old
-- place, only to the new place, or to all. Only these two may send it to a port on which they have learnt the station.
abbrev pub FramesMeanwhile : Type 0
FramesMeanwhile =
    (i j : ℕ) (s : Station) (old mid new : Fabric) (steps : List Step) → IsSound old → (m : StationComes old i j s mid)
    → RunsBeside i j s mid steps new → NoneRestarts steps → (x : ℕ) (a b : Edge) → IsEdge new x a
    → (event : Event) (port : ℕ) (reply : Reply) → IsFrameFor a event port s → Steps a event (Ok reply) b
    → (((x ≡ i) ⊎ (x ≡ j)) × GoesHome a s port reply) ⊎ GoesTo (address_of m.from) reply
    ⊎ GoesTo (address_of m.to) reply ⊎ IsFlooded b s port reply
