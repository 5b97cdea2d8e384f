-- The parcels of a book's answer for the links of its edge.
use Rattle.std.specs.Prelude.{ℕ, Bool, false, true, List, [], ◌++◌, map, Option, Some, None}
use Rattle.ether_wire.specs.BpduFrame.{bpdu_frame_of}
use Rattle.ether_wire.specs.Ports.{ports_of}
use Rattle.bpdu_wire.specs.declared.bpdu.Bpdu.{Bpdu}
use Rattle.bpdu_wire.specs.Writing.{octets_of}
use Rattle.ev_tunnel.specs.declared.decision.Decision.{Decision}
use Rattle.ev_tunnel.specs.Datagram.{datagram_of}
use Rattle.ev_edge.specs.declared.reply.Reply.{Reply}
use Rattle.ev_peers.specs.declared.outlet.Target.{Target}
use Rattle.ev_peers.specs.declared.outlet.Target.TheVariants.{Port, Edge}

-- octets, the link that they are for, and whether they go before its frames
pub record Parcel : Type 0 where
  pub to : Target
  pub octets : List ℕ
  pub is_first : Bool

-- a frame for a link
abbrev pub parcel : Target → List ℕ → Parcel
parcel to octets = record { to = to; octets = octets; is_first = false }

-- a BPDU's frame for a port's link
abbrev pub first_parcel : ℕ → List ℕ → Parcel
first_parcel port octets = record { to = Port port; octets = octets; is_first = true }

-- ---- one reply

-- a BPDU goes out at its port, before frames, in the frame that carries it
abbrev pub bpdu_parcel : ℕ → ℕ × Bpdu → Parcel
bpdu_parcel bridge sent = first_parcel sent.0 (bpdu_frame_of bridge (octets_of sent.1))

-- the frame, unchanged, for each of these ports
abbrev pub to_ports : List ℕ → List ℕ → List Parcel
to_ports frame ports = map (λ port. parcel (Port port) frame) ports

-- the datagram for each of these edges
abbrev pub to_edges : List ℕ → List ℕ → List Parcel
to_edges datagram edges = map (λ edge. parcel (Edge edge) datagram) edges

-- the frame for each port of a decision, ascending; then the frame in a datagram for each edge of the decision
abbrev pub decided : ℕ → List ℕ → Option Decision → List Parcel
decided vni frame None = []
decided vni frame (Some d) = to_ports frame (ports_of d.local) ++ to_edges (datagram_of vni frame) d.remote.items

-- the BPDUs, then the frame for the ports and edges of the decision
abbrev pub parcels_of : ℕ → ℕ → List ℕ → Reply → List Parcel
parcels_of bridge vni frame reply = map (bpdu_parcel bridge) reply.bpdus.items ++ decided vni frame reply.decision
