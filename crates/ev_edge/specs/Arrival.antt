-- The kind of an arriving frame, or the cause of its refusal.
use Rattle.std.specs.Prelude.{ℕ, ◌==◌, ◌&&◌, Bool, not, if◌then◌else◌, Option, Some, None, Result, Ok, Err}
use Rattle.std.specs.Prelude.{List, length, take, drop, nat_eq}
use Rattle.std.specs.List.{list_any}
use Rattle.std.specs.Cmp.Lexicographic.{pointwise}
use Rattle.ether_wire.specs.Addr.{is_reserved, bridge_group}
use Rattle.ether_wire.specs.BpduFrame.{bpdu_llc}
use Rattle.ether_wire.specs.Frame.{frame_of, destination_of, source_of, has_length, payload_of}
use Rattle.ether_wire.specs.Ports.{place_of_port}
use Rattle.ether_wire.specs.declared.frame.FrameRefusal.{FrameRefusal}
use Rattle.bpdu_wire.specs.Reading.{reading}
use Rattle.bpdu_wire.specs.declared.bpdu.Bpdu.{Bpdu}
use Rattle.bpdu_wire.specs.declared.refusal.BpduRefusal as bpdu
use Rattle.vxlan_wire.specs.Vxlan.{instance_of}
use Rattle.vxlan_wire.specs.declared.vxlan.VxlanRefusal as vxlan
use Rattle.rstp_state.specs.Port.{test_at}
use Rattle.rstp_run.specs.Rules.{Tree}
use Rattle.route_join.specs.Table.{is_listed}
use Rattle.ev_claims.specs.LocalRoutes.{vni_at}
use Rattle.ev_edge.specs.declared.arrival.Arrival.{Arrival}
use Rattle.ev_edge.specs.declared.arrival.Arrival.TheVariants.{Dropped, Message, Data}
use Rattle.ev_edge.specs.declared.refusal.Refusal.{Refusal}
use Rattle.ev_edge.specs.declared.refusal.Refusal.TheVariants.{Ether, Bpdu as OfBpdu, Vxlan, Edge as OfEdge}
use Rattle.ev_edge.specs.declared.refusal.EdgeRefusal.TheVariants.{UnknownOriginator, NoSuchPort, NoSuchVni}
use Rattle.ev_edge.specs.declared.refusal.EdgeRefusal.TheVariants.{PortStorm}
use Rattle.ev_edge.specs.Edge.{Edge, table_of, address_of}
use Rattle.ev_edge.specs.Storms.{is_stormy}

-- the LLC header of the spanning tree in front of the payload (IEEE 802.1D-2004, section 9.2)
abbrev pub has_llc : List ℕ → Bool
has_llc payload = pointwise nat_eq (take (length bpdu_llc) payload) bpdu_llc

-- the frame holds a BPDU: it goes to the bridge group (7.12.6)
abbrev pub holds_bpdu : List ℕ → Bool
holds_bpdu frame = destination_of frame == bridge_group && (has_length frame && has_llc (payload_of frame))

-- the frame after the header
abbrev pub bpdu_in : List ℕ → List ℕ
bpdu_in frame = drop (length bpdu_llc) (payload_of frame)

abbrev pub message_in : Result Bpdu bpdu.BpduRefusal → Result Arrival Refusal
message_in (Ok b) = Ok (Message b)
message_in (Err r) = Err (OfBpdu r)

-- at a reserved destination anything but a BPDU is dropped
abbrev pub reserved_arrival : List ℕ → Result Arrival Refusal
reserved_arrival frame = if holds_bpdu frame then message_in (reading (bpdu_in frame)) else Ok Dropped

abbrev pub data_in : ℕ → List ℕ → Arrival
data_in vni frame = Data vni (destination_of frame) (source_of frame)

-- ---- on an access port

abbrev pub is_up : Tree → ℕ → Bool
is_up tree p = test_at (place_of_port p) (λ port. port.enabled) tree.ports

-- a port that is down drops all frames
abbrev pub arrival_at : Bool → ℕ → Result (List ℕ) FrameRefusal → Result Arrival Refusal
arrival_at up vni (Err r) = Err (Ether r)
arrival_at up vni (Ok frame) =
    if up then (if is_reserved (destination_of frame) then reserved_arrival frame else Ok (data_in vni frame))
    else Ok Dropped

abbrev pub arrival_on : Option ℕ → Bool → List ℕ → Result Arrival Refusal
arrival_on None up octets = Err (OfEdge NoSuchPort)
arrival_on (Some vni) up octets = arrival_at up vni (frame_of octets)

-- these octets come at port p
abbrev pub port_arrival : Edge → ℕ → List ℕ → Result Arrival Refusal
port_arrival e p octets = arrival_on (vni_at e.routes.ports p) (is_up e.tree p) octets

-- a group or unknown frame beyond the storm limit of port p is refused; a BPDU never is
abbrev pub admitted : Edge → ℕ → Result Arrival Refusal → Result Arrival Refusal
admitted e p (Err r) = Err r
admitted e p (Ok Dropped) = Ok Dropped
admitted e p (Ok (Message b)) = Ok (Message b)
admitted e p (Ok (Data vni destination source)) =
    if is_stormy e p vni destination then Err (OfEdge (PortStorm p)) else Ok (Data vni destination source)

-- these octets come at port p, within its storm limit or beyond it
abbrev pub frame_arrival : Edge → ℕ → List ℕ → Result Arrival Refusal
frame_arrival e p octets = admitted e p (port_arrival e p octets)

-- ---- from a tunnel

-- the network is one of the edge's
abbrev pub serves : Edge → ℕ → Bool
serves e vni = list_any (λ v. v == vni) e.routes.vnis

abbrev pub inner_arrival : ℕ → Result (List ℕ) FrameRefusal → Result Arrival Refusal
inner_arrival vni (Err r) = Err (Ether r)
inner_arrival vni (Ok frame) = if is_reserved (destination_of frame) then Ok Dropped else Ok (data_in vni frame)

abbrev pub datagram_arrival : Edge → Result (ℕ × List ℕ) vxlan.VxlanRefusal → Result Arrival Refusal
datagram_arrival e (Err r) = Err (Vxlan r)
datagram_arrival e (Ok inner) = if serves e inner.0 then inner_arrival inner.0 (frame_of inner.1) else Err
    (OfEdge NoSuchVni)

-- only other edges that are listed are heard
abbrev pub is_other : Edge → ℕ → Bool
is_other e from = is_listed (table_of e) from && not (from == address_of e)

-- this datagram comes from an edge
abbrev pub tunnel_arrival : Edge → ℕ → List ℕ → Result Arrival Refusal
tunnel_arrival e from octets = if is_other e from then datagram_arrival e (instance_of octets) else Err
    (OfEdge UnknownOriginator)
