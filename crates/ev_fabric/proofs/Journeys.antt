-- From a port of one edge to the port of another: the datagram that the first one sends comes out at the second.
use Rattle.std.proofs.lemmas.Bool.{and_from}
use Rattle.std.proofs.Common.{◌≡◌, ◌≢◌, ℕ, zero, suc, ◌<◌, ◌==◌, ◌^◌, Bool, true, false, cond, not, drop, Option, Some}
use Rattle.std.proofs.Common.{None, Result, Ok, Err, List, refl, sym, ap, ◌∙◌, arith}
use Rattle.std.proofs.lemmas.Bool.Decides.{nat_tests}
use Rattle.ether_wire.specs.Frame.{frame_of, destination_of, payload_of}
use Rattle.ether_wire.specs.declared.frame.FrameRefusal.{FrameRefusal}
use Rattle.bpdu_wire.specs.Reading.{reading}
use Rattle.bpdu_wire.specs.declared.bpdu.Bpdu.{Bpdu}
use Rattle.bpdu_wire.specs.declared.refusal.BpduRefusal as bpdu
use Rattle.vxlan_wire.proofs.VxlanLemmas.{instance_of-header_of}
use Rattle.route_join.specs.Table.{is_listed}
use Rattle.mac_arena.specs.declared.station.Entry.{Entry}
use Rattle.ev_tunnel.specs.Datagram.{datagram_of}
use Rattle.ev_claims.specs.LocalRoutes.{vni_at}
use Rattle.ev_edge.specs.declared.arrival.Arrival.{Arrival}
use Rattle.ev_edge.specs.declared.arrival.Arrival.TheVariants.{Dropped, Data}
use Rattle.ev_edge.specs.declared.event.Event.{Event}
use Rattle.ev_edge.specs.declared.refusal.Refusal.{Refusal}
use Rattle.ev_edge.specs.declared.reply.Reply.{Reply}
use Rattle.ev_edge.specs.Arrival.{port_arrival, frame_arrival, arrival_on, arrival_at, reserved_arrival, message_in}
use Rattle.ev_edge.specs.Arrival.{data_in, holds_bpdu, is_up, inner_arrival, serves, tunnel_arrival}
use Rattle.ether_wire.specs.Addr.{is_reserved}
use Rattle.ev_edge.specs.Edge.{Edge, IsGoodEdge, table_of, address_of}
use Rattle.ev_edge.specs.Steps.{TunnelSteps, Steps}
use Rattle.ev_edge.proofs.Admitting.{of_admitted}
use Rattle.ev_edge.proofs.Places.{any_is}
use Rattle.rstp_run.specs.Events.{Passes}
use Rattle.ev_fabric.specs.Laws.{IsBehindPort, tunnel_frame_in, GoesOut, FromPortToPort}
use Rattle.ev_fabric.proofs.Places.{contains_at}
use Rattle.ev_fabric.proofs.Agreements.{learnt}
use Rattle.ev_fabric.specs.Station.{StationFromPortToPort}
use Rattle.ev_fabric.proofs.Stations.{agree_on_each}
use Rattle.ev_fabric.proofs.Sends.{station_frames_go, tunnel_frames_come_out, tunnel_step}

-- a data frame of a VNI at a port is a data frame from a tunnel, too
arrives_inner : (e : Edge) (port : ℕ) (octets : List ℕ) (vni destination source : ℕ)
    → frame_arrival e port octets ≡ Ok (Data vni destination source)
    → inner_arrival vni (frame_of octets) ≡ Ok (Data vni destination source)
arrives_inner e port octets vni destination source is = go (vni_at e.routes.ports port)
    (of_admitted (port_arrival e port octets) e port vni destination source is)
  where
    reserved : (b : Bool) (r : Result Bpdu bpdu.BpduRefusal)
        → ◌≡◌ {A = Result Arrival Refusal} (cond b (message_in r) (Ok Dropped)) (Ok (Data vni destination source))
        → ⊥
    reserved true (Ok m) q = cc
    reserved true (Err r) q = cc
    reserved false r q = cc

    number : (v : ℕ) (frame : List ℕ) → ◌≡◌ {A = Result Arrival Refusal} (Ok (data_in v frame))
        (Ok (Data vni destination source)) → v ≡ vni
    number v frame q = cc

    of_data : (v : ℕ) (frame : List ℕ) (b : Bool) → ◌≡◌ {A = Result Arrival Refusal}
        (cond b (reserved_arrival frame) (Ok (data_in v frame))) (Ok (Data vni destination source))
        → ◌≡◌ {A = Result Arrival Refusal} (cond b (Ok Dropped) (Ok (data_in vni frame)))
        (Ok (Data vni destination source))
    of_data v frame true q = absurd (reserved (holds_bpdu frame) (reading (drop 3 (payload_of frame))) q)
    of_data v frame false q = ap (λ w. Ok (data_in w frame)) (sym (number v frame q)) ∙ q

    at_port : (v : ℕ) (up : Bool) (f : Result (List ℕ) FrameRefusal)
        → arrival_at up v f ≡ Ok (Data vni destination source) → inner_arrival vni f ≡ Ok (Data vni destination source)
    at_port v up (Err r) q = cc
    at_port v true (Ok frame) q = of_data v frame (is_reserved (destination_of frame)) q
    at_port v false (Ok frame) q = cc

    go : (o : Option ℕ) → arrival_on o (is_up e.tree port) octets ≡ Ok (Data vni destination source)
        → inner_arrival vni (frame_of octets) ≡ Ok (Data vni destination source)
    go None q = cc
    go (Some v) q = at_port v (is_up e.tree port) (frame_of octets) q

-- a good edge serves the VNIs of its ports
serves_own : {o : Edge} {vni : ℕ} (q : ℕ) → IsGoodEdge o → vni_at o.routes.ports q ≡ Some vni → serves o vni ≡ true
serves_own zero good is = cc
serves_own {o} {vni} (suc l) good is = sym (any_is true o.routes.vnis vni
    ((λ t. good.keeps.served vni (contains_at o.routes.ports l is)), (λ c. refl)))

-- the datagram of the frame is one of its VNI, at an edge that serves it and lists the sender
arrives_there : (o : Edge) (from vni destination source : ℕ) (octets : List ℕ) → vni < 2 ^ 24
    → is_listed (table_of o) from ≡ true → from ≢ address_of o → serves o vni ≡ true
    → inner_arrival vni (frame_of octets) ≡ Ok (Data vni destination source)
    → tunnel_arrival o from (datagram_of vni octets) ≡ Ok (Data vni destination source)
arrives_there o from vni destination source octets small listed other served inner =
    let apart : not (from == address_of o) ≡ true = grind (arith, nat_tests) in
    rw (
      and_from (is_listed (table_of o) from) (not (from == address_of o)) listed apart,
      instance_of-header_of vni
          octets small,
      served,
    ) inner

pub station_from_port_to_port : StationFromPortToPort
station_from_port_to_port f s h agree i j o a b at_o at_a apart says up small event port reply frame steps = (
  station_frames_go f s h agree i j o a b at_o at_a apart says up event port reply frame steps,
  record {
    entry = x.0;
    behind = x.1;
    out = λ arrival result after is step. answers arrival result after is step
        (rw arrives at (tunnel_step o arrival result after (address_of a) (datagram_of s.vni frame.octets) is step));
  },
)
  where
    good : IsGoodEdge o
    good = h.good i o at_o

    x : (x : Entry) × IsBehindPort o s x
    x = learnt o s (h.good i o at_o) says

    arrives : tunnel_arrival o (address_of a) (datagram_of s.vni frame.octets) ≡ Ok (Data s.vni s.mac frame.source)
    arrives = arrives_there o (address_of a) s.vni s.mac frame.source frame.octets small (h.listed i j o a at_o at_a)
        (λ same. apart (h.apart i j o a at_o at_a (sym same)))
        (serves_own x.0.port (h.good i o at_o) x.1.port)
        (arrives_inner a port frame.octets s.vni s.mac frame.source frame.arrives)

    answers : (arrival : Event) (result : Result Reply Refusal) (after : Edge)
        → tunnel_frame_in arrival ≡ Some (address_of a, datagram_of s.vni frame.octets) → Steps o arrival result after
        → TunnelSteps (Ok (Data s.vni s.mac frame.source)) o result after
        → (reply : Reply) × (result ≡ Ok reply) × GoesOut x.0.port (Passes o.tree x.0.port) reply
    answers arrival (Err r) after is step t = absurd t
    answers arrival (Ok answer) after is step t =
        let e = tunnel_frames_come_out o after s (h.good i o at_o) says arrival answer
        (record {
          from = address_of a;
          octets = datagram_of s.vni frame.octets;
          frame = is;
          source = frame.source;
          arrives = arrives;
        }) step in
        let same : e.0 ≡ x.0 = (cc (e.1.learnt, x.1.learnt)) in
        (answer, refl, rw same at e.2)

pub from_port_to_port : FromPortToPort
from_port_to_port f h agree i j o a b s = station_from_port_to_port f s h ((agree_on_each f agree).stations s) i j o a b
