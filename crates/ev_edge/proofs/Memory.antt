-- The events that never report refused memory.
use Rattle.std.proofs.Common.{◌≡◌, ◌≢◌, inl, inr, ℕ, Bool, true, false, cond, eqb, Option, Some, None, Result, Ok, Err}
use Rattle.std.proofs.Common.{List, drop, refl, sym, ◌∙◌}
use Rattle.std.specs.Prelude.{not, is_some, ◌&&◌}
use Rattle.std.proofs.lemmas.Bool.{false≢true}
use Rattle.std.proofs.lemmas.Option.{none-some}
use Rattle.ether_wire.specs.Frame.{frame_of, destination_of, payload_of}
use Rattle.ether_wire.specs.declared.frame.FrameRefusal.{FrameRefusal}
use Rattle.bpdu_wire.specs.Reading.{reading}
use Rattle.bpdu_wire.specs.declared.bpdu.Bpdu.{Bpdu}
use Rattle.bpdu_wire.specs.declared.refusal.BpduRefusal as bpdu
use Rattle.vxlan_wire.specs.Vxlan.{instance_of}
use Rattle.vxlan_wire.specs.declared.vxlan.VxlanRefusal as vxlan
use Rattle.route_wire.specs.declared.update.Value.{Value}
use Rattle.route_wire.specs.Fields.{Fields}
use Rattle.route_join.specs.Table.{value_at, is_listed}
use Rattle.rstp_run.specs.declared.event.Event as tree
use Rattle.ev_mobility.specs.declared.alert.Alert.TheVariants.{LostStatic, NoMemory as Unroomed}
use Rattle.ev_claims.specs.LocalRoutes.{vni_at, loses_pinned}
use Rattle.ev_edge.specs.declared.arrival.Arrival.{Arrival}
use Rattle.ev_edge.specs.declared.arrival.Arrival.TheVariants.{Dropped, Message, Data}
use Rattle.ev_edge.specs.declared.event.Event.{Event}
use Rattle.ev_edge.specs.declared.event.Event.TheVariants as events
use Rattle.ev_edge.specs.declared.refusal.EdgeRefusal.TheVariants.{UnknownOriginator, NoMemory, NoSuchPort, NoSuchVni}
use Rattle.ev_edge.specs.declared.refusal.EdgeRefusal.TheVariants.{PortStorm}
use Rattle.ev_edge.specs.declared.refusal.Refusal.{Refusal}
use Rattle.ev_edge.specs.declared.refusal.Refusal.TheVariants.{Edge as OfEdge}
use Rattle.ev_edge.specs.declared.reply.Reply.{Reply}
use Rattle.ev_edge.specs.Edge.{Edge, table_of, address_of}
use Rattle.ether_wire.specs.Addr.{is_reserved}
use Rattle.ev_edge.specs.Arrival.{holds_bpdu, message_in, reserved_arrival, data_in, arrival_at}
use Rattle.ev_edge.specs.Arrival.{arrival_on, port_arrival, admitted, is_up, serves, inner_arrival, datagram_arrival}
use Rattle.ev_edge.specs.Arrival.{is_other}
use Rattle.ev_edge.specs.Storms.{is_stormy}
use Rattle.ev_edge.specs.Steps.{Steps, FrameSteps, TunnelSteps, Bridges, BridgesAt, Seconds, Takes, TakesOther}
use Rattle.ev_edge.specs.Steps.{lost_alert, Marks}
use Rattle.ev_edge.specs.Laws.{is_data, takes_none, TellsNoMemory}

-- ---- answers

-- another refusal
refused : (result : Result Reply Refusal) (r : Refusal) → result ≡ Err r → r ≢ OfEdge NoMemory → TellsNoMemory result
    → ⊥
refused result r is ne told = ne (rw is at told)

-- idle alert
silent : (result : Result Reply Refusal) (reply : Reply) → result ≡ Ok reply → reply.alert ≡ None → TellsNoMemory result
    → ⊥
silent result reply is idle told = none-some Unroomed (sym idle ∙ rw is at told)

quiet : (reply : Reply) → reply.alert ≡ None → TellsNoMemory (Ok reply) → ⊥
quiet reply idle told = silent (Ok reply) reply refl idle told

bridged : (event : tree.Event) (e : Edge) (result : Result Reply Refusal) (e' : Edge) → Bridges event e result e'
    → TellsNoMemory result → ⊥
bridged event e (Ok reply) e' h = quiet reply (rw h.reply_is)
bridged event e (Err r) e' h = absurd h

bridged_at : (vni : Option ℕ) (event : tree.Event) (e : Edge) (result : Result Reply Refusal) (e' : Edge)
    → BridgesAt vni event e result e' → TellsNoMemory result → ⊥
bridged_at None event e result e' h = refused result (OfEdge NoSuchPort) h.0 (λ same. cc)
bridged_at (Some vni) event e result e' h = bridged event e result e' h

seconds : (e : Edge) (result : Result Reply Refusal) (e' : Edge) → Seconds e result e' → TellsNoMemory result → ⊥
seconds e (Ok reply) e' h = quiet reply (rw h.reply_is)
seconds e (Err r) e' h = absurd h

-- ---- frames

module _ (e : Edge) (port : ℕ) (result : Result Reply Refusal) (e' : Edge) where
  message : (r : Result Bpdu bpdu.BpduRefusal) → FrameSteps (message_in r) e port result e' → TellsNoMemory result → ⊥
  message (Ok b) h = bridged _ e result e' h
  message (Err r) h = refused result _ h.0 (λ same. cc)

  held : (frame : List ℕ) (b : Bool) → FrameSteps (cond b (message_in (reading (drop 3 (payload_of frame))))
      (Ok Dropped)) e port result e' → TellsNoMemory result → ⊥
  held frame true h = message (reading (drop 3 (payload_of frame))) h
  held frame false h = silent result _ h.0 refl

  in_frame : (vni : ℕ) (frame : List ℕ) (b : Bool) → not
      (is_data (cond b (reserved_arrival frame) (Ok (data_in vni frame)))) ≡ true
      → FrameSteps (cond b (reserved_arrival frame) (Ok (data_in vni frame))) e port result e' → TellsNoMemory result
      → ⊥
  in_frame vni frame true idle h = held frame (holds_bpdu frame) h
  in_frame vni frame false idle h = absurd (false≢true idle)

  at_port : (vni : ℕ) (up : Bool) (f : Result (List ℕ) FrameRefusal) → not (is_data (arrival_at up vni f)) ≡ true
      → FrameSteps (arrival_at up vni f) e port result e' → TellsNoMemory result → ⊥
  at_port vni up (Err r) idle h = refused result _ h.0 (λ same. cc)
  at_port vni false (Ok frame) idle h = silent result _ h.0 refl
  at_port vni true (Ok frame) idle h = in_frame vni frame (is_reserved (destination_of frame)) idle h

  frames : (o : Option ℕ) (octets : List ℕ) → not (is_data (arrival_on o (is_up e.tree port) octets)) ≡ true
      → FrameSteps (arrival_on o (is_up e.tree port) octets) e port result e' → TellsNoMemory result → ⊥
  frames None octets idle h = refused result _ h.0 (λ same. cc)
  frames (Some vni) octets idle h = at_port vni (is_up e.tree port) (frame_of octets) idle h

  -- within the storm limit or beyond it
  limited : (a : Result Arrival Refusal) → not (is_data (admitted e port a)) ≡ true
      → FrameSteps (admitted e port a) e port result e'
      → (not (is_data a) ≡ true → FrameSteps a e port result e' → TellsNoMemory result → ⊥) → TellsNoMemory result → ⊥
  limited (Err r) idle h rest = rest idle h
  limited (Ok Dropped) idle h rest = rest idle h
  limited (Ok (Message b)) idle h rest = rest idle h
  limited (Ok (Data v d s)) idle h rest = go (is_stormy e port v d) idle h
    where
      go : (b : Bool) → not (is_data (cond b (Err (OfEdge (PortStorm port))) (Ok (Data v d s)))) ≡ true
          → FrameSteps (cond b (Err (OfEdge (PortStorm port))) (Ok (Data v d s))) e port result e'
          → TellsNoMemory result → ⊥
      go true idle h = refused result _ h.0 (λ same. cc)
      go false idle h = absurd (false≢true idle)

module _ (e : Edge) (result : Result Reply Refusal) (e' : Edge) where
  in_tunnel : (vni : ℕ) (frame : List ℕ) (b : Bool) (r : Result Reply Refusal)
      → TunnelSteps (cond b (Ok Dropped) (Ok (data_in vni frame))) e r e' → TellsNoMemory r → ⊥
  in_tunnel vni frame true r h = silent r _ h.0 refl
  in_tunnel vni frame false (Ok reply) h = quiet reply (rw h.1)
  in_tunnel vni frame false (Err r) h = absurd h

  inner : (vni : ℕ) (f : Result (List ℕ) FrameRefusal) → TunnelSteps (inner_arrival vni f) e result e'
      → TellsNoMemory result → ⊥
  inner vni (Err r) h = refused result _ h.0 (λ same. cc)
  inner vni (Ok frame) h = in_tunnel vni frame (is_reserved (destination_of frame)) result h

  served : (vni : ℕ) (octets : List ℕ) (b : Bool) → TunnelSteps
      (cond b (inner_arrival vni (frame_of octets)) (Err (OfEdge NoSuchVni))) e result e' → TellsNoMemory result → ⊥
  served vni octets true h = inner vni (frame_of octets) h
  served vni octets false h = refused result _ h.0 (λ same. cc)

  datagram : (i : Result (ℕ × List ℕ) vxlan.VxlanRefusal) → TunnelSteps (datagram_arrival e i) e result e'
      → TellsNoMemory result → ⊥
  datagram (Err r) h = refused result _ h.0 (λ same. cc)
  datagram (Ok inside) h = served inside.0 inside.1 (serves e inside.0) h

  tunnels : (octets : List ℕ) (b : Bool) → TunnelSteps (cond b (datagram_arrival e (instance_of octets))
      (Err (OfEdge UnknownOriginator))) e result e' → TellsNoMemory result → ⊥
  tunnels octets true h = datagram (instance_of octets) h
  tunnels octets false h = refused result _ h.0 (λ same. cc)

-- ---- updates

lost : (b : Bool) → lost_alert b ≢ Some Unroomed
lost true same = let bad : Some LostStatic ≡ Some Unroomed = same in cc
lost false same = none-some Unroomed same

there_not_none : (o : Option Value) → is_some o ≡ true → o ≢ None
there_not_none None there is = cc
there_not_none (Some v) there is = cc

others : (e : Edge) (u : Fields) (result : Result Reply Refusal) (e' : Edge)
    → is_some (value_at (table_of e) u.register) ≡ true → TakesOther e u result e' → TellsNoMemory result → ⊥
others e u (Ok reply) e' there h told = lost (loses_pinned e.routes u) (sym (rw h.1) ∙ told)
others e u (Err r) e' there h told = elim h.0 as (λ _. ⊥) [
  | inl unknown ↦ (let bad : OfEdge UnknownOriginator ≡ OfEdge NoMemory = sym unknown.0 ∙ told in absurd cc)
  | inr full ↦ there_not_none (value_at (table_of e) u.register) there full.2
]

taken : (e : Edge) (u : Fields) (result : Result Reply Refusal) (e' : Edge) (b : Bool)
    → (not b && is_some (value_at (table_of e) u.register)) ≡ true → Takes b e u result e' → TellsNoMemory result → ⊥
taken e u result e' true idle h = absurd (false≢true idle)
taken e u result e' false there h = others e u result e' there h

marked : (e : Edge) (away : List ℕ) (result : Result Reply Refusal) (e' : Edge) (b : Bool) → Marks b e away result e'
    → TellsNoMemory result → ⊥
marked e away result e' true h = silent result _ h.0 refl
marked e away result e' false h = refused result _ h.0 (λ same. cc)

pub tells_none : (e : Edge) (event : Event) (result : Result Reply Refusal) (e' : Edge) → takes_none e event ≡ true
    → Steps e event result e' → TellsNoMemory result → ⊥
tells_none e (events.Frame port octets) result e' idle h =
    limited e port result e' (port_arrival e port octets.now) idle h
    (frames e port result e' (vni_at e.routes.ports port) octets.now)
tells_none e (events.TunnelFrame from octets) result e' idle h = tunnels e result e' octets.now (is_other e from) h
tells_none e (events.Take u) result e' idle h = taken e u result e' (eqb u.register.originator (address_of e)) idle h
tells_none e (events.Pin s port) result e' idle h = absurd (false≢true idle)
tells_none e (events.Unpin s) result e' idle h = silent result _ h.0 refl
tells_none e (events.Thaw s) result e' idle h = silent result _ h.0 refl
tells_none e events.Second result e' idle h = seconds e result e' h
tells_none e (events.PortUp port) result e' idle h = bridged_at (vni_at e.routes.ports port) _ e result e' h
tells_none e (events.PortDown port) result e' idle h = bridged_at (vni_at e.routes.ports port) _ e result e' h
tells_none e (events.Mcheck port) result e' idle h = bridged_at (vni_at e.routes.ports port) _ e result e' h
tells_none e events.Announce result e' idle h = silent result _ h.0 refl
tells_none e (events.Away a) result e' idle h = marked e _ result e' (is_listed (table_of e) a) h
tells_none e (events.Back a) result e' idle h = marked e _ result e' (is_listed (table_of e) a) h
