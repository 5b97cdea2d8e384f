-- No frame goes to an edge that is away, and a frame for its stations is flooded.
use Rattle.std.proofs.Common.{◌≡◌, ℕ, Bool, true, false, eqb, Option, Some, None, Result, Ok, Err, List}
use Rattle.std.proofs.Common.{Contains, refl, ◌∙◌}
use Rattle.std.specs.Option.{ForSome}
use Rattle.std.proofs.lemmas.Bool.{cases_Bool}
use Rattle.std.proofs.Common.{inl, inr}
use Rattle.ether_wire.specs.Addr.{is_group}
use Rattle.route_wire.specs.Fields.{Fields}
use Rattle.route_join.specs.Flood.{flood_of}
use Rattle.route_join.specs.Owner.{owner}
use Rattle.route_join.specs.Table.{is_listed}
use Rattle.mac_arena.specs.declared.station.Station.{Station}
use Rattle.rstp_run.specs.declared.event.Event as tree
use Rattle.ev_mobility.specs.declared.alert.Alert.{Alert}
use Rattle.ev_tunnel.specs.declared.decision.Decision.{Decision}
use Rattle.ev_tunnel.specs.declared.decision.Source.{Source}
use Rattle.ev_tunnel.specs.declared.decision.Source.TheVariants.{Port, Tunnel}
use Rattle.ev_tunnel.specs.Decision.{is_up, up_owner, up_edges, open_ports, others_of, local_of, remote_of}
use Rattle.ev_tunnel.specs.Place.{place_of}
use Rattle.ev_tunnel.proofs.DecisionLemmas.{remote_is_up, owner_away, none_of as nothing_in}
use Rattle.ev_claims.specs.LocalRoutes.{vni_at}
use Rattle.ev_edge.specs.declared.arrival.Arrival.{Arrival}
use Rattle.ev_edge.specs.declared.arrival.Arrival.TheVariants.{Dropped, Message, Data}
use Rattle.ev_edge.specs.declared.event.Event.TheVariants as events
use Rattle.ev_edge.specs.declared.refusal.EdgeRefusal.{EdgeRefusal}
use Rattle.ev_edge.specs.declared.refusal.Refusal.{Refusal}
use Rattle.ev_edge.specs.declared.reply.Reply.{Reply}
use Rattle.ev_edge.specs.Edge.{Edge, table_of, address_of}
use Rattle.ev_edge.specs.Arrival.{frame_arrival, tunnel_arrival}
use Rattle.ev_edge.specs.Pinning.{refused_pin}
use Rattle.ev_edge.specs.Sending.{IsDecision, port_of}
use Rattle.ev_edge.specs.Storms.{taking_on}
use Rattle.ev_edge.specs.Steps.{LearnsIf, SendsIf, FrameSteps, TunnelSteps, BridgesAt, Seconds, Takes, Pins}
use Rattle.ev_edge.specs.Steps.{Marks}
use Rattle.ev_edge.specs.Laws.{decision_in}
use Rattle.ev_edge.specs.AwayLaws.{GivesNoneAway, FloodsForAway}
use Rattle.ev_edge.proofs.Cases.{learnt_by}
use Rattle.ev_edge.proofs.Frames.{none, bridged}

abbrev Up : Edge → Decision → Type 0
Up e d = (o : ℕ) → Contains d.remote.items o → is_up e.away o ≡ true

decided_up : (e : Edge) (vni destination : ℕ) (from : Source) (d : Decision) → IsDecision e vni destination from d
    → Up e d
decided_up e vni destination from d i o there = remote_is_up e.away (table_of e) vni destination
    (port_of e vni destination) (address_of e) from o (rw i.remote at there)

sent_up : (b : Bool) (e : Edge) (vni destination : ℕ) (from : Source) (d : Decision)
    → SendsIf b e vni destination from (Some d) → Up e d
sent_up true e vni destination from d h = decided_up e vni destination from d h
sent_up false e vni destination from d h = λ o there. nothing_in o (rw h.1 at there)

-- learning keeps the edges that are away
pub learnt_away : (e : Edge) (s : Station) (port : ℕ) (told : Option Alert) (e' : Edge) (b : Bool)
    → LearnsIf b e s port told e' → e'.away ≡ e.away
learnt_away e s port told e' b h =
    learnt_by (λ x. x.away ≡ e.away) e s port told e' refl (λ heard. refl) refl (λ new. refl) (λ n new. refl) b h

by_frame : (a : Result Arrival Refusal) (e : Edge) (port : ℕ) (result : Result Reply Refusal) (e' : Edge)
    → FrameSteps a e port result e' → ForSome (decision_in result) (Up e)
by_frame (Err r) e port result e' h = none result (rw h.0) (Up e)
by_frame (Ok Dropped) e port result e' h = none result (rw h.0) (Up e)
by_frame (Ok (Message b)) e port result e' h = none result (bridged _ e result e' h) (Up e)
by_frame (Ok (Data vni destination source)) e port (Ok reply) e' h = λ d is o there.
    rw (learnt_away (taking_on e port vni destination) (record { vni = vni; mac = source }) port reply.alert e' _
    h.learning.learning) at (sent_up h.passes e' vni destination (Port port) d
    (rw is at h.sending) o there)
by_frame (Ok (Data vni destination source)) e port (Err r) e' h = absurd h

by_tunnel : (a : Result Arrival Refusal) (e : Edge) (result : Result Reply Refusal) (e' : Edge)
    → TunnelSteps a e result e' → ForSome (decision_in result) (Up e)
by_tunnel (Err r) e result e' h = none result (rw h.0) (Up e)
by_tunnel (Ok Dropped) e result e' h = none result (rw h.0) (Up e)
by_tunnel (Ok (Message b)) e result e' h = absurd h
by_tunnel (Ok (Data vni destination source)) e (Ok reply) e' h = λ d is.
    sent_up true e vni destination Tunnel d (rw is at h.0)
by_tunnel (Ok (Data vni destination source)) e (Err r) e' h = absurd h

by_port : (o : Option ℕ) (event : tree.Event) (e : Edge) (result : Result Reply Refusal) (e' : Edge)
    → BridgesAt o event e result e' → decision_in result ≡ None
by_port None event e result e' h = rw h.0
by_port (Some vni) event e result e' h = bridged event e result e' h

by_second : (e : Edge) (result : Result Reply Refusal) (e' : Edge) → Seconds e result e' → decision_in result ≡ None
by_second e (Ok reply) e' h = rw h.reply_is
by_second e (Err r) e' h = absurd h

by_take : (b : Bool) (e : Edge) (u : Fields) (result : Result Reply Refusal) (e' : Edge) → Takes b e u result e'
    → decision_in result ≡ None
by_take true e u (Ok reply) e' h = rw h.2
by_take true e u (Err r) e' h = refl
by_take false e u (Ok reply) e' h = rw h.1
by_take false e u (Err r) e' h = refl

by_pin : (o : Option EdgeRefusal) (e : Edge) (s : Station) (port : ℕ) (result : Result Reply Refusal) (e' : Edge)
    → Pins o e s port result e' → decision_in result ≡ None
by_pin (Some r) e s port result e' h = rw h.0
by_pin None e s port (Ok reply) e' h = rw h.1
by_pin None e s port (Err r) e' h = refl

by_mark : (b : Bool) (e : Edge) (away : List ℕ) (result : Result Reply Refusal) (e' : Edge)
    → Marks b e away result e' → decision_in result ≡ None
by_mark true e away result e' h = rw h.0
by_mark false e away result e' h = rw h.0

pub gives_none : GivesNoneAway
gives_none e e' (events.Frame port octets) result h = by_frame (frame_arrival e port octets.now) e port result e' h
gives_none e e' (events.TunnelFrame from octets) result h = by_tunnel (tunnel_arrival e from octets.now) e result e' h
gives_none e e' (events.Take u) result h = none result
    (by_take (eqb u.register.originator (address_of e)) e u result e' h) (Up e)
gives_none e e' (events.Pin s port) result h = none result (by_pin (refused_pin e s port) e s port result e' h) (Up e)
gives_none e e' (events.Unpin s) result h = none result (rw h.0) (Up e)
gives_none e e' (events.Thaw s) result h = none result (rw h.0) (Up e)
gives_none e e' events.Second result h = none result (by_second e result e' h) (Up e)
gives_none e e' (events.PortUp port) result h =
    none result (by_port (vni_at e.routes.ports port) _ e result e' h) (Up e)
gives_none e e' (events.PortDown port) result h =
    none result (by_port (vni_at e.routes.ports port) _ e result e' h) (Up e)
gives_none e e' (events.Mcheck port) result h =
    none result (by_port (vni_at e.routes.ports port) _ e result e' h) (Up e)
gives_none e e' events.Announce result h = none result (rw h.0) (Up e)
gives_none e e' (events.Away a) result h =
    none result (by_mark (is_listed (table_of e) a) e _ result e' h) (Up e)
gives_none e e' (events.Back a) result h =
    none result (by_mark (is_listed (table_of e) a) e _ result e' h) (Up e)

-- ---- stations of an edge that is away

-- a destination without an entry and without an owner is unknown
unknown_local : (destination own : ℕ) (from : Source) (members passing : ℕ)
    → local_of (place_of destination None None own) from (record { members = members; passing = passing })
    ≡ open_ports from (record { members = members; passing = passing })
unknown_local destination own from members passing = elim (cases_Bool (is_group destination)) [
  | inl group ↦ rw group
  | inr single ↦ rw single
]

unknown_remote : (destination own p : ℕ) (flood : List ℕ)
    → remote_of (place_of destination None None own) (Port p) flood own ≡ others_of own flood
unknown_remote destination own p flood = elim (cases_Bool (is_group destination)) [
  | inl group ↦ rw group
  | inr single ↦ rw single
]

pub floods : FloodsForAway
floods e vni destination o from d owned gone i =
    let nobody : up_owner e.away (owner (table_of e) vni destination) ≡ None =
    owner_away e.away (owner (table_of e) vni destination) o owned gone in
    let local = rw nobody at i.local in
    let remote = rw nobody at i.remote in
    record {
      local = local;
      remote = remote;
      to_all_ports = λ unlearnt. rw unlearnt at local
          ∙ unknown_local destination (address_of e) from i.members i.passing;
      to_all_edges = λ unlearnt p is. rw (unlearnt, is) at remote
          ∙ unknown_remote destination (address_of e) p (up_edges e.away (flood_of (table_of e) vni));
    }
