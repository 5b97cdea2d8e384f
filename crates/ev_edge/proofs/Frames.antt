-- The destinations of frames, by the frames' kinds.
use Rattle.std.proofs.Common.{◌≡◌, inl, inr, ℕ, Bool, true, false, cond, Option, Some, None, Result, Ok, Err, List}
use Rattle.std.proofs.Common.{drop, refl, sym, ap, ◌∙◌, arith}
use Rattle.std.specs.Option.{ForSome, option_map}
use Rattle.std.proofs.lemmas.Bool.{eq-eqb}
use Rattle.std.proofs.lemmas.Option.{none-some, same_Some}
use Rattle.std.proofs.lemmas.Bool.Decides.{nat_tests}
use Rattle.std.proofs.lemmas.Bool.{cases_Bool, false≢true}
use Rattle.ether_wire.specs.Ports.{IsPort, has_port}
use Rattle.ether_wire.specs.Frame.{frame_of, destination_of, source_of, payload_of}
use Rattle.ether_wire.specs.declared.frame.FrameRefusal.{FrameRefusal}
use Rattle.ether_wire.proofs.PortLemmas.{has_port-none}
use Rattle.bpdu_wire.specs.Reading.{reading}
use Rattle.bpdu_wire.specs.declared.bpdu.Bpdu.{Bpdu}
use Rattle.bpdu_wire.specs.declared.refusal.BpduRefusal as bpdu
use Rattle.vxlan_wire.specs.Vxlan.{instance_of}
use Rattle.vxlan_wire.specs.declared.vxlan.VxlanRefusal as vxlan
use Rattle.route_join.specs.Owner.{owner}
use Rattle.mac_arena.specs.declared.station.Station.{Station}
use Rattle.mac_arena.specs.declared.station.Entry.{Entry}
use Rattle.mac_arena.specs.Learning.{entry_at}
use Rattle.rstp_run.specs.declared.event.Event as tree
use Rattle.rstp_run.specs.Events.{Passes}
use Rattle.ev_tunnel.specs.declared.decision.Decision.{Decision}
use Rattle.ev_tunnel.specs.declared.decision.Source.{Source}
use Rattle.ev_tunnel.specs.declared.decision.Source.TheVariants.{Port, Tunnel}
use Rattle.ev_tunnel.specs.Place.{place_of}
use Rattle.ev_tunnel.specs.Decision.{up_owner}
use Rattle.ev_tunnel.proofs.DecisionLemmas.{local_passes, member_is, never_back}
use Rattle.ev_mobility.specs.declared.alert.Alert.{Alert}
use Rattle.ev_claims.specs.Speaker.{is_at}
use Rattle.ev_claims.specs.LocalRoutes.{KeepsRoutes, vni_at, is_member}
use Rattle.ev_edge.specs.declared.arrival.Arrival.TheVariants.{Dropped}
use Rattle.ev_edge.specs.declared.refusal.EdgeRefusal.TheVariants.{UnknownOriginator, NoSuchVni}
use Rattle.ev_edge.specs.declared.refusal.Refusal.TheVariants.{Edge as OfEdge}
use Rattle.ev_edge.specs.declared.refusal.Refusal.{Refusal}
use Rattle.ev_edge.specs.declared.reply.Reply.{Reply}
use Rattle.ev_edge.specs.Edge.{Edge, table_of, address_of}
use Rattle.ether_wire.specs.Addr.{is_reserved}
use Rattle.ev_edge.specs.Arrival.{holds_bpdu, message_in, reserved_arrival, data_in, arrival_at}
use Rattle.ev_edge.specs.Arrival.{arrival_on, port_arrival, frame_arrival, is_up, serves, inner_arrival}
use Rattle.ev_edge.specs.Arrival.{datagram_arrival, is_other}
use Rattle.ev_edge.specs.Arrival.{tunnel_arrival}
use Rattle.ev_edge.specs.Sending.{IsDecision, port_of}
use Rattle.ev_edge.specs.Storms.{taking_on}
use Rattle.ev_edge.specs.Steps.{LearnsIf, SendsIf, DataSteps, FrameSteps, TunnelSteps, Bridges}
use Rattle.ev_edge.specs.Laws.{decision_in, LeavesBy, LeavesTunnel, IsReserved, HoldsReserved}
use Rattle.ev_edge.proofs.Admitting.{unadmitted}
use Rattle.ev_edge.proofs.Cases.{learnt_by}
use Rattle.ev_edge.proofs.Places.{set_port}

-- ---- nowhere

pub none : (result : Result Reply Refusal) → decision_in result ≡ None → (P : Decision → Type 0)
    → ForSome (decision_in result) P
none result is P d at = absurd (none-some d (sym is ∙ at))

pub bridged : (event : tree.Event) (e : Edge) (result : Result Reply Refusal) (e' : Edge) → Bridges event e result e'
    → decision_in result ≡ None
bridged event e (Ok reply) e' h = rw h.reply_is
bridged event e (Err r) e' h = refl

-- a frame to a reserved destination
reserved_none : (e : Edge) (port : ℕ) (frame : List ℕ) (result : Result Reply Refusal) (e' : Edge)
    → FrameSteps (reserved_arrival frame) e port result e' → decision_in result ≡ None
reserved_none e port frame result e' h = held (holds_bpdu frame) h
  where
    message : (r : Result Bpdu bpdu.BpduRefusal) → FrameSteps (message_in r) e port result e' → decision_in result
        ≡ None
    message (Ok b) h = bridged _ e result e' h
    message (Err r) h = rw h.0

    held : (b : Bool) → FrameSteps (cond b (message_in (reading (drop 3 (payload_of frame)))) (Ok Dropped)) e port
        result e' → decision_in result ≡ None
    held true h = message (reading (drop 3 (payload_of frame))) h
    held false h = rw h.0

-- ---- where a decision sends a frame

at_true : (o : Option ℕ) (v : ℕ) → is_at o v ≡ true → o ≡ Some v
at_true None v h = cc
at_true (Some w) v h = grind (arith, nat_tests)

-- by members that pass
decided : (e : Edge) (vni destination : ℕ) (from : Source) (d : Decision) → KeepsRoutes e.routes
    → IsDecision e vni destination from d → (p : ℕ) → IsPort p → has_port d.local p ≡ true
    → (vni_at e.routes.ports p ≡ Some vni) × Passes e.tree p
decided e vni destination from d keeps i p port there =
    let both = local_passes (place_of destination (port_of e vni destination)
    (up_owner e.away (owner (table_of e) vni destination)) (address_of e)) from
    (record { members = i.members; passing = i.passing }) i.passing_fit
    (member_is destination (port_of e vni destination) (up_owner e.away (owner (table_of e) vni destination))
    (address_of e) i.members
    (λ q at. i.are_members q ∙ member (entry_at e.routes.learned s) refl q at)) p port
    (ap (λ n. has_port n p) (sym i.local) ∙ there) in
    (at_true (vni_at e.routes.ports p) vni (sym (i.are_members p) ∙ both.0), ((i.are_passing p).0 both.1).1)
  where
    s : Station
    s = record { vni = vni; mac = destination }

    member : (o : Option Entry) → entry_at e.routes.learned (record { vni = vni; mac = destination }) ≡ o → (q : ℕ)
        → option_map (λ (x : Entry). x.port) o ≡ Some q → is_member e.routes.ports vni q ≡ true
    member None is q at = cc
    member (Some x) is q at =
        rw (← same_Some x.port q at, keeps.ports (record { vni = vni; mac = destination }) x is, eq-eqb vni vni refl)

-- and not by the frame's own port
not_back : (e : Edge) (vni destination port : ℕ) (d : Decision) → IsPort port
    → IsDecision e vni destination (Port port) d → has_port d.local port ≡ false
not_back e vni destination port d is i =
    ap (λ n. has_port n port) i.local
    ∙ never_back (place_of destination (port_of e vni destination)
    (up_owner e.away (owner (table_of e) vni destination)) (address_of e))
    port (record { members = i.members; passing = i.passing }) i.members_fit i.passing_fit is

-- ---- from an access port

-- what stays while a source is learnt
abbrev Stays : Edge → Edge → Type 0
Stays e e' = (e'.routes.ports ≡ e.routes.ports) × (e'.tree ≡ e.tree)

learnt_stays : (e : Edge) (s : Station) (port : ℕ) (told : Option Alert) (e' : Edge) (b : Bool)
    → LearnsIf b e s port told e' → Stays e e'
learnt_stays e s port told e' b h =
    learnt_by (Stays e) e s port told e' (refl, refl) (λ heard. (refl, refl)) (refl, refl) (λ new. (refl, refl))
    (λ n new. (refl, refl)) b h

module _ (e : Edge) (port : ℕ) (result : Result Reply Refusal) (e' : Edge) (keeps : KeepsRoutes e'.routes) where
  sent : (vni destination : ℕ) (d : Decision) → vni_at e.routes.ports port ≡ Some vni → Stays e e' → (b : Bool)
      → SendsIf b e' vni destination (Port port) (Some d) → LeavesBy e port d
  sent vni destination d at stays false h p is there = absurd (false≢true
      (sym (has_port-none p) ∙ rw h.0 at there))
  sent vni destination d at stays true h p is there =
      let both = decided e' vni destination (Port port) d keeps h p is there in
      let own : vni_at e'.routes.ports port ≡ Some vni = rw stays.0 at in
      let back = not_back e' vni destination port d (set_port e'.routes.ports port vni keeps.few own) h in (
        rw stays.0 at both.0 ∙ sym at,
        rw stays.1 at both.1,
        λ same. false≢true (sym back ∙ rw same at there),
      )

  data_leaves : (vni destination source : ℕ) (reply : Reply) → vni_at e.routes.ports port ≡ Some vni
      → DataSteps (taking_on e port vni destination) port vni destination source reply e'
      → ForSome reply.decision (LeavesBy e port)
  data_leaves vni destination source reply at h d is =
      sent vni destination d at (learnt_stays (taking_on e port vni destination) (record { vni = vni; mac = source })
      port reply.alert e' _ h.learning.learning) h.passes
      (rw is at h.sending)

  in_frame : (vni : ℕ) (frame : List ℕ) → vni_at e.routes.ports port ≡ Some vni → (b : Bool)
      → (r : Result Reply Refusal) → FrameSteps (cond b (reserved_arrival frame) (Ok (data_in vni frame))) e port r e'
      → ForSome (decision_in r) (LeavesBy e port)
  in_frame vni frame at true r h = none r (reserved_none e port frame r e' h) (LeavesBy e port)
  in_frame vni frame at false (Ok reply) h = data_leaves vni (destination_of frame) (source_of frame) reply at h
  in_frame vni frame at false (Err r) h = absurd h

  at_port : (vni : ℕ) (up : Bool) (f : Result (List ℕ) FrameRefusal) → vni_at e.routes.ports port ≡ Some vni
      → FrameSteps (arrival_at up vni f) e port result e' → ForSome (decision_in result) (LeavesBy e port)
  at_port vni up (Err r) at h = none result (rw h.0) _
  at_port vni false (Ok frame) at h = none result (rw h.0) _
  at_port vni true (Ok frame) at h = in_frame vni frame at (is_reserved (destination_of frame)) result h

  pub frame_leaves : (octets : List ℕ) → FrameSteps (frame_arrival e port octets) e port result e'
      → ForSome (decision_in result) (LeavesBy e port)
  frame_leaves octets h = elim (unadmitted (port_arrival e port octets) e port result e' h) [
    | inl steps ↦ go (vni_at e.routes.ports port) refl steps
    | inr refused ↦ none result (rw refused.0) _
  ]
    where
      go : (o : Option ℕ) → vni_at e.routes.ports port ≡ o
          → FrameSteps (arrival_on o (is_up e.tree port) octets) e port result e'
          → ForSome (decision_in result) (LeavesBy e port)
      go None at h = none result (rw h.0) _
      go (Some vni) at h = at_port vni (is_up e.tree port) (frame_of octets) at h

pub reserved_frame : (e : Edge) (port : ℕ) (octets : List ℕ) (result : Result Reply Refusal) (e' : Edge)
    → IsReserved octets → FrameSteps (frame_arrival e port octets) e port result e' → decision_in result ≡ None
reserved_frame e port octets result e' (frame, is, reserved) h =
    elim (unadmitted (port_arrival e port octets) e port result e' h) [
      | inl steps ↦ go (vni_at e.routes.ports port) steps
      | inr refused ↦ rw refused.0
    ]
  where
    up_or_down : (vni : ℕ) (up : Bool) → FrameSteps (arrival_at up vni (Ok frame)) e port result e'
        → decision_in result ≡ None
    up_or_down vni false h = rw h.0
    up_or_down vni true h = reserved_none e port frame result e'
        (rw reserved at h)

    go : (o : Option ℕ) → FrameSteps (arrival_on o (is_up e.tree port) octets) e port result e'
        → decision_in result ≡ None
    go None h = rw h.0
    go (Some vni) h = up_or_down vni (is_up e.tree port)
        (rw is at h)

-- ---- from a tunnel

module _ (e : Edge) (octets : List ℕ) (result : Result Reply Refusal) (e' : Edge) (keeps : KeepsRoutes e.routes) where
  Leaves : Decision → Type 0
  Leaves = LeavesTunnel e octets

  inner_sent : (inner : ℕ × List ℕ) → instance_of octets ≡ Ok inner → (destination : ℕ) (d : Decision)
      → IsDecision e inner.0 destination Tunnel d → LeavesTunnel e octets d
  inner_sent inner is destination d i = record {
    remote = i.remote;
    local = λ vni rest whole p port there.
        let both = sym is ∙ whole in
        let same : inner ≡ (vni, rest) = cc in
        let h = decided e inner.0 destination Tunnel d keeps i p port there in
        (h.0 ∙ ap (λ (q : ℕ × List ℕ). Some q.0) same, h.1);
  }

  inner_leaves : (inner : ℕ × List ℕ) → instance_of octets ≡ Ok inner
      → (f : Result (List ℕ) FrameRefusal) (r : Result Reply Refusal) → TunnelSteps (inner_arrival inner.0 f) e r e'
      → ForSome (decision_in r) (LeavesTunnel e octets)
  inner_leaves inner is (Err f) r h = none r (rw h.0) _
  inner_leaves inner is (Ok frame) r h = go (is_reserved (destination_of frame)) r h
    where
      go : (b : Bool) (r : Result Reply Refusal) → TunnelSteps (cond b (Ok Dropped) (Ok (data_in inner.0 frame))) e r e'
          → ForSome (decision_in r) (LeavesTunnel e octets)
      go true r h = none r (rw h.0) _
      go false (Ok reply) h = λ d at. inner_sent inner is (destination_of frame) d
          (rw at at h.0)
      go false (Err r) h = absurd h

  datagram_leaves : (i : Result (ℕ × List ℕ) vxlan.VxlanRefusal) → instance_of octets ≡ i
      → TunnelSteps (datagram_arrival e i) e result e' → ForSome (decision_in result) (LeavesTunnel e octets)
  datagram_leaves (Err r) is h = none result (rw h.0) _
  datagram_leaves (Ok inner) is h = go (serves e inner.0) h
    where
      go : (b : Bool) → TunnelSteps (cond b (inner_arrival inner.0 (frame_of inner.1)) (Err (OfEdge NoSuchVni))) e
          result e' → ForSome (decision_in result) (LeavesTunnel e octets)
      go true h = inner_leaves inner is (frame_of inner.1) result h
      go false h = none result (rw h.0) _

  pub tunnel_leaves : (from : ℕ) → TunnelSteps (tunnel_arrival e from octets) e result e'
      → ForSome (decision_in result) (LeavesTunnel e octets)
  tunnel_leaves from h = elim (cases_Bool (is_other e from)) [
    | inl other ↦ datagram_leaves (instance_of octets) refl (rw other at h)
    | inr own ↦ none result (let r = rw own at h in rw r.0) _
  ]

pub reserved_datagram : (e : Edge) (from : ℕ) (octets : List ℕ) (result : Result Reply Refusal) (e' : Edge)
    → HoldsReserved octets → TunnelSteps (tunnel_arrival e from octets) e result e' → decision_in result ≡ None
reserved_datagram e from octets result e' (vni, inner, is, (frame, framed, reserved)) h = go (is_other e from) h
  where
    served : (b : Bool) → TunnelSteps (cond b (inner_arrival vni (frame_of inner)) (Err (OfEdge NoSuchVni))) e result e'
        → decision_in result ≡ None
    served false h = rw h.0
    served true h =
        let dropped = rw reserved at (rw framed at h) in
        rw dropped.0

    go : (b : Bool) → TunnelSteps (cond b (datagram_arrival e (instance_of octets)) (Err (OfEdge UnknownOriginator))) e
        result e' → decision_in result ≡ None
    go false h = rw h.0
    go true h = served (serves e vni) (rw is at h)
