-- The ports by which a frame leaves an edge's bridge, determined only by the edge's step.
use Rattle.std.proofs.Common.{◌≡◌, ◌≢◌, ℕ, ◌-◌, ◌<◌, ◌≤◌, ◌^◌, Bool, true, false, not, cond, ◌&&◌}
use Rattle.std.proofs.Common.{Option, Some, None, Result, Ok, Err, List, length, slice_get, refl, sym, ◌∙◌}
use Rattle.std.proofs.Common.{arith}
use Rattle.std.specs.Option.{option_map_or}
use Rattle.std.proofs.lemmas.Bool.{eq-eqb, true≢false, and_parts}
use Rattle.std.proofs.lemmas.Option.{slice_get_within}
use Rattle.ether_wire.specs.Ports.{IsPort, has_port, no_ports, with_port}
use Rattle.ether_wire.proofs.PortLemmas.{has_port-none, is_port}
use Rattle.mac_arena.specs.declared.station.Station.{Station}
use Rattle.rstp_state.specs.declared.port.PortState.{PortState}
use Rattle.rstp_run.specs.Events.{Passes}
use Rattle.rstp_run.specs.Rules.{Tree}
use Rattle.route_join.specs.Owner.{owner}
use Rattle.ev_tunnel.specs.declared.decision.Decision.{Decision}
use Rattle.ev_tunnel.specs.declared.decision.Source.{Source}
use Rattle.ev_tunnel.specs.declared.decision.Source.TheVariants.{Port}
use Rattle.ev_tunnel.specs.Decision.{is_from, local_of, port_alone, up_owner}
use Rattle.ev_tunnel.specs.Place.{place_of, learnt_place, owned_place}
use Rattle.ev_tunnel.proofs.DecisionLemmas.{at_port, local_passes, member_is, never_back}
use Rattle.ether_wire.specs.Addr.{is_group}
use Rattle.ev_mobility.specs.declared.alert.Alert.{Alert}
use Rattle.ev_edge.specs.declared.arrival.Arrival.{Arrival}
use Rattle.ev_edge.specs.declared.arrival.Arrival.TheVariants.{Dropped, Message, Data}
use Rattle.vxlan_wire.specs.Vxlan.{instance_of}
use Rattle.ev_edge.specs.declared.refusal.Refusal.{Refusal}
use Rattle.ev_edge.specs.declared.refusal.Refusal.TheVariants.{Edge as OfEdge}
use Rattle.ev_edge.specs.declared.refusal.EdgeRefusal.TheVariants.{UnknownOriginator}
use Rattle.ev_edge.specs.declared.reply.Reply.{Reply}
use Rattle.ev_edge.specs.Edge.{Edge, table_of, address_of}
use Rattle.ev_edge.specs.Arrival.{is_other, datagram_arrival, tunnel_arrival}
use Rattle.ev_edge.specs.Sending.{IsDecision, port_of}
use Rattle.ev_edge.specs.Storms.{taking_on}
use Rattle.ev_edge.specs.Steps.{LearnsIf, SendsIf, DataSteps, FrameSteps, TunnelSteps}
use Rattle.ev_edge.proofs.Cases.{learnt_by}
use Rattle.ev_edge.specs.Laws.{decision_in}
use Rattle.ev_edge.proofs.Frames.{bridged}

-- ---- a decision's ports

alone_passes : (port : ℕ) (from : Source) (members passing q : ℕ)
    → has_port (port_alone port from (record { members = members; passing = passing })) q ≡ true
    → has_port passing port ≡ true
alone_passes port from members passing q there = go (has_port passing port) there
  where
    go : (b : Bool) → has_port (cond (b && not (is_from from port)) (with_port no_ports port) no_ports) q ≡ true
        → b ≡ true
    go true there = refl
    go false there = absurd (true≢false (sym there ∙ has_port-none q))

-- each of them passes
passes_in : (destination : ℕ) (entry owner : Option ℕ) (own : ℕ) (from : Source) (members : ℕ) {passing q : ℕ}
    → passing < 2 ^ 64 → IsPort q
    → has_port (local_of (place_of destination entry owner own) from (record { members = members; passing = passing }))
    q ≡ true → has_port passing q ≡ true
passes_in destination None owner own from members {passing} {q} small port there =
    (local_passes (place_of destination None owner own) from (record { members = members; passing = passing }) small
    (member_is destination None owner own members (λ p at. absurd ((cc)))) q port there).1
passes_in destination (Some p) owner own from members {passing} {q} small port there = go (is_group destination) there
  where
    go : (b : Bool) → has_port
        (local_of (cond b (owned_place None own) (learnt_place (Some p) owner own)) from
        (record { members = members; passing = passing })) q ≡ true → has_port passing q ≡ true
    go true there =
        (local_passes (owned_place None own) from (record { members = members; passing = passing }) small tt q port
        there).1
    go false there =
        let same = at_port (Some p) None (learnt_place (Some p) owner own) from
        (record { members = members; passing = passing }) q small refl (λ e. (cc)) there in
        let one : p ≡ q = cc in
        (rw one) ∙ alone_passes p from members passing q there

decided : {e : Edge} {vni destination : ℕ} {from : Source} {d : Decision} → IsDecision e vni destination from d
    → (q : ℕ) → IsPort q → has_port d.local q ≡ true → Passes e.tree q
decided {e} {vni} {destination} {from} i q port there =
    ((i.are_passing q).0
    (passes_in destination (port_of e vni destination) (up_owner e.away (owner (table_of e) vni destination))
    (address_of e) from i.members i.passing_fit port
    ((rw i.local) ∙ there))).1

-- a port that passes is one of the bridge
is_there : (s : Tree) (p : ℕ) → Passes s p → p - 1 < length s.ports
is_there s p passes = go (slice_get s.ports (p - 1)) refl passes.1
  where
    go : (o : Option PortState) → slice_get s.ports (p - 1) ≡ o
        → option_map_or (λ port. port.enabled && port.forwarding) o false ≡ true → p - 1 < length s.ports
    go None is h = absurd (true≢false (sym h))
    go (Some port) is h = slice_get_within s.ports (p - 1) port is

-- none of them is the frame's own
not_own : {e : Edge} {vni destination port : ℕ} {d : Decision} → 1 ≤ port → Passes e.tree port
    → IsDecision e vni destination (Port port) d → has_port d.local port ≡ false
not_own {e} {vni} {destination} {port} some passes i =
    (rw i.local)
    ∙ never_back (place_of destination (port_of e vni destination)
    (up_owner e.away (owner (table_of e) vni destination)) (address_of e))
    port (record { members = i.members; passing = i.passing }) i.members_fit i.passing_fit
    (is_port i.passing port i.passing_fit ((i.are_passing port).1 (
      (
        some,
        omega
            (arith, is_there e.tree port passes, some),
      ),
      passes,
    )))

-- ---- frames from an access port

learnt_stays : (e : Edge) (s : Station) (port : ℕ) (told : Option Alert) (e' : Edge) (b : Bool)
    → LearnsIf b e s port told e' → e'.tree ≡ e.tree
learnt_stays e s port told e' b h =
    learnt_by (λ x. x.tree ≡ e.tree) e s port told e' refl (λ heard. refl) refl (λ new. refl) (λ n new. refl) b h

-- the frame's own port passes, and so does the one by which it leaves, which is another
pub record Sent (e : Edge) (port q : ℕ) : Type 0 where
  pub enters : Passes e.tree port
  pub leaves : Passes e.tree q
  pub other : q ≢ port

none_decided : {P : Type 0} (result : Result Reply Refusal) (d : Decision) → decision_in result ≡ None
    → decision_in result ≡ Some d → P
none_decided result d none is = absurd ((cc))

module _ (e : Edge) (port : ℕ) (e' : Edge) (some : 1 ≤ port) where
  sent : (vni destination : ℕ) (d : Decision) → e'.tree ≡ e.tree → (b : Bool) → (b ≡ true → Passes e.tree port)
      → SendsIf b e' vni destination (Port port) (Some d) → (q : ℕ) → IsPort q → has_port d.local q ≡ true
      → Sent e port q
  sent vni destination d stays false passes h q port_q there =
      absurd (true≢false (sym there ∙ (rw h.0) ∙ has_port-none q))
  sent vni destination d stays true passes h q port_q there =
      let own = passes refl in
      record {
        enters = own;
        leaves = rw stays at (decided h q port_q there);
        other = λ same. true≢false (sym there ∙ (rw same)
            ∙ (not_own some (rw stays own) h));
      }

  data_sent : (vni destination source : ℕ) (reply : Reply) (d : Decision)
      → DataSteps (taking_on e port vni destination) port vni destination source reply e' → reply.decision ≡ Some d
      → (q : ℕ) → IsPort q
      → has_port d.local q ≡ true → Sent e port q
  data_sent vni destination source reply d h is q port_q there =
      sent vni destination d
      (learnt_stays (taking_on e port vni destination) (record { vni = vni; mac = source }) port reply.alert e' _
      h.learning.learning) h.passes
      h.are_passed.0 (rw is at h.sending) q port_q there

  pub frame_sent : (arrival : Result Arrival Refusal) (result : Result Reply Refusal) (d : Decision)
      → FrameSteps arrival e port result e' → decision_in result ≡ Some d → (q : ℕ) → IsPort q
      → has_port d.local q ≡ true → Sent e port q
  frame_sent (Err r) result d h is q port_q there = none_decided result d (rw h.0) is
  frame_sent (Ok Dropped) result d h is q port_q there = none_decided result d (rw h.0) is
  frame_sent (Ok (Message b)) result d h is q port_q there = none_decided result d (bridged _ e result e' h) is
  frame_sent (Ok (Data vni destination source)) (Ok reply) d h is q port_q there =
      data_sent vni destination source reply d h is q port_q there
  frame_sent (Ok (Data vni destination source)) (Err r) d h is q port_q there = absurd h

-- ---- frames from a tunnel

pub tunnel_passes : (e : Edge) (arrival : Result Arrival Refusal) (result : Result Reply Refusal)
    (e' : Edge) {d : Decision} → TunnelSteps arrival e result e' → decision_in result ≡ Some d → (q : ℕ) → IsPort q
    → has_port d.local q ≡ true → Passes e.tree q
tunnel_passes e (Err r) result e' {d} h is q port_q there = none_decided result d (rw h.0) is
tunnel_passes e (Ok Dropped) result e' {d} h is q port_q there = none_decided result d (rw h.0) is
tunnel_passes e (Ok (Message b)) result e' h is q port_q there = absurd h
tunnel_passes e (Ok (Data vni destination source)) (Ok reply) e' {d} h is q port_q there =
    decided (rw is at h.0) q port_q there
tunnel_passes e (Ok (Data vni destination source)) (Err r) e' h is q port_q there = absurd h

right_of : (a : Bool) {b : Bool} → (a && not b) ≡ true → b ≡ false
right_of a {b = true} h = absurd (true≢false (sym (and_parts a false h).1))
right_of a h = refl

-- an edge takes no datagram from itself
pub tunnel_other : (e : Edge) {from : ℕ} (octets : List ℕ) (result : Result Reply Refusal) (e' : Edge) {d : Decision}
    → TunnelSteps (tunnel_arrival e from octets) e result e' → decision_in result ≡ Some d → from ≢ address_of e
tunnel_other e {from} octets result e' {d} h is same = go (is_other e from) refl h
  where
    go : (b : Bool) → is_other e from ≡ b
        → TunnelSteps (cond b (datagram_arrival e (instance_of octets)) (Err (OfEdge UnknownOriginator))) e result e'
        → ⊥
    go true other h = true≢false (sym (eq-eqb from (address_of e) same) ∙ right_of _ other)
    go false other h = none_decided result d (rw h.0) is
