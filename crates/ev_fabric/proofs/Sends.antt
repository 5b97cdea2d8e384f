-- The destinations of a frame for a station that some edge advertises.
use Rattle.std.proofs.Common.{◌≡◌, ◌≢◌, inl, inr, ℕ, zero, suc, ◌≤◌, ◌==◌, ◌&&◌, Bool, true, false, cond, not, Option}
use Rattle.std.proofs.Common.{Some, None}
use Rattle.std.proofs.Common.{Result, Ok, List, length, refl, sym, ap, subst, ◌∙◌, arith}
use Rattle.std.proofs.lemmas.Bool.{and_parts, and_from, eq-eqb}
use Rattle.std.specs.Prelude.{IsTrue, ◌↔◌, ◌||◌}
use Rattle.std.specs.FinMap.{FinMap}
use Rattle.std.specs.Option.{MatchOption, option_map}
use Rattle.std.proofs.lemmas.Bool.Decides.{nat_tests}
use Rattle.std.proofs.lemmas.Option.{slice_get_within}
use Rattle.ether_wire.specs.Addr.{is_group}
use Rattle.ether_wire.specs.Ports.{IsPort, has_port, with_port}
use Rattle.ether_wire.proofs.PortLemmas.{has_port-none, has_port-with}
use Rattle.route_wire.specs.declared.update.Ip.{Ip}
use Rattle.route_wire.specs.declared.update.Key.TheVariants.{Mac}
use Rattle.route_join.specs.Table.{Table}
use Rattle.route_join.specs.Owner.{advert_at, owner, IsOwner, IsUnowned}
use Rattle.route_join.proofs.Owners.{one_owner, owner_is, owner_along}
use Rattle.mac_arena.specs.declared.station.Station.{Station}
use Rattle.mac_arena.specs.declared.station.Entry.{Entry}
use Rattle.mac_arena.specs.declared.table.Learnt.TheVariants.{New}
use Rattle.mac_arena.specs.Station.{station_cmp}
use Rattle.mac_arena.specs.Learning.{entry_at, learnt_of}
use Rattle.mac_arena.proofs.Looking.{learn_entry}
use Rattle.ev_mobility.specs.declared.alert.Alert.{Alert}
use Rattle.ev_mobility.specs.declared.window.Window.{Window}
use Rattle.ev_tunnel.specs.declared.decision.Decision.{Decision}
use Rattle.ev_tunnel.specs.declared.decision.Source.{Source}
use Rattle.ev_tunnel.specs.declared.decision.Source.TheVariants.{Port, Tunnel}
use Rattle.ev_tunnel.specs.Decision.{up_owner}
use Rattle.ev_tunnel.proofs.DecisionLemmas.{owner_up}
use Rattle.ev_claims.specs.LocalRoutes.{key_of, vni_at, moving, after_advert}
use Rattle.ev_edge.specs.declared.arrival.Arrival.TheVariants.{Data}
use Rattle.ev_edge.specs.declared.event.Event.{Event}
use Rattle.ev_edge.specs.declared.event.Event.TheVariants as events
use Rattle.ev_edge.specs.declared.reply.Reply.{Reply}
use Rattle.ev_edge.specs.declared.refusal.Refusal.{Refusal}
use Rattle.rstp_run.specs.Events.{Passes}
use Rattle.ev_edge.specs.Edge.{Edge, IsGoodEdge, table_of, address_of}
use Rattle.ev_edge.specs.Arrival.{frame_arrival, tunnel_arrival}
use Rattle.ev_edge.specs.Learning.{refreshed, quotas_with}
use Rattle.ev_edge.specs.Sending.{port_of, IsDecision}
use Rattle.ev_edge.specs.Storms.{taking_on}
use Rattle.ev_edge.specs.Steps.{LearnsIf, SendsIf, DataSteps, FrameSteps, TunnelSteps, Steps}
use Rattle.ev_edge.proofs.Cases.{learnt_by}
use Rattle.ev_edge.proofs.Owning.{other_key}
use Rattle.ev_fabric.specs.Agreed.{Advertises}
use Rattle.ev_fabric.specs.Laws.{IsBehindPort, frame_in, tunnel_frame_in, IsFrameFor, IsTunnelFrameFor, FramesGo}
use Rattle.ev_fabric.specs.Laws.{FramesComeOut, TunnelFramesComeOut}
use Rattle.ev_fabric.specs.Station.{StationFramesGo}
use Rattle.ev_fabric.proofs.Agreements.{learnt, individual}
use Rattle.ev_fabric.proofs.Stations.{agree_on_each, station_one, station_owner}
use Rattle.ev_fabric.proofs.ConvergingEdge.{learnt_cases}
use Rattle.ev_claims.proofs.Numbers.{key_stays as said_other}

-- ---- learning a station leaves the others

pub record LeavesBe (a b : Edge) (s : Station) : Type 0 where
  pub address : address_of b ≡ address_of a
  pub tree : b.tree ≡ a.tree
  pub away : b.away ≡ a.away
  pub entry : entry_at b.routes.learned s ≡ entry_at a.routes.learned s
  pub adverts : (o : ℕ) (ip : Option Ip) → advert_at (table_of b) o (Mac s.vni s.mac ip)
      ≡ advert_at (table_of a) o (Mac s.vni s.mac ip)

leaves_itself : (a : Edge) (s : Station) → LeavesBe a a s
leaves_itself a s = assumption

same_leaves : (a b : Edge) (s : Station) → b ≡ a → LeavesBe a b s
same_leaves a b s is = rw is (leaves_itself a s)

entry_leaves : (e : Edge) (q : Station) (port : ℕ) (s : Station) → s ≢ q → LeavesBe e (refreshed e q port) s
entry_leaves e q port s ne =
    assumption ((learn_entry e.routes.learned q port e.clock (learnt_of e.routes.learned q port)).others s ne)

advert_leaves : (e : Edge) (q : Station) (port n : ℕ) (windows : FinMap station_cmp Window) (s : Station) → s ≢ q
    → LeavesBe e (record e {
      routes = after_advert e.routes q port e.clock n;
      windows = windows;
      quotas = quotas_with e q port;
    }) s
advert_leaves e q port n windows s ne =
    record {
      address = refl;
      tree = refl;
      away = refl;
      entry = (learn_entry e.routes.learned q port e.clock New).others s ne;
      adverts = λ o ip. said_other e.routes.speaker (key_of q) (moving n) (Mac s.vni s.mac ip) o
          (other_key s q ip None ne);
    }

learns_leave : (b : Bool) (e : Edge) (q : Station) (port : ℕ) (told : Option Alert) (e' : Edge) (s : Station) → s ≢ q
    → LearnsIf b e q port told e' → LeavesBe e e' s
learns_leave b e q port told e' s ne h = learnt_by (λ x. LeavesBe e x s) e q port told e' (leaves_itself e s)
    (λ heard. entry_leaves e q port s ne)
    (assumption)
    (λ new. advert_leaves e q port 0 e.windows s ne) (λ n new. advert_leaves e q port n _ s ne) b h

-- ---- the effects of a frame

both_of : {p q : ℕ} {xs ys : List ℕ} → ◌≡◌ {A = Option (ℕ × List ℕ)} (Some (p, xs)) (Some (q, ys))
    → (p ≡ q) × (xs ≡ ys)
both_of {p} {q} {xs} {ys} is =
    let both : ◌≡◌ {A = ℕ × List ℕ} (p, xs) (q, ys) = cc in (ap (λ x. x.0) both, ap (λ x. x.1) both)

frame_step : (a : Edge) (event : Event) (result : Result Reply Refusal) (b : Edge) (port : ℕ) (octets : List ℕ)
    → frame_in event ≡ Some (port, octets) → Steps a event result b
    → FrameSteps (frame_arrival a port octets) a port result b
frame_step a (events.Frame p bytes) result b port octets is h = let x = both_of is in rw (← x.0, ← x.1) h
frame_step a other result b port octets is h = cc

pub tunnel_step : (a : Edge) (event : Event) (result : Result Reply Refusal) (b : Edge) (from : ℕ) (octets : List ℕ)
    → tunnel_frame_in event ≡ Some (from, octets) → Steps a event result b
    → TunnelSteps (tunnel_arrival a from octets) a result b
tunnel_step a (events.TunnelFrame o bytes) result b from octets is h = let x = both_of is in rw (← x.0, ← x.1) h
tunnel_step a other result b from octets is h = cc

-- a frame for the station: its source is learnt, and it is sent
pub record IsSent (a b : Edge) (s : Station) (from : Source) (reply : Reply) : Type 0 where
  pub leaves : LeavesBe a b s
  pub decision : Decision
  pub there : reply.decision ≡ Some decision
  pub is : IsDecision b s.vni s.mac from decision

sent : (passes : Bool) (o : Option Decision) (b : Edge) (vni destination : ℕ) (from : Source) → IsTrue passes
    → SendsIf passes b vni destination from o → (d : Decision) × (o ≡ Some d) × IsDecision b vni destination from d
sent passes None b vni destination from told h = absurd h
sent true (Some d) b vni destination from told h = (d, refl, h)
sent false (Some d) b vni destination from told h = cc

-- a frame that is counted first
taking_leaves : (a : Edge) {b : Edge} (port : ℕ) {s : Station} → LeavesBe (taking_on a port s.vni s.mac) b s → LeavesBe
    a b s
taking_leaves a port h =
    assumption

pub frame_sent : {a : Edge} (b : Edge) {event : Event} {port : ℕ} {s : Station} (reply : Reply) → IsFrameFor a event
    port s
    → Steps a event (Ok reply) b → IsSent a b s (Port port) reply
frame_sent {a} b {event} {port} {s} reply frame steps =
    let d = sent steps_are.passes reply.decision b s.vni s.mac (Port port) (steps_are.are_passed.1 frame.passes)
    steps_are.sending in
    record {
      leaves = taking_leaves a port (learns_leave (steps_are.learning.learns && not (is_group frame.source))
          (taking_on a port s.vni s.mac) (record { vni = s.vni; mac = frame.source }) port reply.alert b s other
          steps_are.learning.learning);
      decision = d.0;
      there = d.1;
      is = d.2;
    }
  where
    steps_are : DataSteps (taking_on a port s.vni s.mac) port s.vni s.mac frame.source reply b
    steps_are = subst (λ r. FrameSteps r a port (Ok reply) b) frame.arrives
        (frame_step a event (Ok reply) b port frame.octets frame.frame steps)

    other : s ≢ record { vni = s.vni; mac = frame.source }
    other same = frame.other (ap (λ (q : Station). q.mac) (sym same))

tunnel_sent : {a : Edge} (b : Edge) {event : Event} {s : Station} (reply : Reply) → IsTunnelFrameFor a event s
    → Steps a event (Ok reply) b → IsSent a b s Tunnel reply
tunnel_sent {a} b {event} {s} reply frame steps =
    let d = sent true reply.decision b s.vni s.mac Tunnel refl
    (rw steps_are.2 steps_are.0) in
    record { leaves = same_leaves a b s steps_are.2; decision = d.0; there = d.1; is = d.2 }
  where
    steps_are : TunnelSteps (Ok (Data s.vni s.mac frame.source)) a (Ok reply) b
    steps_are = rw frame.arrives at (tunnel_step a event (Ok reply) b frame.from frame.octets frame.frame steps)

-- ---- to another edge

-- the walk finds an owner if there is one
pub owner_found : {t : Table} {vni mac o : ℕ} → IsOwner t vni mac o → owner t vni mac ≡ Some o
owner_found {t} {vni} {mac} {o} h = go (owner t vni mac) (owner_is t vni mac)
  where
    go : (x : Option ℕ) → MatchOption x (IsUnowned t vni mac) (IsOwner t vni mac) → x ≡ Some o
    go None none = cc (h.own, none o h.ip)
    go (Some p) is = ap Some (one_owner t vni mac p o is h)

-- a station that an edge doesn't advertise isn't learnt there
pub no_entry : {a : Edge} (s : Station) → IsGoodEdge a → (Advertises a s → ⊥) → entry_at a.routes.learned s ≡ None
no_entry s h none = elim (learnt_cases s h.routes.routes) [
  | inl no' ↦ no'.0
  | inr x ↦ absurd (none (None, x.1, x.3))
]

pub station_frames_go : StationFramesGo
station_frames_go f s h agree i j o a b at_o at_a apart says up event port reply frame steps =
    record {
      decision = x.decision;
      there = x.there;
      local = rw (x.is.local, single, none, owned, far);
      remote = rw (x.is.remote, single, none, owned, far);
    }
  where
    x : IsSent a b s (Port port) reply
    x = frame_sent b reply frame steps

    single : is_group s.mac ≡ false
    single = individual s (h.good i o at_o) says

    none : port_of b s.vni s.mac ≡ None
    none = ap (option_map (λ (y : Entry). y.port)) (x.leaves.entry
        ∙ no_entry s (h.good j a at_a) (λ y. apart (station_one s h agree i j o a at_o at_a says y)))

    owned : up_owner b.away (owner (table_of b) s.vni s.mac) ≡ Some (address_of o)
    owned = owner_up b.away (owner (table_of b) s.vni s.mac) (address_of o)
        (owner_found
        (owner_along (table_of a) (table_of b) s.vni s.mac (address_of o) (λ p ip. sym (x.leaves.adverts p ip))
        (station_owner s h agree i j o a at_o at_a says)))
        (rw x.leaves.away up)

    far : (address_of o == address_of b) ≡ false
    far = let differs : address_of o ≢ address_of b = (λ q. apart (h.apart i j o a at_o at_a (q ∙ x.leaves.address))) in
        grind (arith, nat_tests)

-- edges that agree on everything agree on this station
pub frames_go : FramesGo
frames_go f h agree i j o a b s = station_frames_go f s h ((agree_on_each f agree).stations s) i j o a b

-- ---- at the edge itself

-- one port, or none
alone : (c : Bool) (q p : ℕ) → IsPort q → (has_port (cond c (with_port 0 q) 0) p ≡ true) ↔ ((p ≡ q) × (c ≡ true))
alone true q p is = (
  λ there. (grind (arith, nat_tests, has_port-with 0 q is p, has_port-none p, there), refl),
  λ h. has_port-with 0 q is p ∙ ap (λ b. b || has_port 0 p) (eq-eqb q p (sym h.0)),
)
alone false q p is = (λ there. cc (has_port-none p), λ h. cc (h.1))

-- so a frame goes out at the port exactly if it may
goes_out : {set q : ℕ} (c : Bool) (May : Type 0) → IsPort q → set ≡ cond c (with_port 0 q) 0 → (c ≡ true) ↔ May
    → (p : ℕ) → (has_port set p ≡ true) ↔ ((p ≡ q) × May)
goes_out {q = q} c May port is may p =
    let a = alone c q p port in (
      λ there. let h = a.0 (rw (← is) there) in (h.0, may.0 h.1),
      λ h. rw is (a.1 (h.0, may.1 h.1)),
    )

-- a port of a VNI is one of the bridge's
record IsThere (o : Edge) (q : ℕ) : Type 0 where
  least : 1 ≤ q
  most : q ≤ length o.tree.ports
  few : q ≤ 64

there : (o : Edge) (vni q : ℕ) → IsGoodEdge o → vni_at o.routes.ports q ≡ Some vni → IsThere o q
there o vni zero h is = cc
there o vni (suc l) h is =
    omega (arith, slice_get_within o.routes.ports l vni is, h.keeps.ports, h.routes.routes.few)

-- the entry of a station that an edge advertises, and its port
module _ {o : Edge} (s : Station) (good : IsGoodEdge o) (says : Advertises o s) where
  e : (x : Entry) × IsBehindPort o s x
  e = learnt o s good says

  t : IsThere o e.0.port
  t = there o s.vni e.0.port good e.1.port

  module _ {b : Edge} {source : Source} {reply : Reply} (x : IsSent o b s source reply) where
    some : port_of b s.vni s.mac ≡ Some e.0.port
    some = rw (x.leaves.entry, e.1.learnt)

    passes : (has_port x.is.passing e.0.port ≡ true) ↔ Passes o.tree e.0.port
    passes =
        let are = x.is.are_passing e.0.port in (
          λ on. rw x.leaves.tree at (are.0 on).1,
          λ may. are.1 ((t.least, rw x.leaves.tree t.most), rw x.leaves.tree may),
        )

pub frames_come_out : FramesComeOut
frames_come_out o b s good says event port reply frame steps = (
  (e s good says).0,
  (e s good says).1,
  record {
    decision = x.decision;
    there = x.there;
    local = goes_out (has_port x.is.passing q && not (port == q)) (Passes o.tree q × (q ≢ port))
        (omega (arith, t s good says))
        (rw (x.is.local, individual s good says, some s good says x)) (
          λ on.
              let two = and_parts (has_port x.is.passing q) (not (port == q)) on in
              ((passes s good says x).0 two.0, λ same. grind (arith, nat_tests, two.1)),
          λ may. and_from (has_port x.is.passing q) (not (port == q)) ((passes s good says x).1 may.0)
              (grind (arith, nat_tests, may.1)),
        );
    remote = rw (x.is.remote, individual s good says, some s good says x);
  },
)
  where
    x : IsSent o b s (Port port) reply
    x = frame_sent b reply frame steps

    q : ℕ
    q = (e s good says).0.port

pub tunnel_frames_come_out : TunnelFramesComeOut
tunnel_frames_come_out o b s good says event reply frame steps = (
  (e s good says).0,
  (e s good says).1,
  record {
    decision = x.decision;
    there = x.there;
    local = goes_out (has_port x.is.passing q && true) (Passes o.tree q)
        (omega (arith, t s good says))
        (rw (x.is.local, individual s good says, some s good says x)) (
          λ on. (passes s good says x).0 (and_parts (has_port x.is.passing q) true on).0,
          λ may. and_from (has_port x.is.passing q) true ((passes s good says x).1 may) refl,
        );
    remote = x.is.remote;
  },
)
  where
    x : IsSent o b s Tunnel reply
    x = tunnel_sent b reply frame steps

    q : ℕ
    q = (e s good says).0.port
