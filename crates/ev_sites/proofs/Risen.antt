-- Two edges of one VNI whose ports have come up: their bridges are roots that are settled, and both ports pass.
use Rattle.std.proofs.Common.{◌≡◌, ◌≤◌, ◌<◌, ◌^◌, ◌==◌, ◌||◌, ◌⊎◌, ◌↔◌, ℕ, zero, suc, true, false, not, ◌&&◌, Some}
use Rattle.std.proofs.Common.{None, List, [], ◌∷◌, ◌++◌, length, inl, inr, refl, sym, ap, ◌∙◌, arith, lit≤, lit<}
use Rattle.std.specs.Prelude.{Ok, IsTrue}
use Rattle.std.specs.FinMap.{FinMap, empty}
use Rattle.std.proofs.lemmas.Bool.Decides.{nat_tests}
use Rattle.ether_wire.specs.Addr.{is_group}
use Rattle.ether_wire.specs.Ports.{has_port, with_port, no_ports}
use Rattle.ether_wire.proofs.PortLemmas.{none_after, has_port-with, has_port-none}
use Rattle.route_wire.specs.Fields.{Fields}
use Rattle.mac_arena.specs.Station.{station_cmp}
use Rattle.mac_arena.specs.Learning.{Learning}
use Rattle.rstp_state.specs.Selection.{selected_ports, selected_root, best_path}
use Rattle.rstp_state.specs.declared.start.Settings.{Settings}
use Rattle.rstp_run.specs.declared.event.Event.{Event}
use Rattle.rstp_run.specs.declared.event.Event.TheVariants as tree_events
use Rattle.rstp_run.specs.Events.{direct, start, sent_from, firings_at, RunsHappen, Passes, Learns, IsPort}
use Rattle.rstp_run.specs.Rules.{Tree}
use Rattle.rstp_run.specs.Settled.{SettledByLists}
use Rattle.ev_sites.proofs.Histories.{AreSwept, runs, coming_up, swept-is}
use Rattle.ev_sites.proofs.Ring.{settings_of, two_ports, root_bridge, root_settled}
use Rattle.ev_tunnel.specs.declared.decision.Decision.{Decision}
use Rattle.ev_tunnel.specs.declared.decision.Source.{Source}
use Rattle.ev_tunnel.specs.declared.decision.Source.TheVariants.{Port}
use Rattle.ev_tunnel.specs.Decision.{local_up, remote_up}
use Rattle.ev_mobility.specs.declared.window.Window.{Window}
use Rattle.ev_claims.specs.Speaker.{Speaker}
use Rattle.ev_claims.specs.LocalRoutes.{LocalRoutes, is_member}
use Rattle.ev_claims.specs.Leaving.{after_flush}
use Rattle.ev_edge.specs.declared.event.Event.TheVariants as edge_events
use Rattle.ev_edge.specs.declared.reply.Reply.{Reply}
use Rattle.ev_edge.specs.Bridging.{BridgeGoes}
use Rattle.ev_edge.specs.Edge.{Edge, table_of, address_of, ArePassing}
use Rattle.ev_edge.specs.Sending.{port_of, IsDecision}
use Rattle.ev_edge.specs.Steps.{Steps, BridgeSteps, LearnsIf, DataSteps, nothing}
use Rattle.ev_fabric.specs.declared.step.Step.{Step}
use Rattle.ev_fabric.specs.declared.step.Step.TheVariants.{Local}
use Rattle.ev_fabric.specs.declared.step.LocalEvent.TheVariants.{PortUp}
use Rattle.ev_fabric.specs.Fabric.{Fabric}
use Rattle.ev_fabric.specs.Steps.{FabricSteps}
use Rattle.ev_fabric.specs.Runs.{Runs}
use Rattle.ev_fabric.proofs.Example.{fabric_of, configs_of, nobody_learnt, unlimited, no_storms}
use Rattle.ev_sites.proofs.Guest.{flood_register, said_first, speaker_with, routes_with, here, there}

-- ---- addresses of frames

-- of a group, which no edge learns
abbrev pub nobody : ℕ
nobody = 0x010000000001

-- of all stations
abbrev pub everyone : ℕ
everyone = 0xffffffffffff

-- ---- two ports as a set

abbrev pub both_ports : ℕ
both_ports = with_port (with_port no_ports 1) 2

has_both : (p : ℕ) → has_port both_ports p ≡ ((2 == p) || ((1 == p) || false))
has_both p =
    has_port-with (with_port no_ports 1) 2 (record { least = lit≤ tt; most = lit≤ tt }) p
    ∙ rw (has_port-with no_ports 1 (record { least = lit≤ tt; most = lit≤ tt }) p
    ∙ ap (λ b. (1 == p) || b) (has_port-none p))

past_two : (p : ℕ) → ((2 == suc (suc (suc p))) || ((1 == suc (suc (suc p))) || false)) ≡ false
past_two p =
    let two : (2 == suc (suc (suc p))) ≡ false = grind (arith, nat_tests) in
    let one : (1 == suc (suc (suc p))) ≡ false = grind (arith, nat_tests) in
    rw (two, one)

are_both : (p : ℕ) → has_port both_ports p ≡ is_member (5001 ∷ 5001 ∷ []) 5001 p
are_both zero = has_both zero
are_both (suc zero) = has_both 1
are_both (suc (suc zero)) = has_both 2
are_both (suc (suc (suc p))) = has_both (suc (suc (suc p))) ∙ past_two p

of_both : (p : ℕ) → has_port both_ports p ≡ true → (p ≡ 1) ⊎ (p ≡ 2)
of_both zero h = absurd (cc (sym (has_both zero) ∙ h))
of_both (suc zero) h = inl refl
of_both (suc (suc zero)) h = inr refl
of_both (suc (suc (suc p))) h = absurd (cc (sym (has_both (suc (suc (suc p))) ∙ past_two p) ∙ h))

in_both : (p : ℕ) → 1 ≤ p → p ≤ 2 → has_port both_ports p ≡ true
in_both zero some low = absurd (omega (arith, some))
in_both (suc zero) some low = has_both 1
in_both (suc (suc zero)) some low = has_both 2
in_both (suc (suc (suc p))) some low = absurd (omega (arith, low))

both_fit : both_ports < 2 ^ 64
unfolding with_port
both_fit = lit< tt

-- ---- a port comes up

abbrev pub root_settings : Settings
root_settings = settings_of 1152924433774542849

abbrev down : Tree
down = start root_settings two_ports

abbrev half : Tree
half = runs (coming_up 0) (direct (tree_events.PortUp 1) down)

half_swept : AreSwept 192 (coming_up 0) (direct (tree_events.PortUp 1) down)
unfolding selected_ports selected_root best_path
half_swept = refl

both_swept : AreSwept 192 (coming_up 1) (direct (tree_events.PortUp 2) half)
unfolding selected_ports selected_root best_path
both_swept = refl

half_limit : firings_at half ≡ 192
unfolding selected_ports selected_root best_path
half_limit = refl

no_flush : (c : LocalRoutes) → after_flush c 0 ≡ c
no_flush c = rw (none_after 0 0 (lit< tt) refl)

abbrev told : Tree → Reply
told tree = record nothing { bpdus = record { items = sent_from 1 tree.ports } }

goes_up : {e : Edge} {event : Event} {tree : Tree} → BridgeGoes event e.tree tree 0 (sent_from 1 tree.ports)
    → BridgeSteps event e (told tree) (record e { tree = tree })
goes_up {e} goes = record {
  flush = 0;
  goes = goes;
  after = rw (no_flush e.routes);
  reply_is = refl;
}

-- ---- the fabric

abbrev pub Windows : Type 0
Windows = FinMap station_cmp Window

abbrev pub edge_with : LocalRoutes → Tree → Windows → Edge
edge_with routes tree windows = record {
  routes = routes;
  clock = 0;
  ageing = 300;
  tree = tree;
  windows = windows;
  away = [];
  quotas = unlimited;
  storms = no_storms;
}

abbrev pub fabric_with : Edge → Edge → List Fields → Fabric
fabric_with a b pool = record { edges = a ∷ b ∷ []; configs = configs_of root_settings; pool = pool }

-- it has made its flood advert, and hasn't announced it
abbrev pub opened_with : ℕ → Tree → Edge
opened_with address tree =
    edge_with (routes_with
    (speaker_with address ((flood_register address, said_first) ∷ []) 1 (flood_register address ∷ [])) nobody_learnt)
    tree
    empty

-- both ports have come up
abbrev pub risen_edge : Speaker → Learning → Windows → Edge
risen_edge speaker learned windows = edge_with (routes_with speaker learned) root_bridge windows

abbrev fabric_up : Tree → Tree → Fabric
fabric_up s t = fabric_with (opened_with here s) (opened_with there t) []

abbrev pub risen : Fabric
risen = fabric_up root_bridge root_bridge

abbrev pub steps_up : List Step
steps_up = Local 1 (PortUp 1) ∷ Local 1 (PortUp 2) ∷ Local 2 (PortUp 1) ∷ Local 2 (PortUp 2) ∷ []

-- ---- an edge's decisions

abbrev pub decided : Edge → ℕ → Source → Decision
decided e destination from = record {
  local = local_up e.away (table_of e) 5001 destination (port_of e 5001 destination) (address_of e) from both_ports
      both_ports;
  remote = record {
    items = remote_up e.away (table_of e) 5001 destination (port_of e 5001 destination) (address_of e) from;
  };
}

abbrev pub sending : Decision → Reply
sending d = record nothing { decision = Some d }

-- ---- runs

-- one run after another
pub runs_on : (steps more : List Step) (old mid new : Fabric) → Runs old steps mid → Runs mid more new
    → Runs old (steps ++ more) new
runs_on [] more old mid new h k = (rw h at k)
runs_on (step ∷ steps) more old mid new h k = (h.0, h.1, h.2, runs_on steps more h.0 mid new h.3 k)

module _ (lists : SettledByLists) (happens : RunsHappen) where
  half_goes : BridgeGoes (tree_events.PortUp 1) down half 0 (sent_from 1 half.ports)
  half_goes =
      let (settled, does) = happens (tree_events.PortUp 1) 192 down half (coming_up 0)
      (swept-is 192 (direct (tree_events.PortUp 1) down) half_swept) in
      record { settled = settled; happens = does; slots = refl }

  root_goes : BridgeGoes (tree_events.PortUp 2) half root_bridge 0 (sent_from 1 root_bridge.ports)
  root_goes =
      let (settled, does) = happens (tree_events.PortUp 2) 192 half root_bridge (coming_up 1)
      (swept-is 192 (direct (tree_events.PortUp 2) half) both_swept) in
      record {
        settled = settled;
        happens = rw half_limit does;
        slots = refl;
      }

  pub comes_up : Runs (fabric_of root_settings) steps_up risen
  comes_up = (
    fabric_up half down,
    Ok (told half),
    first_half,
    (
      fabric_up root_bridge down,
      Ok (told root_bridge),
      first_whole,
      (fabric_up root_bridge half, Ok (told half), second_half, (risen, Ok (told root_bridge), second_whole, refl)),
    ),
  )
    where
      first_half : FabricSteps (fabric_of root_settings) (Local 1 (PortUp 1)) (Ok (told half)) (fabric_up half down)
      first_half =
          record {
            after = opened_with here half;
            answer = Ok (told half);
            steps = goes_up half_goes;
            result_is = refl;
            new_is = refl;
          }

      first_whole : FabricSteps (fabric_up half down) (Local 1 (PortUp 2)) (Ok (told root_bridge))
          (fabric_up root_bridge down)
      first_whole =
          record {
            after = opened_with here root_bridge;
            answer = Ok (told root_bridge);
            steps = goes_up root_goes;
            result_is = refl;
            new_is = refl;
          }

      second_half : FabricSteps (fabric_up root_bridge down) (Local 2 (PortUp 1)) (Ok (told half))
          (fabric_up root_bridge half)
      second_half =
          record {
            after = opened_with there half;
            answer = Ok (told half);
            steps = goes_up half_goes;
            result_is = refl;
            new_is = refl;
          }

      second_whole : FabricSteps (fabric_up root_bridge half) (Local 2 (PortUp 2)) (Ok (told root_bridge)) risen
      second_whole =
          record {
            after = opened_with there root_bridge;
            answer = Ok (told root_bridge);
            steps = goes_up root_goes;
            result_is = refl;
            new_is = refl;
          }

  -- the two ports of any such edge come up
  pub rises : (v : Speaker) (l : Learning) (w : Windows) → (mid : Edge) × (one : Reply) × (two : Reply)
      × Steps (edge_with (routes_with v l) (start root_settings two_ports) w) (edge_events.PortUp 1) (Ok one) mid
      × Steps mid (edge_events.PortUp 2) (Ok two) (risen_edge v l w)
  rises v l w = (
    edge_with (routes_with v l) half w,
    told half,
    told root_bridge,
    goes_up half_goes,
    goes_up root_goes,
  )

  -- ---- its ports

  pub passes_one : Passes root_bridge 1
  unfolding selected_ports selected_root best_path
  passes_one = (root_settled lists, refl)

  passes_two : Passes root_bridge 2
  unfolding selected_ports selected_root best_path
  passes_two = (root_settled lists, refl)

  pub learns_one : IsTrue true ↔ Learns root_bridge 1
  unfolding selected_ports selected_root best_path
  learns_one = (λ h. (root_settled lists, refl), λ h. refl)

  two_there : length root_bridge.ports ≡ 2
  unfolding selected_ports selected_root best_path
  two_there = refl

  both_pass : ArePassing root_bridge both_ports
  both_pass p = (
    λ h. elim (of_both p h) [ inl one ↦ (at_one p one) | inr two ↦ (at_two p two) ],
    λ h. in_both p h.0.0
        (omega (arith, h.0.1, two_there)),
  )
    where
      at_one : (p : ℕ) → p ≡ 1 → IsPort p (length root_bridge.ports) × Passes root_bridge p
      at_one p one =
          rw one (((lit≤ tt), omega (arith, two_there)), passes_one)

      at_two : (p : ℕ) → p ≡ 2 → IsPort p (length root_bridge.ports) × Passes root_bridge p
      at_two p two =
          rw two (((lit≤ tt), omega (arith, two_there)), passes_two)

  -- ---- frames

  pub decides : (v : Speaker) (l : Learning) (w : Windows) (destination : ℕ) (from : Source)
      → IsDecision (risen_edge v l w) 5001 destination from (decided (risen_edge v l w) destination from)
  decides v l w destination from = record {
    members = both_ports;
    members_fit = both_fit;
    are_members = are_both;
    passing = both_ports;
    passing_fit = both_fit;
    are_passing = both_pass;
    local = refl;
    remote = refl;
  }

  -- a frame that comes at port 1
  pub sends : (v v' : Speaker) (l l' : Learning) (w w' : Windows) (destination source : ℕ)
      → LearnsIf (true && not (is_group source)) (risen_edge v l w) (record { vni = 5001; mac = source }) 1 None
      (risen_edge v' l' w')
      → DataSteps (risen_edge v l w) 1 5001 destination source
      (sending (decided (risen_edge v' l' w') destination (Port 1))) (risen_edge v' l' w')
  sends v v' l l' w w' destination source learning = record {
    learning = record { learns = true; are_learnt = learns_one; learning = learning };
    passes = true;
    are_passed = (λ h. passes_one, λ h. refl);
    sending = decides v' l' w' destination (Port 1);
    reply_is = refl;
  }
