-- A ring of three bridges at rest, with one blocked port: it meets the laws' premises, and without the blocked port it
-- would be a circle.
use Rattle.std.proofs.Common.{◌≡◌, ℕ, zero, suc, ◌+◌, ◌-◌, Bool, true, false, ◌&&◌, List, [], ◌∷◌}
use Rattle.std.proofs.Common.{length, Some, slice_get, ◌⊎◌, inl, inr, refl, sym, ap, ◌∙◌, arith}
use Rattle.std.proofs.lemmas.Bool.{false≢true}
use Rattle.bpdu_wire.specs.declared.bpdu.Bpdu.{Bpdu}
use Rattle.bpdu_wire.specs.declared.bpdu.Bpdu.TheVariants.{Rst}
use Rattle.rstp_state.specs.declared.port.PortState.{PortState}
use Rattle.rstp_state.specs.declared.start.PortSettings.{PortSettings}
use Rattle.rstp_state.specs.declared.start.Settings.{Settings}
use Rattle.rstp_state.specs.Selection.{selected_ports, selected_root, best_path}
use Rattle.rstp_state.specs.Start.{start_port}
use Rattle.rstp_state.specs.Port.{is_designated, is_root, test_at}
use Rattle.rstp_state.specs.Vector.{is_less}
use Rattle.rstp_run.specs.declared.event.Event.TheVariants as events
use Rattle.rstp_run.specs.declared.rule.Rule.{Rule}
use Rattle.rstp_run.specs.declared.rule.TheConstants.{MAIN, SENDS}
use Rattle.rstp_run.specs.Events.{start, RunsHappen}
use Rattle.rstp_run.specs.Rules.{Tree}
use Rattle.rstp_run.specs.Runs.{IsSettled, AreOff, AreOffAt}
use Rattle.rstp_run.specs.Settled.{IsReached, SettledByLists}
use Rattle.ev_sites.specs.Network.{Spot, IsBridgeAt, IsPortAt, IsNetwork, HasTimesOf, IsTold, IsAtRest}
use Rattle.ev_sites.specs.Network.{CanBeAtRest, RingCanBeAtRest}
use Rattle.ev_sites.proofs.Round.{spot, segment_of, ring_of, IsOpen, passes_frames, passes_at, closed_at}
use Rattle.ev_sites.proofs.Round.{over_second, round}
use Rattle.ev_sites.proofs.Histories.{Happening, come_to, AllHappen, can_be, coming_up, hearing, blocking}

-- ---- the conditions on the three bridges

-- Each bridge has two ports. The first bridge is the root. Its ports lead to the first ports of the two other bridges,
-- which are their root ports. The segment between these two bridges joins their second ports: the second bridge's is
-- designated, and the third's passes no frame.
pub record IsRing (a b c : Tree) (a0 a1 b0 b1 c0 c1 : PortState) : Type 0 where
  pub a_reached : IsReached a
  pub b_reached : IsReached b
  pub c_reached : IsReached c
  pub a_settled : IsSettled a
  pub b_settled : IsSettled b
  pub c_settled : IsSettled c
  pub a_ports : a.ports ≡ a0 ∷ a1 ∷ []
  pub b_ports : b.ports ≡ b0 ∷ b1 ∷ []
  pub c_ports : c.ports ≡ c0 ∷ c1 ∷ []
  pub a_not_b : a.settings.identifier ≡ b.settings.identifier → ⊥
  pub b_not_c : b.settings.identifier ≡ c.settings.identifier → ⊥
  pub c_not_a : c.settings.identifier ≡ a.settings.identifier → ⊥
  pub a0_heard : is_less a0.designated_priority a0.port_priority ≡ false
  pub a1_heard : is_less a1.designated_priority a1.port_priority ≡ false
  pub b1_heard : is_less b1.designated_priority b1.port_priority ≡ false
  pub a0_designated : is_designated a0.role ≡ true
  pub a1_designated : is_designated a1.role ≡ true
  pub b0_designated : is_designated b0.role ≡ false
  pub c0_designated : is_designated c0.role ≡ false
  pub c1_designated : is_designated c1.role ≡ false
  pub a0_root : is_root a0.role ≡ false
  pub a1_root : is_root a1.role ≡ false
  pub b1_root : is_root b1.role ≡ false
  pub c1_root : is_root c1.role ≡ false
  pub b0_times : HasTimesOf a0 b0
  pub c0_times : HasTimesOf a1 c0
  pub a0_passes : a0.enabled && a0.forwarding ≡ true
  pub a1_passes : a1.enabled && a1.forwarding ≡ true
  pub b0_passes : b0.enabled && b0.forwarding ≡ true
  pub b1_passes : b1.enabled && b1.forwarding ≡ true
  pub c0_passes : c0.enabled && c0.forwarding ≡ true
  pub c1_passes : c1.enabled && c1.forwarding ≡ false

-- the spot has this bridge and place, and its port is the known one
record IsSpot (b p : ℕ) (known : PortState) (x : Spot) (port : PortState) : Type 0 where
  pub bridge : x.bridge ≡ b
  pub place : x.place ≡ p
  pub same : known ≡ port

on_segment : {b p : ℕ} {known : PortState} {x : Spot} {port : PortState} → IsSpot b p known x port
    → segment_of x.bridge x.place ≡ segment_of b p
on_segment h = rw (h.bridge, h.place)

in_two : (x y : PortState) (p : ℕ) (port : PortState) → slice_get (x ∷ y ∷ []) p ≡ Some port
    → ((p ≡ 0) × (x ≡ port)) ⊎ ((p ≡ 1) × (y ≡ port))
in_two x y zero port at = inl (refl, cc)
in_two x y (suc zero) port at = inr (refl, cc)
in_two x y (suc (suc p)) port at = absurd (cc)

module _ (a b c : Tree) (a0 a1 b0 b1 c0 c1 : PortState) (is : IsRing a b c a0 a1 b0 b1 c0 c1) where
  which : (n : ℕ) (s : Tree) → IsBridgeAt (ring_of a b c) n s
      → ((n ≡ 0) × (a ≡ s)) ⊎ (((n ≡ 1) × (b ≡ s)) ⊎ ((n ≡ 2) × (c ≡ s)))
  which zero s at = inl (refl, cc)
  which (suc zero) s at = inr (inl (refl, cc))
  which (suc (suc zero)) s at = inr (inr (refl, cc))
  which (suc (suc (suc n))) s at = absurd (cc)

  of_bridge : (n : ℕ) (t : Tree) (x y : PortState) (z : Spot) (s : Tree) (port : PortState) → t.ports ≡ x ∷ y ∷ []
      → z.bridge ≡ n → t ≡ s
      → IsPortAt (ring_of a b c) z s port → IsSpot n 0 x z port ⊎ IsSpot n 1 y z port
  of_bridge n t x y z s port ports here same at =
      elim (in_two x y z.place port ((rw ports)
      ∙ ap (λ (u : Tree). slice_get u.ports z.place) same ∙ at.in_bridge)) [
        | inl k ↦ inl (record { bridge = here; place = k.0; same = k.1 })
        | inr k ↦ inr (record { bridge = here; place = k.0; same = k.1 })
      ]

  -- a designated port is one of three ports
  AreDesignated : Spot → PortState → Type 0
  AreDesignated x port = IsSpot 0 0 a0 x port ⊎ (IsSpot 0 1 a1 x port ⊎ IsSpot 1 1 b1 x port)

  not_designated : (known port : PortState) → is_designated known.role ≡ false → known ≡ port
      → is_designated port.role ≡ true → ⊥
  not_designated known port off same on =
      absurd (false≢true (sym off ∙ ap (λ (p : PortState). is_designated p.role) same ∙ on))

  of_designated : (x : Spot) (s : Tree) (port : PortState) → IsPortAt (ring_of a b c) x s port
      → is_designated port.role ≡ true → AreDesignated x port
  unfolding AreDesignated
  of_designated x s port at on = elim (which x.bridge s at.in_net) [
    | inl h ↦ elim (of_bridge 0 a a0 a1 x s port is.a_ports h.0 h.1 at) [
      | inl k ↦ inl k
      | inr k ↦ inr (inl k)
    ]
    | inr (inl h) ↦ elim (of_bridge 1 b b0 b1 x s port is.b_ports h.0 h.1 at) [
      | inl k ↦ absurd (not_designated b0 port is.b0_designated k.same on)
      | inr k ↦ inr (inr k)
    ]
    | inr (inr h) ↦ elim (of_bridge 2 c c0 c1 x s port is.c_ports h.0 h.1 at) [
      | inl k ↦ absurd (not_designated c0 port is.c0_designated k.same on)
      | inr k ↦ absurd (not_designated c1 port is.c1_designated k.same on)
    ]
  ]

  apart : (m n : ℕ) (x y : Spot) → segment_of x.bridge x.place ≡ m → segment_of y.bridge y.place ≡ n
      → segment_of x.bridge x.place ≡ segment_of y.bridge y.place → (m ≡ n → ⊥) → ⊥
  apart m n x y at_x at_y same differ = differ (sym at_x ∙ same ∙ at_y)

  -- if both ports are the known one: its own vector is no better than the vector that it has
  both_at : (known p d : PortState) → known ≡ p → known ≡ d
      → is_less known.designated_priority known.port_priority ≡ false
      → is_less d.designated_priority p.port_priority ≡ false
  both_at known p d e f h = sym (ap (λ (v : PortState). is_less v.designated_priority known.port_priority) f
      ∙ ap (λ (v : PortState). is_less d.designated_priority v.port_priority) e) ∙ h

  hears : (x y : Spot) (p d : PortState) → AreDesignated x p → AreDesignated y d
      → segment_of x.bridge x.place ≡ segment_of y.bridge y.place
      → is_less d.designated_priority p.port_priority ≡ false
  unfolding AreDesignated
  hears x y p d (inl h) (inl k) same = both_at a0 p d h.same k.same is.a0_heard
  hears x y p d (inl h) (inr (inl k)) same = absurd (apart 0 1 x y (on_segment h) (on_segment k)
      same (λ e. omega arith))
  hears x y p d (inl h) (inr (inr k)) same = absurd (apart 0 2 x y (on_segment h) (on_segment k)
      same (λ e. omega arith))
  hears x y p d (inr (inl h)) (inl k) same = absurd (apart 1 0 x y (on_segment h) (on_segment k)
      same (λ e. omega arith))
  hears x y p d (inr (inl h)) (inr (inl k)) same = both_at a1 p d h.same k.same is.a1_heard
  hears x y p d (inr (inl h)) (inr (inr k)) same = absurd
      (apart 1 2 x y (on_segment h) (on_segment k) same (λ e. omega arith))
  hears x y p d (inr (inr h)) (inl k) same = absurd (apart 2 0 x y (on_segment h) (on_segment k)
      same (λ e. omega arith))
  hears x y p d (inr (inr h)) (inr (inl k)) same = absurd
      (apart 2 1 x y (on_segment h) (on_segment k) same (λ e. omega arith))
  hears x y p d (inr (inr h)) (inr (inr k)) same = both_at b1 p d h.same k.same is.b1_heard

  not_root : {A : Type 0} (known port : PortState) → is_root known.role ≡ false → known ≡ port
      → is_root port.role ≡ true → A
  not_root known port off same on =
      absurd (false≢true (sym off ∙ ap (λ (p : PortState). is_root p.role) same ∙ on))

  -- the known root port, at the first place of the bridge at place n, has the times of the root bridge's port at place
  -- p
  told_by : (n p : ℕ) (teller known : PortState) (x : Spot) (port : PortState) → IsSpot n 0 known x port
      → slice_get a.ports p ≡ Some teller
      → segment_of 0 p ≡ segment_of n 0 → is_designated teller.role ≡ true → HasTimesOf teller known
      → IsTold (ring_of a b c) x port
  told_by n p teller known x port at there joined on times = record {
    by = spot 0 p;
    bridge = a;
    port = teller;
    at = record { in_net = refl; in_bridge = there };
    settled = is.a_settled;
    segment = joined ∙ sym (on_segment at);
    designated = on;
    times = sym (ap (λ (v : PortState). v.port_times) at.same) ∙ times;
  }

  tells : (x : Spot) (s : Tree) (p : PortState) → IsPortAt (ring_of a b c) x s p → is_root p.role ≡ true
      → IsTold (ring_of a b c) x p
  tells x s p at on = elim (which x.bridge s at.in_net) [
    | inl h ↦ elim (of_bridge 0 a a0 a1 x s p is.a_ports h.0 h.1 at) [
      | inl k ↦ not_root a0 p is.a0_root k.same on
      | inr k ↦ not_root a1 p is.a1_root k.same on
    ]
    | inr (inl h) ↦ elim (of_bridge 1 b b0 b1 x s p is.b_ports h.0 h.1 at) [
      | inl k ↦ told_by 1 0 a0 b0 x p k (rw is.a_ports) refl is.a0_designated is.b0_times
      | inr k ↦ not_root b1 p is.b1_root k.same on
    ]
    | inr (inr h) ↦ elim (of_bridge 2 c c0 c1 x s p is.c_ports h.0 h.1 at) [
      | inl k ↦ told_by 2 1 a1 c0 x p k (rw is.a_ports) refl is.a1_designated is.c0_times
      | inr k ↦ not_root c1 p is.c1_root k.same on
    ]
  ]

  -- ---- the network

  of_each : (P : Tree → Type 0) → P a → P b → P c → (n : ℕ) (s : Tree) → IsBridgeAt (ring_of a b c) n s → P s
  of_each P of_a of_b of_c n s at = elim (which n s at) [
    | inl h ↦ rw h.1 at of_a
    | inr (inl h) ↦ rw h.1 at of_b
    | inr (inr h) ↦ rw h.1 at of_c
  ]

  abbrev id_of : Tree → ℕ
  id_of t = t.settings.identifier

  has_two : (t : Tree) (x y : PortState) → t.ports ≡ x ∷ y ∷ [] → length t.ports ≡ 2
  has_two t x y h = rw h

  pub network : IsNetwork (ring_of a b c)
  network = record {
    reached = of_each IsReached is.a_reached is.b_reached is.c_reached;
    few = λ n s at. (
        omega (
          arith,
          of_each (λ t. length t.ports ≡ 2) (has_two a a0 a1 is.a_ports) (has_two b b0 b1 is.b_ports)
              (has_two c c0 c1 is.c_ports) n s at,
        ));
    distinct = λ n m s t at_n at_m same. elim (which n s at_n) [
      | inl h ↦ elim (which m t at_m) [
        | inl k ↦ h.0 ∙ sym k.0
        | inr (inl k) ↦ absurd (is.a_not_b ((rw h.1) ∙ same ∙ rw k.1))
        | inr (inr k) ↦ absurd (is.c_not_a ((rw k.1) ∙ sym same ∙ rw h.1))
      ]
      | inr (inl h) ↦ elim (which m t at_m) [
        | inl k ↦ absurd (is.a_not_b ((rw k.1) ∙ sym same ∙ rw h.1))
        | inr (inl k) ↦ h.0 ∙ sym k.0
        | inr (inr k) ↦ absurd (is.b_not_c ((rw h.1) ∙ same ∙ rw k.1))
      ]
      | inr (inr h) ↦ elim (which m t at_m) [
        | inl k ↦ absurd (is.c_not_a ((rw h.1) ∙ same ∙ rw k.1))
        | inr (inl k) ↦ absurd (is.b_not_c ((rw k.1) ∙ sym same ∙ rw h.1))
        | inr (inr k) ↦ h.0 ∙ sym k.0
      ]
    ];
  }

  pub at_rest : IsAtRest (ring_of a b c)
  at_rest = record {
    settled = of_each IsSettled is.a_settled is.b_settled is.c_settled;
    quiet = λ segment. record {
      heard = λ x y s t p d at_x at_y on_x on_y settled_s settled_t dp dd. hears x y p d (of_designated x s p at_x dp)
          (of_designated y t d at_y dd) (on_x ∙ sym on_y);
      told = λ x s p at on settled rp. tells x s p at rp;
    };
  }

  -- ---- the way round

  opens_at : (p : ℕ) (s : Tree) (x y : PortState) → s.ports ≡ x ∷ y ∷ [] → (passes : Bool)
      → test_at (p + 1 - 1) passes_frames (x ∷ y ∷ []) ≡ passes → test_at (p + 1 - 1) passes_frames s.ports ≡ passes
  opens_at p s x y same passes h = (rw same) ∙ h

  pub passing : IsOpen a b c
  passing = record {
    a0 = passes_at (ring_of a b c) 0 0 a refl is.a_settled (opens_at 0 a a0 a1 is.a_ports true is.a0_passes);
    a1 = passes_at (ring_of a b c) 0 1 a refl is.a_settled (opens_at 1 a a0 a1 is.a_ports true is.a1_passes);
    b0 = passes_at (ring_of a b c) 1 0 b refl is.b_settled (opens_at 0 b b0 b1 is.b_ports true is.b0_passes);
    b1 = passes_at (ring_of a b c) 1 1 b refl is.b_settled (opens_at 1 b b0 b1 is.b_ports true is.b1_passes);
    c0 = passes_at (ring_of a b c) 2 0 c refl is.c_settled (opens_at 0 c c0 c1 is.c_ports true is.c0_passes);
    c1 = closed_at (ring_of a b c) 2 1 refl (opens_at 1 c c0 c1 is.c_ports false is.c1_passes);
  }

  pub ring_rests : RingCanBeAtRest
  ring_rests = (ring_of a b c, network, at_rest, round a b c passing)

  pub some_rests : CanBeAtRest
  some_rests = (ring_of a b c, spot 1 1, spot 0 0, network, at_rest, over_second a b c passing)

-- ---- three bridges that meet the conditions

abbrev pub settings_of : ℕ → Settings
settings_of id = record { identifier = id; hello = 2; max_age = 20; forward_delay = 15; hold = 6 }

abbrev edge_port : PortSettings
edge_port = record { priority = 128; cost = 20000; admin_edge = true; auto_edge = false; point_to_point = true }

abbrev pub two_ports : List PortSettings
two_ports = edge_port ∷ edge_port ∷ []

-- the message of a designated port
abbrev pub proposal : ℕ → ℕ → ℕ → ℕ → Bpdu
proposal cost bridge port age =
    Rst (record {
      flags = 60;
      root = 1152924433774542849;
      cost = cost;
      bridge = bridge;
      port = port;
      message_age = age;
      max_age = 5120;
      hello = 512;
      forward_delay = 3840;
    })

abbrev up : ℕ → Happening
up p = record { event = events.PortUp (suc p); firings = coming_up p }

abbrev hears_root : ℕ → Happening
hears_root port = record { event = events.Bpdu 1 (proposal 0 1152924433774542849 port 0); firings = hearing }

-- the events of each bridge, the newest first
abbrev pub root_history : List Happening
root_history = up 1 ∷ up 0 ∷ []

abbrev second_history : List Happening
second_history = up 1 ∷ hears_root 32769 ∷ up 0 ∷ []

abbrev third_history : List Happening
third_history = record { event = events.Bpdu 2 (proposal 20000 9223374966022471682 32770 256); firings = blocking }
    ∷ up 1 ∷ hears_root 32770 ∷ up 0 ∷ []

abbrev bridge_of : ℕ → List Happening → Tree
bridge_of id history = come_to history (start (settings_of id) two_ports)

abbrev pub root_bridge : Tree
root_bridge = bridge_of 1152924433774542849 root_history

abbrev pub second_bridge : Tree
second_bridge = bridge_of 9223374966022471682 second_history

abbrev pub third_bridge : Tree
third_bridge = bridge_of 9223374966022471683 third_history

pub root_happens : AllHappen root_history (start (settings_of 1152924433774542849) two_ports)
unfolding selected_ports selected_root best_path
root_happens = ((tt, refl), refl)

second_happens : AllHappen second_history (start (settings_of 9223374966022471682) two_ports)
unfolding selected_ports selected_root best_path
second_happens = (((tt, refl), refl), refl)

third_happens : AllHappen third_history (start (settings_of 9223374966022471683) two_ports)
unfolding selected_ports selected_root best_path
third_happens = ((((tt, refl), refl), refl), refl)

pub off_at_two : (s : Tree) (rules : List Rule) → AreOffAt rules 0 s → AreOffAt rules 1 s → length s.ports ≡ 2
    → AreOff rules s
off_at_two s rules h k two zero within = h
off_at_two s rules h k two (suc zero) within = k
off_at_two s rules h k two (suc (suc p)) within = absurd (omega arith)

pub root_settled : SettledByLists → IsSettled root_bridge
unfolding selected_ports selected_root best_path
root_settled law = law root_bridge (off_at_two root_bridge MAIN refl refl refl)
    (off_at_two root_bridge SENDS refl refl refl)

second_settled : SettledByLists → IsSettled second_bridge
unfolding selected_ports selected_root best_path
second_settled law = law second_bridge (off_at_two second_bridge MAIN refl refl refl)
    (off_at_two second_bridge SENDS refl refl refl)

third_settled : SettledByLists → IsSettled third_bridge
unfolding selected_ports selected_root best_path
third_settled law = law third_bridge (off_at_two third_bridge MAIN refl refl refl)
    (off_at_two third_bridge SENDS refl refl refl)

reached : RunsHappen → (id : ℕ) (history : List Happening)
    → AllHappen history (start (settings_of id) two_ports) → IsReached (bridge_of id history)
reached law id history e = (settings_of id, two_ports, can_be law (settings_of id) two_ports history e)

abbrev pub port_at : List PortState → ℕ → PortState
port_at [] p = start_port (settings_of 0) edge_port 1
port_at (x ∷ xs) zero = x
port_at (x ∷ xs) (suc p) = port_at xs p

abbrev pub AreRing : Type 0
AreRing =
    IsRing root_bridge second_bridge third_bridge (port_at root_bridge.ports 0) (port_at root_bridge.ports 1)
    (port_at second_bridge.ports 0)
    (port_at second_bridge.ports 1) (port_at third_bridge.ports 0) (port_at third_bridge.ports 1)

pub a_ring : SettledByLists → RunsHappen → AreRing
unfolding selected_ports selected_root best_path
a_ring lists happens = record {
  a_reached = reached happens 1152924433774542849 root_history root_happens;
  b_reached = reached happens 9223374966022471682 second_history second_happens;
  c_reached = reached happens 9223374966022471683 third_history third_happens;
  a_settled = root_settled lists;
  b_settled = second_settled lists;
  c_settled = third_settled lists;
  a_ports = refl;
  b_ports = refl;
  c_ports = refl;
  a_not_b = λ e. omega arith;
  b_not_c = λ e. omega arith;
  c_not_a = λ e. omega arith;
  a0_heard = refl;
  a1_heard = refl;
  b1_heard = refl;
  a0_designated = refl;
  a1_designated = refl;
  b0_designated = refl;
  c0_designated = refl;
  c1_designated = refl;
  a0_root = refl;
  a1_root = refl;
  b1_root = refl;
  c1_root = refl;
  b0_times = refl;
  c0_times = refl;
  a0_passes = refl;
  a1_passes = refl;
  b0_passes = refl;
  b1_passes = refl;
  c0_passes = refl;
  c1_passes = refl;
}
