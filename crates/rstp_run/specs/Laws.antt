-- Invariants of every bridge from its start on, for all events.
use Rattle.std.specs.Prelude.{ℕ, Bool, true, false, not, ◌≡◌, ◌+◌, ◌%◌, ◌^◌, ◌&&◌, ◌||◌, List, [], ◌∷◌, All, IsTrue}
use Rattle.ether_wire.specs.Ports.{place_of_port}
use Rattle.bpdu_wire.specs.Id.{port_number}
use Rattle.rstp_state.specs.declared.port.PortState.{PortState}
use Rattle.rstp_state.specs.Port.{test_at}
use Rattle.rstp_run.specs.Rules.{Tree}
use Rattle.rstp_run.specs.BridgeDetection.{edge_guard, edge_effect, not_edge_guard, not_edge_effect}
use Rattle.rstp_run.specs.PortReceive.{discard_guard}
use Rattle.rstp_run.specs.TopologyChange.{is_in_tree}

-- a port that forwards learns, and a port that is neither Root nor Designated should do neither
abbrev pub is_orderly : PortState → Bool
is_orderly port = (not port.forwarding || port.learning) && (is_in_tree port || (not port.learn && not port.forward))

abbrev pub IsOrderly : PortState → Type 0
IsOrderly port = is_orderly port ≡ true

-- every port is orderly
abbrev pub AreOrderly : Tree → Type 0
AreOrderly s = All IsOrderly s.ports

-- The first port has this number in its identifier, and each later port the next number; a number has 12 bits there.
abbrev pub AreNumberedFrom : ℕ → List PortState → Type 0
AreNumberedFrom n [] = Unit {0}
AreNumberedFrom n (port ∷ ports) = (port_number port.identifier ≡ n % 2 ^ 12) × AreNumberedFrom (n + 1) ports

-- every port has its number in its identifier
abbrev pub AreNumbered : Tree → Type 0
AreNumbered s = AreNumberedFrom 1 s.ports

-- port p is the root port or a designated port: neither Disabled, Alternate nor Backup
abbrev pub IsInTree : Tree → ℕ → Type 0
IsInTree s p = IsTrue (test_at (place_of_port p) is_in_tree s.ports)

-- If Discard isn't enabled at a port that is down, Edge and NotEdge don't enable each other there. Discard comes before
-- them in each pass.
abbrev pub EdgeRests : Type 0
EdgeRests =
    (port : PortState) → port.enabled ≡ false → discard_guard port ≡ false
    → (not_edge_guard port ≡ true → edge_guard (not_edge_effect port) ≡ false)
    × (edge_guard port ≡ true → not_edge_guard (edge_effect port) ≡ false)
