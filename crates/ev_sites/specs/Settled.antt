-- The bridges of edges are always settled: from the opening of an edge on, and from that of a fabric.
use Rattle.std.specs.Prelude.{◌≡◌, ℕ, ◌≤◌, Bool, true, List}
use Rattle.bpdu_wire.specs.declared.bpdu.Bpdu.{Bpdu}
use Rattle.rstp_run.specs.declared.event.Event.{Event}
use Rattle.rstp_run.specs.Events.{Happens, firings_at}
use Rattle.rstp_run.specs.Rules.{Tree}
use Rattle.rstp_run.specs.Runs.{IsSettled}
use Rattle.ev_edge.specs.declared.config.EdgeConfig.{EdgeConfig}
use Rattle.ev_edge.specs.AwayLaws.{Entered, EdgeRuns}
use Rattle.ev_edge.specs.Bridging.{BridgeGoes}
use Rattle.ev_edge.specs.Edge.{Edge}
use Rattle.ev_edge.specs.Opening.{IsOpening}
use Rattle.ev_fabric.specs.declared.step.Step.{Step}
use Rattle.ev_fabric.specs.Fabric.{Fabric, IsEdge}
use Rattle.ev_fabric.specs.Opening.{AreConfigs, IsStart}
use Rattle.ev_fabric.specs.Runs.{Runs}

-- The edge's bridge is settled, and so it is after the next event of the bridge, whatever that is. `Steps` has a
-- `BridgeGoes` for each event of the bridge.
pub record StaysSettled (e : Edge) : Type 0 where
  pub now : IsSettled e.tree
  pub happens : (event : Event) (new : Tree) (settled : Bool) (flush : ℕ)
      → Happens event (firings_at e.tree) e.tree new settled flush → settled ≡ true
  pub goes : (event : Event) (new : Tree) (flush : ℕ) (sent : List (ℕ × Bpdu))
      → (g : BridgeGoes event e.tree new flush sent) → g.settled ≡ true

-- An edge after its opening and any events with any answers, refusals too. The premise on the Hello time holds of each
-- valid configuration (`IsConfig`).
abbrev pub EdgesStaySettled : Type 0
EdgesStaySettled =
    (c : EdgeConfig) (opened e : Edge) (run : List Entered) → 1 ≤ c.tree.hello → IsOpening c opened
    → EdgeRuns opened run e → StaysSettled e

-- each edge of a fabric, after the fabric's opening and any steps; an edge that restarts is opened again
abbrev pub FabricsStaySettled : Type 0
FabricsStaySettled =
    (cs : List EdgeConfig) (old new : Fabric) (steps : List Step) → AreConfigs cs → IsStart cs old → Runs old steps new
    → (i : ℕ) (e : Edge) → IsEdge new i e → StaysSettled e
