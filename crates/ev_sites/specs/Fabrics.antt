-- The sites of a fabric's edges, and the property of them that the fabric itself provides: in every run, each edge's
-- bridge is one that came from its start by events.
use Rattle.std.specs.Prelude.{◌≡◌, ◌≢◌, ℕ, ◌<◌, ◌^◌, Some, List, [], slice_get, length}
use Rattle.rstp_run.specs.RootPort.{CanBe}
use Rattle.rstp_run.specs.Rules.{Tree}
use Rattle.rstp_run.specs.Settled.{IsReached}
use Rattle.ev_sites.specs.Network.{IsBridgeAt, IsAtRest}
use Rattle.ev_edge.specs.declared.config.EdgeConfig.{EdgeConfig}
use Rattle.ev_edge.specs.Config.{settings_of}
use Rattle.ev_edge.specs.Edge.{Edge}
use Rattle.ev_fabric.specs.declared.step.Step.{Step}
use Rattle.ev_fabric.specs.Fabric.{Fabric, IsEdge}
use Rattle.ev_fabric.specs.Opening.{AreConfigs, IsStart}
use Rattle.ev_fabric.specs.Runs.{Runs}
use Rattle.ev_sites.specs.Sites.{Site, IsSiteAt, Point, IsEdgeOf, Goes}

-- each edge's bridge is one that may come from the settings with which the edge was opened
abbrev pub BridgesCanBe : Fabric → Type 0
BridgesCanBe f =
    (i : ℕ) (c : EdgeConfig) (a : Edge) → slice_get f.configs i ≡ Some c → IsEdge f i a
    → CanBe c.tree (settings_of c.ports.items) a.tree

-- any run of a fabric after its opening
abbrev pub EveryRunCanBe : Type 0
EveryRunCanBe =
    (cs : List EdgeConfig) (old new : Fabric) (steps : List Step) → IsStart cs old → Runs old steps new
    → BridgesCanBe new

-- the site at each place is that of the fabric's edge at this place
abbrev pub AreSitesOf : Fabric → List Site → Type 0
AreSitesOf f sites = (i : ℕ) (s : Site) → IsSiteAt sites i s → (a : Edge) × IsEdge f i a × IsEdgeOf s a

-- The premises that the fabric doesn't provide: the sites' other bridges came from their start by events, and their
-- ports' numbers fit; no two bridges of a site have one identifier; and each site's network is at rest.
pub record SitesRest (sites : List Site) : Type 0 where
  pub others : (i : ℕ) (s : Site) → IsSiteAt sites i s → (b : ℕ) (t : Tree) → b ≢ s.attached → IsBridgeAt s.net b t
      → IsReached t
  pub few : (i : ℕ) (s : Site) → IsSiteAt sites i s → (b : ℕ) (t : Tree) → b ≢ s.attached → IsBridgeAt s.net b t
      → length t.ports < 2 ^ 12
  pub distinct : (i : ℕ) (s : Site) → IsSiteAt sites i s → (b d : ℕ) (t u : Tree) → IsBridgeAt s.net b t
      → IsBridgeAt s.net d u → t.settings.identifier ≡ u.settings.identifier → b ≡ d
  pub rest : (i : ℕ) (s : Site) → IsSiteAt sites i s → IsAtRest s.net

-- if the sites of a fabric's edges are at rest, after any history, no frame comes in at any port twice
abbrev pub NoCircleInAFabric : Type 0
NoCircleInAFabric =
    (cs : List EdgeConfig) (old new : Fabric) (steps : List Step) → AreConfigs cs → IsStart cs old → Runs old steps new
    → (sites : List Site) → AreSitesOf new sites → SitesRest sites
    → (x : Point) (points : List Point) → Goes sites points x x → points ≡ []
