-- Fabrics that meet the laws' premises.
use Rattle.std.specs.Prelude.{◌≤◌, List, length}
use Rattle.ev_edge.specs.declared.config.EdgeConfig.{EdgeConfig}
use Rattle.ev_fabric.specs.Fabric.{Fabric}
use Rattle.ev_fabric.specs.Opening.{AreConfigs, IsStart}
use Rattle.ev_fabric.specs.Sound.{IsSound}

-- there is a fabric as it is opened, of two edges at least, and it is sound
abbrev pub FabricOpens : Type 0
FabricOpens = (cs : List EdgeConfig) × (f : Fabric) × AreConfigs cs × IsStart cs f × (2 ≤ length f.edges) × IsSound f
