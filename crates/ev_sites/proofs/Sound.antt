-- The fabric at the end of a run is sound.
use Rattle.std.proofs.Common.{List, [], refl}
use Rattle.route_wire.specs.Fields.{Fields}
use Rattle.ev_edge.specs.declared.config.EdgeConfig.{EdgeConfig}
use Rattle.ev_edge.specs.Edge.{Edge}
use Rattle.ev_fabric.specs.declared.step.Step.{Step}
use Rattle.ev_fabric.specs.Fabric.{fabric_of}
use Rattle.ev_fabric.specs.Opening.{AreConfigs, AreOpened}
use Rattle.ev_fabric.specs.Runs.{Runs}
use Rattle.ev_fabric.specs.Sound.{IsSound}
use Rattle.ev_fabric.proofs.Opened.{start_sound}
use Rattle.ev_fabric.proofs.Fabrics.{runs_sound}

pub run_sound : (configs : List EdgeConfig) (opened edges : List Edge) (steps : List Step) (pool : List Fields)
    → AreConfigs configs → AreOpened configs opened
    → Runs (fabric_of opened configs []) steps (fabric_of edges configs pool) → IsSound (fabric_of edges configs pool)
run_sound configs opened edges steps pool fit are runs =
    let start = fabric_of opened configs [] in
    runs_sound steps start (fabric_of edges configs pool) runs
    (start_sound configs start fit (record { configs = refl; opened = are; quiet = refl }))
