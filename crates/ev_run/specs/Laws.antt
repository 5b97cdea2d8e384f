-- The edges that a run leaves are those of a sound fabric.
use Rattle.std.specs.Prelude.{ℕ, false, List}
use Rattle.ev_edge.specs.declared.config.EdgeConfig.{EdgeConfig}
use Rattle.ev_edge.specs.Edge.{Edge}
use Rattle.ev_fabric.specs.Fabric.{fabric_of}
use Rattle.ev_fabric.specs.Opening.{AreConfigs}
use Rattle.ev_fabric.specs.Sound.{IsSound}
use Rattle.ev_report.specs.Ends.{Devices}
use Rattle.ev_sites.specs.RunningEdges.{IsRunOf}
use Rattle.ev_run.specs.LinkEnds.{LinkEnd}
use Rattle.ev_run.specs.RunEdges.{AllRan, Ran}
use Rattle.ev_report.specs.declared.status.Status.{Status}

-- if all edges ran, and no clients may query them
abbrev pub RanIsSound : Type 0
RanIsSound =
    (configs : List EdgeConfig) (sockets remotes : List (List LinkEnd)) (before after : Devices) (status : Status)
    → AreConfigs configs → (ran : Ran false configs sockets remotes before after status) → (edges : List Edge)
    → AllRan ran.ended edges → (run : IsRunOf configs edges) × IsSound (fabric_of edges configs run.pool)
