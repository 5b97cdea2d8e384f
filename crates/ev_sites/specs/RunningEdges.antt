-- A history of running edges is a run of a fabric.
use Rattle.std.specs.Prelude.{◌≡◌, false, List, [], ◌∷◌, length}
use Rattle.route_wire.specs.Fields.{Fields}
use Rattle.ev_edge.specs.declared.config.EdgeConfig.{EdgeConfig}
use Rattle.ev_edge.specs.Edge.{Edge}
use Rattle.ev_fabric.specs.declared.step.Step.{Step}
use Rattle.ev_fabric.specs.Fabric.{fabric_of}
use Rattle.ev_fabric.specs.Opening.{AreConfigs, AreOpened}
use Rattle.ev_fabric.specs.Runs.{Runs}
use Rattle.ev_fabric.specs.Sound.{IsSound}
use Rattle.ev_book.specs.declared.log_entry.LogEntry.{LogEntry}
use Rattle.ev_book.specs.declared.log_entry.LogEntry.TheVariants.{Begins}
use Rattle.ev_book.specs.Log.{IsHistory}
use Rattle.ev_book.specs.Standing.{AllStand}

-- There are steps by which the edges that were opened with these configurations become these edges. Nothing was
-- announced before the first step.
pub record IsRunOf (configs : List EdgeConfig) (edges : List Edge) : Type 0 where
  pub opened : List Edge
  pub are_opened : AreOpened configs opened
  pub steps : List Step
  pub pool : List Fields
  pub runs : Runs (fabric_of opened configs []) steps (fabric_of edges configs pool)

-- of a history to which no updates of other processes come in
abbrev pub HistoryIsARun : Type 0
HistoryIsARun =
    (configs : List EdgeConfig) (entries : List LogEntry) (edges : List Edge)
    → IsHistory (Begins false configs ∷ entries)
    → length edges ≡ length configs → AllStand (Begins false configs ∷ entries) 0 edges → IsRunOf configs edges

-- If these configurations can be opened as a fabric, the edges are those of a sound fabric, in which the updates of the
-- run are announced. So the laws on sound fabrics hold for them.
abbrev pub RunIsSound : Type 0
RunIsSound =
    (configs : List EdgeConfig) (edges : List Edge) → AreConfigs configs → (run : IsRunOf configs edges)
    → IsSound (fabric_of edges configs run.pool)
