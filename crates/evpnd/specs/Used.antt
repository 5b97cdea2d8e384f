-- The uses of a configuration: a script on its edges, or a run of them.
use Rattle.std.specs.Prelude.{ℕ, false, string_bytes}
use Rattle.ev_config.specs.declared.whole.Config.{Config}
use Rattle.ev_config.specs.declared.whole.ServedConfig.{ServedConfig}
use Rattle.ev_config.specs.declared.whole.Use.TheVariants.{Any, Run, Serve}
use Rattle.ev_report.specs.Ends.{Devices}
use Rattle.evpnd.specs.Checks.{Uses}
use Rattle.evpnd.specs.Configured.{OfFound}
use Rattle.ev_script.specs.declared.script.mode.Mode.{Mode}
use Rattle.ev_script.specs.Simulation.{Simulates}
use Rattle.ev_run.specs.RunEdges.{RunsEdges}
use Rattle.ev_run.specs.Serving.{ServesEdges}
use Rattle.ev_run.specs.declared.thread_check.ThreadPolicy.{ThreadPolicy}
use Rattle.ev_report.specs.declared.status.Status.{Status}

-- a script is run on the edges of a configuration
abbrev pub SimulatesEdges : Mode → Config → Devices → Devices → Status → Type 0
SimulatesEdges mode config before after status = Simulates mode config.edges.items before after status

abbrev pub SimulatesFound : Mode → Uses Config
SimulatesFound mode = OfFound Any (SimulatesEdges mode)

-- the edges of a configuration run, and answer queries at its socket meanwhile
abbrev pub ServesConfig : ThreadPolicy → ServedConfig → Devices → Devices → Status → Type 0
ServesConfig policy served = ServesEdges policy (string_bytes served.control) served.config

abbrev pub RunsFound : ThreadPolicy → Uses Config
RunsFound policy = OfFound Run (RunsEdges false policy)

abbrev pub ServesFound : ThreadPolicy → Uses ServedConfig
ServesFound policy = OfFound Serve (ServesConfig policy)
