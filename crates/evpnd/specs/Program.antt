-- A run of the program, from its arguments to its status.
use Rattle.std.specs.Prelude.{◌≡◌, ◌≢◌, ℕ, ◌+◌, ◌⊎◌, Bool, true, false, List, [], codes, map, string_bytes, Option}
use Rattle.clap.specs.Words.{fault_of}
use Rattle.evpnd.specs.declared.program.Argv.{Argv}
use Rattle.evpnd.specs.declared.program.Argv.TheVariants.{Words, NotText, NoMemory}
use Rattle.evpnd.specs.declared.subcommand.Subcommand.{Subcommand}
use Rattle.evpnd.specs.declared.subcommand.Subcommand.TheVariants.{Report, Migrate, Check, Simulate, Play}
use Rattle.evpnd.specs.declared.subcommand.Subcommand.TheVariants.{Run, Serve, Version}
use Rattle.evpnd.specs.declared.subcommand.Aim.{Aim}
use Rattle.evpnd.specs.declared.subcommand.Aim.TheVariants as aim
use Rattle.ev_config.specs.declared.whole.Use.{Use}
use Rattle.ev_config.specs.declared.whole.Use.TheVariants as used
use Rattle.evpnd.specs.Args.{Parts, program, Spells}
use Rattle.ev_script.specs.declared.script.mode.Mode.TheVariants as mode
use Rattle.ev_report.specs.Originators.{Text}
use Rattle.ev_report.specs.Usage.{TellsUsage, OfList}
use Rattle.ev_report.specs.Ends.{Devices}
use Rattle.evpnd.specs.Files.{Shelf}
use Rattle.evpnd.specs.Checks.{Desk, desk, OfFile}
use Rattle.evpnd.specs.Scripts.{ChecksAll}
use Rattle.evpnd.specs.Version.{TellsVersion}
use Rattle.evpnd.specs.Records.{Hinted}
use Rattle.ev_report.specs.Report.{Reports}
use Rattle.ev_report.specs.Migrations.{Migrates}
use Rattle.ev_config.specs.Config.{ConfigOf, ServedOf}
use Rattle.evpnd.specs.Used.{SimulatesFound, RunsFound, ServesFound}
use Rattle.evpnd.specs.declared.streams.Stream.{Stream}
use Rattle.evpnd.specs.declared.host.Descriptors.{Descriptors}
use Rattle.ev_run.specs.declared.thread_check.ThreadPolicy.{ThreadPolicy}
use Rattle.ev_run.specs.declared.thread_check.ThreadPolicy.TheVariants.{RequireAll, RunWithout}
use Rattle.evpnd.specs.declared.check.Purpose.{Purpose}
use Rattle.evpnd.specs.Streams.{Unclosed}
use Rattle.ev_report.specs.Failures.{failures_of, TellsFailed}
use Rattle.ev_report.specs.declared.status.Status.{Status}
use Rattle.ev_report.specs.declared.status.Status.TheVariants as statuses

-- the devices and the files, and how often the parser of the arguments was refused memory
pub record World : Type 0 where
  pub refusals : ℕ
  pub desk : Desk

abbrev pub world : ℕ → Shelf → Devices → World
world refusals shelf devices = record { refusals = refusals; desk = desk shelf devices }

-- ---- usage

-- the message for an argument that isn't UTF-8
abbrev pub not_text : Text
not_text = codes "error: a word isn't UTF-8\n"

-- ---- invocations

-- the edges of a file run; with `true` they answer queries meanwhile
abbrev pub RunsFile : Bool → ThreadPolicy → Text → Desk → Desk → Status → Type 0
RunsFile false policy = OfFile (ConfigOf true) (RunsFound policy)
RunsFile true policy = OfFile ServedOf (ServesFound policy)

-- the edges run, if no standard stream was closed
abbrev pub RunsOpen : Bool → ThreadPolicy → Option Stream → Text → Desk → Desk → Status → Type 0
RunsOpen is_asked policy closed path before after status =
    Unclosed (RunsFile is_asked policy path) closed before after status

-- what a run does if the system refuses threads, by the aim of its flags
abbrev pub policy_of : Aim → ThreadPolicy
policy_of aim.Any = RequireAll
policy_of aim.Run = RequireAll
policy_of aim.Serve = RequireAll
policy_of aim.Degraded = RunWithout

-- the purpose of a configuration, by the aim of a check
abbrev pub use_of : Aim → Use
use_of aim.Any = used.Any
use_of aim.Run = used.Run
use_of aim.Serve = used.Serve
use_of aim.Degraded = used.Any

-- the subject of a check
abbrev pub purpose_of : Aim → Descriptors → Purpose
purpose_of aim descriptors = record { wanted = use_of aim; limits = descriptors.limits }

-- the effect of each subcommand with the values of its options and its flags
abbrev pub FollowsAs : Descriptors → Subcommand → Text → Option Text → Aim → Desk → Desk → Status → Type 0
FollowsAs given Report list more aim before after status = (after.shelf ≡ before.shelf)
    × Hinted (OfList Reports list) before.devices after.devices status
FollowsAs given Migrate list more aim before after status = (after.shelf ≡ before.shelf)
    × Hinted (OfList Migrates list) before.devices after.devices status
FollowsAs given Check path more aim before after status = ChecksAll (purpose_of aim given) path more before after
    status
FollowsAs given Simulate path more aim before after status = OfFile (ConfigOf false)
    (SimulatesFound mode.Simulate) path before after status
FollowsAs given Play path more aim before after status = OfFile (ConfigOf false)
    (SimulatesFound mode.Play) path before after status
FollowsAs given Run path more aim before after status = RunsOpen false (policy_of aim) given.closed path before after
    status
FollowsAs given Serve path more aim before after status = RunsOpen true (policy_of aim) given.closed path before after
    status
FollowsAs given Version nothing more aim before after status = (after.shelf ≡ before.shelf)
    × TellsVersion before.devices after.devices status

abbrev pub Follows : Descriptors → Parts → Desk → Desk → Status → Type 0
Follows given invocation before after status = FollowsAs given invocation.0 invocation.1 invocation.2 invocation.3
    before after status

-- An invocation is executed, and then failed reading or writing is reported.
pub record FollowsTelling (given : Descriptors) (invocation : Parts) (before after : Desk) (status : Status) :
    Type 0 where
  pub mid : Desk
  pub follows : Follows given invocation before mid status
  pub shelf_kept : after.shelf ≡ mid.shelf
  pub told : TellsFailed (failures_of before.devices) mid.devices after.devices

-- ---- arguments

-- memory was refused once more, for the parser or for its message; no device was called
pub record IsOutOfMemory (before after : World) (status : Status) : Type 0 where
  pub refused : after.refusals ≡ before.refusals + 1
  pub desk_kept : after.desk ≡ before.desk
  pub status_is : status ≡ statuses.Memory

-- the arguments have a fault, which is reported
pub record IsRefused (words : List Text) (before after : World) (status : Status) : Type 0 where
  pub faulty : fault_of program words ≢ []
  pub refusals_kept : after.refusals ≡ before.refusals
  pub shelf_kept : after.desk.shelf ≡ before.desk.shelf
  pub text : Text
  pub told : TellsUsage text before.desk.devices after.desk.devices status

-- the arguments are an invocation, and it is executed
pub record IsFollowed (given : Descriptors) (words : List Text) (before after : World) (status : Status) : Type 0 where
  pub invocation : Parts
  pub spells : Spells words invocation
  pub refusals_kept : after.refusals ≡ before.refusals
  pub follows : FollowsTelling given invocation before.desk after.desk status

abbrev pub RunsWords : Descriptors → List Text → World → World → Status → Type 0
RunsWords given words before after status =
    IsOutOfMemory before after status ⊎ (IsRefused words before after status
    ⊎ IsFollowed given words before after status)

-- A run, given the system's arguments and its limit of descriptors.
abbrev pub RunsProgram : Descriptors → Argv → World → World → Status → Type 0
RunsProgram given NoMemory before after status = (after ≡ before) × (status ≡ statuses.Memory)
RunsProgram given NotText before after status =
    (after.refusals ≡ before.refusals) × (after.desk.shelf ≡ before.desk.shelf)
    × TellsUsage not_text before.desk.devices after.desk.devices status
RunsProgram given (Words words) before after status = RunsWords given (map string_bytes words.items) before after status
