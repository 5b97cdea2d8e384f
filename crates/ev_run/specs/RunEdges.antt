-- The results of a run of edges over sockets.
use Rattle.std.specs.Prelude.{◌≡◌, ℕ, ◌-◌, ◌^◌, min, ◌⊎◌, ◌||◌, Bool, true, false, not, ◌==◌, nat_lt}
use Rattle.std.specs.Prelude.{if◌then◌else◌, List, [], ◌∷◌, ◌++◌, length, codes, Option, Some, None}
use Rattle.std.specs.Prelude.{Result, Ok, Err}
use Rattle.std.specs.Fmt.{decimal}
use Rattle.std.specs.Bool.{OnFalse}
use Rattle.std.specs.List.{sum_by, list_any}
use Rattle.std.specs.declared.alloc.AllocError.{AllocError}
use Rattle.ether_wire.specs.Ends.{End, Source, with_text}
use Rattle.ether_wire.specs.Addr.{addr_text}
use Rattle.ev_edge.specs.Edge.{Edge, table_of}
use Rattle.ev_edge.specs.declared.config.EdgeConfig.{EdgeConfig}
use Rattle.ev_peers.specs.EdgeThreads.{EdgeSetup, AreRanFrom}
use Rattle.ev_peers.specs.History.{configs_of, IsHistoryOf}
use Rattle.ev_sites.specs.RunningEdges.{IsRunOf}
use Rattle.ev_peers.specs.declared.edge_outcome.EdgeOutcome.{EdgeOutcome}
use Rattle.ev_links.specs.DeviceName.{text_of}
use Rattle.ev_links.specs.declared.device_name.DeviceName.{DeviceName}
use Rattle.ev_links.specs.declared.wire_out.WireOut.{WireOut}
use Rattle.ev_mailboxes.specs.Notices.{Told, lines_of}
use Rattle.route_join.specs.Report.{report_of}
use Rattle.ev_config.specs.declared.whole.Config.{Config}
use Rattle.ev_config.specs.declared.endpoint.Endpoint.{Endpoint}
use Rattle.ev_run.specs.LinkEnds.{LinkEnd}
use Rattle.ev_run.specs.Sockets.{endpoints_of, all_ends, all_remotes, lacks_address, Hinders}
use Rattle.ev_run.specs.Links.{AreSetupsOf}
use Rattle.ev_run.specs.SystemDrops.{dropped_at_end}
use Rattle.ev_run.specs.Needs.{threads_of}
use Rattle.ev_run.specs.ThreadCheck.{IsTooFew, too_few_text, LacksThreads}
use Rattle.ev_run.specs.declared.thread_check.ThreadPolicy.{ThreadPolicy}
use Rattle.ev_run.specs.declared.thread_check.ThreadPolicy.TheVariants.{RunWithout}
use Rattle.ev_run.specs.declared.thread_check.TooFewThreads.{TooFewThreads}
use Rattle.ev_run.specs.declared.print.Dropped.{Dropped}
use Rattle.ev_run.specs.declared.print.Dropped.TheVariants.{NoRoom, BySystem}
use Rattle.ev_run.specs.declared.sockets.BindError.{BindError}
use Rattle.ev_run.specs.declared.sockets.BindError.TheVariants as bind_error
use Rattle.ev_run.specs.declared.taps.AttachError.{AttachError}
use Rattle.ev_run.specs.declared.taps.AttachError.TheVariants as attach_error
use Rattle.ev_run.specs.declared.sockets.StartError.{StartError}
use Rattle.ev_run.specs.declared.sockets.StartError.TheVariants.{Unbindable, Unattached, Unnamed, NoMemory}
use Rattle.ev_report.specs.declared.input.ReadError.TheVariants.{Device}
use Rattle.ev_report.specs.Ends.{Devices, devices, has_failed, Holds}
use Rattle.ev_report.specs.Input.{ReadsWhole}
use Rattle.ev_report.specs.Notes.{status_of}
use Rattle.ev_report.specs.Silence.{IsRefusedMemory}
use Rattle.ev_report.specs.Originators.{Text}
use Rattle.ev_view.specs.EdgeViews.{each_from}
use Rattle.ev_report.specs.declared.status.Status.{Status}
use Rattle.ev_report.specs.declared.status.Status.TheVariants as statuses

-- ---- sockets

abbrev pub why_text : BindError → Text
why_text bind_error.InUse = codes "it is in use\n"
why_text bind_error.NotHere = codes "no device here has it\n"
why_text bind_error.Denied = codes "it isn't permitted\n"
why_text bind_error.NoMemory = codes "there is no memory\n"
why_text bind_error.NoDescriptor = codes "too many files are open; raise ulimit -n\n"
why_text bind_error.Other = codes "the system refuses it\n"

-- `ADDRESS:PORT`
abbrev pub endpoint_text : Endpoint → Text
endpoint_text at = addr_text at.address ++ codes ":" ++ decimal at.port

-- `can't bind ADDRESS:PORT: WHY`
abbrev pub bind_error_text : Endpoint → BindError → Text
bind_error_text at why = codes "can't bind " ++ (endpoint_text at ++ codes ": ") ++ why_text why

abbrev pub attach_text : AttachError → Text
attach_text attach_error.Missing = codes ": evpnd has no descriptor of it; start evpnd by evpnd-attach\n"
attach_text attach_error.NoDescriptor = codes ": too many files are open; raise ulimit -n\n"
attach_text attach_error.Unreported = codes ": evpnd can't read /proc/self/fdinfo\n"

-- `can't use device NAME: WHY`
abbrev pub no_device_text : DeviceName → AttachError → Text
no_device_text name why = codes "can't use device " ++ text_of name ++ attach_text why

-- ---- the input

-- the input was read up to its end
pub record IsReadOut (old new : Source) : Type 0 where
  pub input : List ℕ
  pub read : ReadsWhole old new (Ok input)

-- `true`: the input was read up to its end. `false`: a read failed, or 2^40 reads didn't reach the end.
abbrev pub ReadsOut : Source → Source → Bool → Type 0
ReadsOut old new true = IsReadOut old new
ReadsOut old new false = ReadsWhole old new (Err Device)

-- ---- the texts of a run

-- the outcome of an edge, or that the memory with which it begins was refused
abbrev pub Ended : Type 0
Ended = Result EdgeOutcome AllocError

-- `edge N`, and then the report of the edge's table
abbrev pub edge_text : ℕ → Edge → Text
edge_text number edge = (codes "edge " ++ decimal number ++ codes "\n") ++ report_of (table_of edge)

-- no text for an edge that didn't run
abbrev pub ended_text : ℕ → Ended → Text
ended_text number (Ok outcome) = edge_text number outcome.edge
ended_text number (Err refused) = []

-- the texts of all edges; the first edge has this number
abbrev pub reports_from : ℕ → List Ended → Text
reports_from = each_from ended_text

-- the link of a line: the tunnel's, or that of the port with this number
abbrev pub link_text : ℕ → Text
link_text place = if place == 0 then codes "tunnel" else codes "port " ++ decimal place

-- the kind of a drop: frames for which a line had no room, or datagrams for which the system had no room at a socket
abbrev pub dropped_words : Dropped → Text
dropped_words NoRoom = codes " frames dropped: no room\n"
dropped_words BySystem = codes " datagrams dropped by the system\n"

-- `edge E port P: N` and the kind of the drop, if there are any
abbrev pub dropped_text : Dropped → ℕ → ℕ → ℕ → Text
dropped_text what number place dropped =
    if nat_lt 0 dropped then (codes "edge " ++ decimal number ++ codes " ") ++ link_text place
    ++ (codes ": " ++ decimal dropped ++ dropped_words what)
    else []

-- the drops of each line of an edge that ran
abbrev pub drops_text : ℕ → Ended → Text
drops_text number (Ok outcome) = each_from (dropped_text NoRoom number) 0 outcome.dropped.items
drops_text number (Err refused) = []

-- how many datagrams the system dropped at a link's socket, as its table of sockets reports it
abbrev pub socket_text : Text → ℕ → ℕ → LinkEnd → Text
socket_text table number place end = dropped_text BySystem number place (dropped_at_end table end)

-- the drops at each link of an edge
abbrev pub sockets_text : Text → ℕ → List LinkEnd → Text
sockets_text table number ends = each_from (socket_text table number) 0 ends

-- the drops at the links of all edges
abbrev pub system_text : Text → List (List LinkEnd) → Text
system_text table sockets = each_from (sockets_text table) 1 sockets

-- `lost N`, if sends failed
abbrev pub lost_text : ℕ → Text
lost_text lost = if nat_lt 0 lost then codes "lost " ++ decimal lost ++ codes "\n" else []

-- how many sends of an edge's workers failed
abbrev pub sends_failed : Ended → ℕ
sends_failed (Ok outcome) = outcome.faults.lost
sends_failed (Err refused) = 0

-- a link of an edge's workers failed
abbrev pub link_failed : Ended → Bool
link_failed (Ok outcome) = outcome.faults.device
link_failed (Err refused) = false

-- an edge, or one of its workers, was refused memory or a thread
abbrev pub was_out_of_memory : Ended → Bool
was_out_of_memory (Ok outcome) = outcome.faults.memory
was_out_of_memory (Err refused) = true

-- how many sends failed, up to 2^64 - 1
abbrev pub all_lost : List Ended → ℕ
all_lost ended = min (sum_by sends_failed ended) (2 ^ 64 - 1)

-- the notes of the end: the links that had no room for frames, the drops that the system reports at their sockets, and
-- `lost N`
abbrev pub noted_text : List Ended → Text → ℕ → Text
noted_text ended system lost = each_from drops_text 1 ended ++ system ++ lost_text lost

-- The reports of the edges that ran are written. The notes are the alerts of the run, then the frames for which lines
-- had no room, the drops that the system reports at the sockets, and `lost N` if sends failed. The status is 4 if a
-- device failed, 3 if memory or a thread was refused, else 0.
pub record TellsEnded (alerts : List Told) (ended : List Ended) (system : Text) (is_read : Bool)
    (out out' notes notes' : End) (status : Status) : Type 0 where
  pub written : Holds out out' (reports_from 1 ended)
  pub noted : Holds notes notes' (lines_of alerts ++ noted_text ended system (all_lost ended))
  pub status_is : status ≡ status_of (((not is_read || list_any link_failed ended) || nat_lt 0 (all_lost ended)) ||
      (has_failed out out' || has_failed notes notes')) (list_any was_out_of_memory ended) false

-- ---- a run

-- all edges ran, and these are their states at the end
abbrev pub AllRan : List Ended → List Edge → Type 0
AllRan [] [] = Unit {0}
AllRan [] (edge ∷ edges) = ⊥
AllRan (ran ∷ rans) [] = ⊥
AllRan (Ok outcome ∷ rans) (edge ∷ edges) = (edge ≡ outcome.edge) × AllRan rans edges
AllRan (Err refused ∷ rans) (edge ∷ edges) = ⊥

-- If all edges ran, their states are those of a fabric at the end of a run, which begins with the edges as they were
-- opened and with nothing announced. So each delivery is of an update that was announced before.
abbrev pub RunsAsFabric : List EdgeConfig → List Ended → Type 0
RunsAsFabric configs ended = (edges : List Edge) → AllRan ended edges → IsRunOf configs edges

-- Edges with these configurations ran until the input's end, and each has its result, edge 1 first. `sockets` are the
-- ends at which they receive, and `remotes` those to which their ports send. The incarnation is that of edges whose
-- configuration names none: 0 unless clients may query them. `table` is the system's table of UDP sockets at that time,
-- empty if it couldn't be read.
pub record Ran (is_asked : Bool) (configs : List EdgeConfig) (sockets remotes : List (List LinkEnd))
    (before after : Devices) (status : Status) : Type 0 where
  pub is_read : Bool
  pub read : ReadsOut before.input after.input is_read
  pub incarnation : ℕ
  pub unasked : OnFalse is_asked (incarnation ≡ 0)
  pub setups : List (EdgeSetup WireOut)
  pub are : AreSetupsOf incarnation configs remotes setups
  pub ended : List Ended
  pub all : length ended ≡ length configs
  pub each : AreRanFrom 1 setups ended
  pub history : IsHistoryOf is_asked (configs_of setups) ended
  pub runs : OnFalse is_asked (RunsAsFabric (configs_of setups) ended)
  pub alerts : List Told
  pub table : Text
  pub told : TellsEnded alerts ended (system_text table sockets) is_read before.out after.out before.notes after.notes
      status

-- The text if no edge begins for lack of an end: the address that can't be bound or the device that can't be used, and
-- why. It is empty if a port lacks an end. There is no text if no edge begins for lack of memory.
abbrev pub start_text : StartError → Option Text
start_text (Unbindable at why) = Some (bind_error_text at why)
start_text (Unattached name why) = Some (no_device_text name why)
start_text Unnamed = Some []
start_text NoMemory = None

-- The status is 4: an address of this configuration couldn't be bound or a device couldn't be used, and a note reports
-- it; or a port lacks an end.
pub record IsStartError (config : Config) (notes notes' : End) (status : Status) : Type 0 where
  pub why : StartError
  pub hinders : Hinders (all_ends config) (lacks_address config) why
  pub text : Text
  pub is_text : start_text why ≡ Some text
  pub noted : Holds notes notes' text
  pub status_is : status ≡ statuses.Device

-- The edges of a configuration were run, and each port has its ends; or the memory with which they begin was
-- refused. Clients may query the edges meanwhile if `is_asked`.
abbrev pub Begins : Bool → Config → Devices → Devices → Status → Type 0
Begins is_asked config before after status =
    ((lacks_address config ≡ false) × Ran is_asked config.edges.items (endpoints_of config)
    (all_remotes config.links.items) before after status)
    ⊎ IsRefusedMemory before.out after.out before.notes after.notes status

-- The system allows fewer threads than the edges need, and they began all the same, after a note about the threads.
pub record BeginsShort (is_asked : Bool) (policy : ThreadPolicy) (config : Config) (before after : Devices)
    (status : Status) : Type 0 where
  pub allowed : policy ≡ RunWithout
  pub lack : TooFewThreads
  pub few : IsTooFew (threads_of is_asked config.edges.items) lack
  pub begins : Begins is_asked config (devices before.input before.out (with_text before.notes (too_few_text lack)))
      after status

-- The edges began, with too few threads only if the policy allows that. Or no edge began, nothing was read, and only
-- the reason was written: an address, or the lack of threads.
abbrev pub RunsEdges : Bool → ThreadPolicy → Config → Devices → Devices → Status → Type 0
RunsEdges is_asked policy config before after status =
    Begins is_asked config before after status
    ⊎ (((after.input ≡ before.input) × Holds before.out after.out []
    × IsStartError config before.notes after.notes status)
    ⊎ (LacksThreads is_asked policy config.edges.items before after status
    ⊎ BeginsShort is_asked policy config before after status))
