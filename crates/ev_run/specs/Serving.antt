-- The results of a run of edges that answers clients at a control socket meanwhile.
use Rattle.std.specs.Prelude.{◌≡◌, ℕ, ◌⊎◌, true, [], ◌++◌, codes}
use Rattle.ether_wire.specs.Ends.{End}
use Rattle.ev_report.specs.Ends.{Devices, Holds}
use Rattle.ev_report.specs.Originators.{Text}
use Rattle.ev_config.specs.declared.whole.Config.{Config}
use Rattle.ev_run.specs.declared.control_socket.ListenError.{ListenError}
use Rattle.ev_run.specs.declared.thread_check.ThreadPolicy.{ThreadPolicy}
use Rattle.ev_run.specs.declared.control_socket.ListenError.TheVariants as listen_error
use Rattle.ev_run.specs.RunEdges.{RunsEdges}
use Rattle.ev_report.specs.declared.status.Status.{Status}
use Rattle.ev_report.specs.declared.status.Status.TheVariants as statuses

-- why nothing can listen at a path
abbrev pub reason_of : ListenError → Text
reason_of listen_error.InUse = codes "it is in use\n"
reason_of listen_error.NotSocket = codes "it is a file that is no socket\n"
reason_of listen_error.NoFolder = codes "there is no such folder\n"
reason_of listen_error.TooLong = codes "it is too long\n"
reason_of listen_error.Denied = codes "it isn't permitted\n"
reason_of listen_error.NoMemory = codes "there is no memory\n"
reason_of listen_error.NoDescriptor = codes "too many files are open; raise ulimit -n\n"
reason_of listen_error.Other = codes "the system refuses it\n"

-- `can't listen at PATH: WHY`
abbrev pub listen_error_text : Text → ListenError → Text
listen_error_text path why = codes "can't listen at " ++ (path ++ codes ": ") ++ reason_of why

-- Nothing can listen at this path, and a note reports it: the status is 4.
pub record TellsListenError (path : Text) (notes notes' : End) (status : Status) : Type 0 where
  pub why : ListenError
  pub noted : Holds notes notes' (listen_error_text path why)
  pub status_is : status ≡ statuses.Device

-- The edges are run, whatever clients do; or nothing can listen at this path, no edge began, nothing was read, and only
-- a note about the path was written.
abbrev pub ServesEdges : ThreadPolicy → Text → Config → Devices → Devices → Status → Type 0
ServesEdges policy path config before after status =
    RunsEdges true policy config before after status
    ⊎ ((after.input ≡ before.input) × Holds before.out after.out []
    × TellsListenError path before.notes after.notes status)
