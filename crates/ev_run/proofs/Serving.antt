-- A run that answers clients: the note if nothing can listen, and buffered writers.
use Rattle.std.proofs.Common.{inl, inr, ℕ, true, [], Result, refl, ◌∙◌}
use Rattle.ether_wire.specs.declared.ends.Device as device
use Rattle.ether_wire.specs.Ends.{End, Source, IsOpen, Puts}
use Rattle.ev_report.specs.Originators.{Text}
use Rattle.ev_report.specs.Ends.{Devices, devices, Passes}
use Rattle.ev_report.proofs.Finishing.{put_holds, passed_out, passed_notes}
use Rattle.ev_report.proofs.Silence.{passed_four, holds_none}
use Rattle.ev_config.specs.declared.whole.Config.{Config}
use Rattle.ev_run.specs.declared.control_socket.ListenError.{ListenError}
use Rattle.ev_run.specs.Serving.{listen_error_text, TellsListenError, ServesEdges}
use Rattle.ev_run.specs.declared.thread_check.ThreadPolicy.{ThreadPolicy}
use Rattle.ev_run.proofs.Running.{passed_runs}
use Rattle.ev_report.specs.declared.status.Status.{Status}
use Rattle.ev_report.specs.declared.status.Status.TheVariants as statuses

-- the note has a path
pub tells_path : (path : Text) (notes notes' : End) (r : Result (Unit {0}) device.Device) (why : ListenError)
    → IsOpen notes → Puts notes notes' (listen_error_text path why) r
    → TellsListenError path notes notes' statuses.Device
tells_path path notes notes' r why room put = record {
  why = why;
  noted = put_holds notes notes' r (listen_error_text path why) room put;
  status_is = refl;
}

-- nothing could listen
pub serves_none : (policy : ThreadPolicy) (path : Text) (config : Config) (input : Source) (out notes notes' : End)
    (status : Status) → TellsListenError path notes notes' status
    → ServesEdges policy path config (devices input out notes) (devices input out notes') status
serves_none policy path config input out notes notes' status told = inr (refl, holds_none out, told)

module _ (policy : ThreadPolicy) (path : Text) (config : Config) (before held after : Devices) (status last : Status)
    (p : Passes before.out.failures before.notes.failures held after status last) where
  passed_listen_error : TellsListenError path before.notes held.notes status
      → TellsListenError path before.notes after.notes last
  passed_listen_error u = record {
    why = u.why;
    noted = passed_notes before held after status last p (listen_error_text path u.why) u.noted;
    status_is = passed_four before held after status last p u.status_is;
  }

  pub passed_serves : ServesEdges policy path config before held status
      → ServesEdges policy path config before after last
  passed_serves (inl r) = inl (passed_runs true policy config before held after status last p r)
  passed_serves (inr h) = inr (
    p.input ∙ h.0,
    passed_out before held after status last p [] h.1,
    passed_listen_error h.2,
  )
