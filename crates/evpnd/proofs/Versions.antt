-- The version is written.
use Rattle.std.proofs.Common.{◌≡◌, ℕ, cond, Result, is_ok, refl, ◌∙◌}
use Rattle.ether_wire.specs.declared.ends.Device.{Device}
use Rattle.ether_wire.specs.Ends.{End, Source, IsOpen, Puts}
use Rattle.ev_report.specs.Ends.{devices}
use Rattle.ev_report.proofs.Finishing.{put_holds}
use Rattle.ev_report.proofs.Told.{failed_put}
use Rattle.evpnd.specs.Version.{version_text, TellsVersion}
use Rattle.ev_report.specs.declared.status.Status.{Status}
use Rattle.ev_report.specs.declared.status.Status.TheVariants as statuses

pub tells_version : (input : Source) (out out' notes : End) (r : Result (Unit {0}) Device) (status : Status)
    → IsOpen out → Puts out out' version_text r → ◌≡◌ {A = Status} status (cond (is_ok r) statuses.Done statuses.Device)
    → TellsVersion (devices input out notes) (devices input out' notes) status
tells_version input out out' notes r status room put is = record {
  input = refl;
  written = put_holds out out' r version_text room put;
  notes = refl;
  status_is = is ∙ failed_put out out' r version_text statuses.Done room put (is_ok r) refl;
}
