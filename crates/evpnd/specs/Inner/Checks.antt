-- The check of a configuration's text.
use Rattle.std.specs.Prelude.{ℕ, Result}
use Rattle.ether_wire.specs.Ends.{End, Source}
use Rattle.ev_config.specs.declared.whole.Config.{Config}
use Rattle.ev_config.specs.declared.config.ConfigRefusal.{ConfigRefusal}
use Rattle.evpnd.specs.Files.{Text}
use Rattle.ev_report.specs.Ends.{devices}
use Rattle.ev_config.specs.Config.{ConfigFor}
use Rattle.evpnd.specs.declared.check.Purpose.{Purpose}
use Rattle.evpnd.specs.Checks.{Checks}
use Rattle.ev_report.specs.declared.status.Status.{Status}

-- the configuration of a text is checked, for any input
abbrev pub ChecksText : Purpose → Text → End → End → End → End → Status → Type 0
ChecksText purpose text out notes out' notes' status =
    (found : Result Config ConfigRefusal) × ConfigFor purpose.wanted text found
    × ((input : Source) → Checks purpose text found (devices input out notes) (devices input out' notes') status)
