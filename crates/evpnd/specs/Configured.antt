-- The result of reading a configuration that is to be used.
use Rattle.std.specs.Prelude.{◌≡◌, ℕ, ◌++◌, codes, string_bytes, Ok, Err}
use Rattle.ev_config.specs.declared.config.ConfigRefusal.{ConfigRefusal}
use Rattle.ev_config.specs.declared.config.ConfigRefusal.TheVariants as refusal
use Rattle.ev_config.specs.declared.whole.Use.{Use}
use Rattle.ev_config.specs.Told.{AreFaultLines}
use Rattle.ev_report.specs.Ends.{Devices}
use Rattle.evpnd.specs.Files.{Text}
use Rattle.evpnd.specs.Checks.{Uses}
use Rattle.ev_report.specs.Usage.{TellsUsage}
use Rattle.ev_report.specs.declared.status.Status.{Status}
use Rattle.ev_report.specs.declared.status.Status.TheVariants as statuses

-- `config KEY`
abbrev pub config_text : Text → Text
config_text key = codes "config " ++ key ++ codes "\n"

-- `config KEY`, and then the lines that a check writes for the faults; nothing was read, nothing else written
abbrev pub TellsKey : Use → Text → Text → Devices → Devices → Status → Type 0
TellsKey wanted text key before after status =
    (more : Text) × AreFaultLines wanted text more × TellsUsage (config_text key ++ more) before after status

-- A text is no configuration for a use. Its first faulty key is reported, or the key `text` if the text is no document
-- (2); or there was no memory to read it (3), and no device was called.
abbrev pub Refuses : Use → Text → ConfigRefusal → Devices → Devices → Status → Type 0
Refuses wanted text (refusal.Key key) before after status = TellsKey wanted text (string_bytes key) before after status
Refuses wanted text refusal.Text before after status = TellsKey wanted text (codes "text") before after status
Refuses wanted text refusal.NoMemory before after status = (after ≡ before) × (status ≡ statuses.Memory)

-- A text's configuration for a use is used, or there is none.
abbrev pub OfFound : {X : Type 0} → Use → (X → Devices → Devices → Status → Type 0) → Uses X
OfFound wanted uses text (Ok config) before after status = uses config before after status
OfFound wanted uses text (Err refused) before after status = Refuses wanted text refused before after status
