-- The messages for a text that is no configuration.
use Rattle.std.specs.Prelude.{ℕ, ◌+◌, ◌==◌, ◌⊎◌, List, take, Result}
use Rattle.std.specs.List.{count_by}
use Rattle.toml.specs.Data.{Members}
use Rattle.ether_wire.specs.declared.ends.Device.{Device}
use Rattle.ether_wire.specs.Ends.{End, Puts}
use Rattle.ev_config.specs.declared.whole.Use.{Use}
use Rattle.ev_config.specs.Schema.{Key}
use Rattle.ev_config.specs.Faults.{Faulty, faults_in}
use Rattle.ev_config.specs.Told.{line_text, IsShown, IsAbout, TellsEach, TellsOne}

-- Each fault of a document is printed; or one line, if there was no memory to find them.
abbrev pub TellsFaults : Use → Members → End → End → Result (Unit {0}) Device → Type 0
TellsFaults wanted t old new result = TellsEach wanted (faults_in wanted t) old new result ⊎ TellsOne old new result

-- the key is shown, or a call failed
abbrev pub PutsKey : Key → End → End → Result (Unit {0}) Device → Type 0
PutsKey key old new result = (shown : List ℕ) × IsShown key shown × Puts old new shown result

-- a line about the fault, or a call failed
abbrev pub TellsFault : Use → Faulty → End → End → Result (Unit {0}) Device → Type 0
TellsFault wanted fault old new result =
    (words : List ℕ) × IsAbout wanted fault words × Puts old new (line_text words) result

-- the line of the octet at a place of a text, from 1: one line more for each line feed (10) before it
abbrev pub line_at : List ℕ → ℕ → ℕ
line_at text place = 1 + count_by (λ octet. octet == 10) (take place text)
