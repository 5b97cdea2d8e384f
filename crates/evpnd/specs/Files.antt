-- Files: their content, and the result of reading one.
use Rattle.std.specs.Prelude.{◌≡◌, ℕ, ◌+◌, ◌<◌, ◌^◌, List, ◌++◌, codes, string_bytes, String, Option, Some, IfSome}
use Rattle.std.specs.Prelude.{Result, Ok, Err}
use Rattle.std.specs.declared.alloc.Global.{Global}
use Rattle.evpnd.specs.declared.files.Unread.{Unread}
use Rattle.evpnd.specs.declared.files.Unread.TheVariants.{Missing, Denied, Directory, Irregular, NotText, Broken}
use Rattle.evpnd.specs.declared.files.Named.{Named}
use Rattle.evpnd.specs.declared.files.Named.TheVariants.{Config, Script}
use Rattle.evpnd.specs.declared.files.FileFault.{FileFault}
use Rattle.evpnd.specs.declared.files.FileFault.TheVariants as fault

abbrev pub Text : Type 0
Text = List ℕ

-- the text of each file, if known; how often memory was refused; how often a file had no text
pub record Shelf : Type 0 where
  pub texts : Option (Text → Option Text)
  pub refusals : ℕ
  pub failures : ℕ

-- one more may be counted
pub record HasRoom (s : Shelf) : Type 0 where
  pub refusals : s.refusals + 1 < 2 ^ 64
  pub failures : s.failures + 1 < 2 ^ 64

-- the file at this path holds this text, if known
abbrev pub IsTextOf : Shelf → Text → Text → Type 0
IsTextOf s path text = IfSome s.texts (λ texts. texts path ≡ Some text)

-- A text is the file's; no text means that memory was refused once more, or that a file had none once more.
abbrev pub GivesText : Shelf → Shelf → Text → Result (String Global) FileFault → Type 0
GivesText before after path (Ok text) = (after ≡ before) × IsTextOf before path (string_bytes text)
GivesText before after path (Err fault.NoMemory) = after ≡ record before { refusals = before.refusals + 1 }
GivesText before after path (Err (fault.Unread why)) = after ≡ record before { failures = before.failures + 1 }

-- ---- the message for a file without a text

abbrev pub reason_of : Unread → Text
reason_of Missing = codes "' isn't there\n"
reason_of Denied = codes "' may not be read\n"
reason_of Directory = codes "' is a directory\n"
reason_of Irregular = codes "' isn't a regular file\n"
reason_of NotText = codes "' isn't UTF-8\n"
reason_of Broken = codes "' couldn't be read\n"

abbrev pub lead_of : Named → Text
lead_of Config = codes "error: --config: '"
lead_of Script = codes "error: --script: '"

abbrev pub unread_text : Named → Text → Unread → Text
unread_text named path why = lead_of named ++ path ++ reason_of why
