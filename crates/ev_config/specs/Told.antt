-- The messages for a text that is no configuration.
use Rattle.std.specs.Prelude.{◌≡◌, ℕ, ◌+◌, ◌⊎◌, Bool, true, not, nat_lt, ◌&&◌, ◌||◌, List, [], ◌∷◌, ◌++◌, length, codes}
use Rattle.std.specs.Prelude.{◌==◌, if◌then◌else◌, Option, Some, None, Result, Ok, Err}
use Rattle.std.specs.Fmt.{decimal}
use Rattle.std.specs.List.{list_any}
use Rattle.toml.specs.Data.{Members}
use Rattle.toml.specs.Parse.{parse_document}
use Rattle.ether_wire.specs.declared.ends.Device.{Device}
use Rattle.ether_wire.specs.Ends.{End, IsOpen, with_text, Puts}
use Rattle.ev_config.specs.declared.whole.Use.{Use}
use Rattle.ev_config.specs.declared.schema.Range.{Range}
use Rattle.ev_config.specs.declared.schema.KeyKind.{KeyKind}
use Rattle.ev_config.specs.declared.schema.KeyKind.TheVariants as kind
use Rattle.ev_config.specs.Schema.{Key, Row, vni}
use Rattle.ev_config.specs.Faults.{Spot, File, Edge, Port, Peer, Faulty, faults_in, find_row, rows_at}

-- this text, and a line feed (10)
abbrev pub line_text : List ℕ → List ℕ
line_text words = words ++ 10 ∷ []

abbrev pub lines_text : List (List ℕ) → List ℕ
lines_text [] = []
lines_text (words ∷ more) = line_text words ++ lines_text more

-- ---- the line of a fault

-- a name and a number
abbrev pub numbered : List ℕ → ℕ → List ℕ
numbered name n = name ++ decimal n

-- `edge 2, port 3: `; the keys of the document itself have no such words
abbrev pub spot_text : Spot → List ℕ
spot_text File = []
spot_text (Edge n) = numbered (codes "edge ") n ++ codes ": "
spot_text (Port n m) = numbered (codes "edge ") n ++ numbered (codes ", port ") m ++ codes ": "
spot_text (Peer n) = numbered (codes "peer ") n ++ codes ": "

-- an octet that isn't a printable character of ASCII
abbrev pub is_odd : ℕ → Bool
is_odd octet = nat_lt octet 32 || nat_lt 126 octet

-- at most 100 octets, all of them printable
abbrev pub is_plain : Key → Bool
is_plain key = nat_lt (length key) 101 && not (list_any is_odd key)

-- a plain key is shown as it is
abbrev pub IsShown : Key → List ℕ → Type 0
IsShown key shown = is_plain key ≡ true → shown ≡ key

-- ` in steps of 16`
abbrev pub steps_text : ℕ → List ℕ
steps_text step = if step == 0 then [] else codes " in steps of " ++ decimal step

-- `0 to 240 in steps of 16`
abbrev pub span_text : Range → List ℕ
span_text range = decimal range.0 ++ codes " to " ++ decimal range.1 ++ steps_text range.2

-- the values that a kind allows, if that is a range
abbrev pub kind_text : KeyKind → List ℕ
kind_text (kind.Number range) = codes "allowed are " ++ span_text range
kind_text kind.Vnis = codes "allowed are 1 to 64 different numbers, " ++ span_text vni
kind_text any = []

abbrev pub row_text : Option Row → List ℕ
row_text None = []
row_text (Some row) = kind_text row.1

-- the range that the key's row allows, if it has one
abbrev pub range_text : Use → Faulty → List ℕ
range_text wanted fault = row_text (find_row (rows_at wanted fault.0) fault.1)

-- the place of the fault, its key, the value found, the allowed range, and some advice
abbrev pub IsAbout : Use → Faulty → List ℕ → Type 0
IsAbout wanted fault words =
    (shown found advice : List ℕ) × IsShown fault.1 shown
    × (words ≡ spot_text fault.0 ++ shown ++ (found ++ codes ", " ++ range_text wanted fault ++ advice))

-- as many lines as faults, each about one of them, in their order
abbrev pub AreAbout : Use → List Faulty → List (List ℕ) → Type 0
AreAbout wanted [] [] = Unit {0}
AreAbout wanted [] (words ∷ more) = ⊥
AreAbout wanted (fault ∷ faults) [] = ⊥
AreAbout wanted (fault ∷ faults) (words ∷ more) = IsAbout wanted fault words × AreAbout wanted faults more

-- ---- the lines that are written

-- A line is written about each of these faults, or a call failed.
abbrev pub TellsEach : Use → List Faulty → End → End → Result (Unit {0}) Device → Type 0
TellsEach wanted faults old new (Ok done) =
    (lines : List (List ℕ)) × AreAbout wanted faults lines × (new ≡ with_text old (lines_text lines))
TellsEach wanted faults old new (Err device) = IsOpen old → new.failures ≡ old.failures + 1

-- one line, or a call failed
abbrev pub TellsOne : End → End → Result (Unit {0}) Device → Type 0
TellsOne old new result = (words : List ℕ) × Puts old new (line_text words) result

-- a line about each fault of a text's document
abbrev pub TellsAll : Use → List ℕ → End → End → Result (Unit {0}) Device → Type 0
TellsAll wanted text old new result =
    (t : Members) × (parse_document text ≡ Some t) × TellsEach wanted (faults_in wanted t) old new result

-- Each fault is printed; or one line, if there is no document, or there was no memory to find more.
abbrev pub TellsRefusal : Use → List ℕ → End → End → Result (Unit {0}) Device → Type 0
TellsRefusal wanted text old new result = TellsAll wanted text old new result ⊎ TellsOne old new result

-- ---- the text of these lines

-- a line about each fault of a text's document
pub record IsLineEach (wanted : Use) (text told : List ℕ) : Type 0 where
  pub document : Members
  pub parsed : parse_document text ≡ Some document
  pub lines : List (List ℕ)
  pub about : AreAbout wanted (faults_in wanted document) lines
  pub told_is : told ≡ lines_text lines

-- one line
pub record IsOneLine (told : List ℕ) : Type 0 where
  pub words : List ℕ
  pub told_is : told ≡ line_text words

-- A line about each fault; or one line, if there is no document, or there was no memory to find more.
abbrev pub AreFaultLines : Use → List ℕ → List ℕ → Type 0
AreFaultLines wanted text told = IsLineEach wanted text told ⊎ IsOneLine told
