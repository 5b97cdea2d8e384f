-- The texts about those lines of a script that are no command.
use Rattle.std.specs.Prelude.{◌≡◌, ℕ, ◌+◌, Bool, true, nat_le, if◌then◌else◌, List, [], ◌∷◌, ◌++◌, length, codes}
use Rattle.std.specs.Prelude.{decimal, Option, Some, None, is_some}
use Rattle.std.specs.List.{list_all}
use Rattle.ether_wire.specs.Ends.{End}
use Rattle.ether_wire.specs.Parse.{parted}
use Rattle.ev_report.specs.Ends.{Tells}
use Rattle.ev_script.specs.declared.checking.CheckedLines.{CheckedLines}
use Rattle.ev_script.specs.declared.script.fault.LineFault.{LineFault}
use Rattle.ev_script.specs.declared.script.fault.LineFault.TheVariants.{Remark, Return, Long, NoEdge, NoVerb, Misspelt}
use Rattle.ev_script.specs.declared.script.command.Verb.{Verb}
use Rattle.ev_script.specs.declared.script.command.Verb.TheVariants.{Up, Down, Mcheck, Second, Frame, Tunnel, Pin}
use Rattle.ev_script.specs.declared.script.command.Verb.TheVariants.{Unpin, Thaw, Announce, Deliver, Port, Report}
use Rattle.ev_script.specs.declared.script.command.Verb.TheVariants.{Restart, Away, Back}
use Rattle.ev_script.specs.Script.{number, verbs, verb_in, line_of, is_remark, Follows}

-- ---- why a line is no command

-- the text before the first space (32)
abbrev pub word_from : List ℕ → Option (List ℕ × List ℕ) → List ℕ
word_from s None = s
word_from s (Some p) = p.0

abbrev pub first_word : List ℕ → List ℕ
first_word s = word_from s (parted 32 s)

abbrev pub misspelt_as : Option Verb → LineFault
misspelt_as None = NoVerb
misspelt_as (Some verb) = Misspelt verb

-- from the verb on
abbrev pub misspelt : List ℕ → LineFault
misspelt s = misspelt_as (verb_in verbs (first_word s))

abbrev pub why_behind : Option ℕ → List ℕ → LineFault
why_behind None s = NoEdge
why_behind (Some edge) s = misspelt s

abbrev pub why_parted : Option (List ℕ × List ℕ) → LineFault
why_parted None = NoEdge
why_parted (Some p) = why_behind (number p.0) p.1

abbrev pub why_words : List ℕ → LineFault
why_words line = why_parted (parted 32 line)

-- the first reason that applies to a line that is no command
abbrev pub why_of : List ℕ → LineFault
why_of line = if is_remark line then Remark else if is_some (parted 13 line) then Return
    else if nat_le (length line) 20000 then why_words line else Long

-- a line is good exactly if it is a command
abbrev pub is_good : List ℕ → Bool
is_good line = is_some (line_of line)

-- ---- the text about a bad line

abbrev pub form_of : Verb → List ℕ
form_of Up = codes ": expected E up P\n"
form_of Down = codes ": expected E down P\n"
form_of Mcheck = codes ": expected E mcheck P\n"
form_of Second = codes ": expected E second N, N from 1 to 100000\n"
form_of Frame = codes ": expected E frame P HEX\n"
form_of Tunnel = codes ": expected E tunnel ADDR HEX\n"
form_of Pin = codes ": expected E pin VNI MAC P\n"
form_of Unpin = codes ": expected E unpin VNI MAC\n"
form_of Thaw = codes ": expected E thaw VNI MAC\n"
form_of Announce = codes ": expected E announce\n"
form_of Deliver = codes ": expected E deliver K\n"
form_of Port = codes ": expected E port P\n"
form_of Report = codes ": expected E report\n"
form_of Restart = codes ": expected E restart N, N from 0 to 4294967295\n"
form_of Away = codes ": expected E away ADDR\n"
form_of Back = codes ": expected E back ADDR\n"

abbrev pub why_text : LineFault → List ℕ
why_text Remark = codes ": an empty line or a remark, which only evpnd play skips\n"
why_text Return = codes ": a carriage return: a line ends with a line feed alone, not with CRLF\n"
why_text Long = codes ": longer than 20000 octets\n"
why_text NoEdge = codes ": expected the number of an edge, a space and a command\n"
why_text NoVerb =
    codes ": expected up, down, mcheck, second, frame, tunnel, pin, unpin, thaw, announce, deliver, port, report, restart, away or back behind the edge\n"
why_text (Misspelt verb) = form_of verb

-- `NAME:N: WHY`
abbrev pub fault_text : List ℕ → ℕ → LineFault → List ℕ
fault_text name number fault = name ++ codes ":" ++ decimal number ++ why_text fault

-- the text about the line of this number, empty if the line is good
abbrev pub told_text : List ℕ → ℕ → List ℕ → List ℕ
told_text name number line = if is_good line then [] else fault_text name number (why_of line)

-- the texts about all lines, the first of which has this number
abbrev pub faults_text : List ℕ → ℕ → List (List ℕ) → List ℕ
faults_text name number [] = []
faults_text name number (line ∷ lines) = told_text name number line ++ faults_text name (number + 1) lines

-- Lines at the front of a script were checked: they were counted, `are_good` is true exactly if each is good, and each
-- bad one was reported with its place and the reason, or a note failed.
pub record LooksAt (name script rest : List ℕ) (old new : End) (found : CheckedLines) : Type 0 where
  pub lines : List (List ℕ)
  pub follows : Follows (λ line. Some line) script lines rest
  pub count : found.count ≡ length lines
  pub good : found.are_good ≡ list_all is_good lines
  pub told : Tells old new true found.are_told (faults_text name 1 lines)

-- all lines were checked
abbrev pub ChecksLines : List ℕ → List ℕ → End → End → CheckedLines → Type 0
ChecksLines name script old new found = LooksAt name script [] old new found
