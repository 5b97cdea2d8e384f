-- A script: one command per line.
use Rattle.std.specs.Prelude.{◌≡◌, ℕ, ◌+◌, ◌*◌, slice_get, ◌%◌, ◌^◌, ◌-◌, Bool, true, false, ◌&&◌, ◌||◌, ◌==◌, ◌<◌}
use Rattle.std.specs.Prelude.{nat_lt, nat_le, if◌then◌else◌, List, [], ◌∷◌, length, codes, Option, Some, None, is_some}
use Rattle.std.specs.Prelude.{option_map, option_and_then}
use Rattle.std.specs.List.{list_all}
use Rattle.std.specs.Str.{bytes_eq}
use Rattle.ether_wire.specs.Parse.{◌>>=◌, parted, decimal_of_text, hex_value, vni_of_text, mac_of_text, addr_of_text}
use Rattle.mac_arena.specs.declared.station.Station.{Station}
use Rattle.ev_script.specs.declared.script.command.Verb.{Verb}
use Rattle.ev_script.specs.declared.script.command.Verb.TheVariants.{Up, Down, Mcheck, Second, Frame, Tunnel, Pin}
use Rattle.ev_script.specs.declared.script.command.Verb.TheVariants.{Unpin, Thaw, Announce, Deliver, Port, Report}
use Rattle.ev_script.specs.declared.script.command.Verb.TheVariants.{Restart, Away, Back}
use Rattle.ev_script.specs.declared.script.question.Question.{Question}
use Rattle.ev_script.specs.declared.script.question.Question.TheVariants.{Help, Edges, OfEdge}
use Rattle.ev_view.specs.declared.view.EdgeQuestion.{EdgeQuestion}
use Rattle.ev_view.specs.declared.view.EdgeQuestion.TheVariants.{Owner, Counts, Stations, Peers, Links}
use Rattle.ev_script.specs.declared.script.mode.Mode.{Mode}
use Rattle.ev_script.specs.declared.script.mode.Mode.TheVariants.{Simulate, Play}
use Rattle.ev_script.specs.declared.script.command.Command as read
use Rattle.ev_script.specs.declared.script.command.Command.TheVariants as found

-- A line's command for an edge. Ports and updates are numbered from 1.
pub data Command : Type 0 where
  up : ℕ → Command
  down : ℕ → Command
  mcheck : ℕ → Command
  second : ℕ → Command
  frame : ℕ → List ℕ → Command
  tunnel : ℕ → List ℕ → Command
  pin : Station → ℕ → Command
  unpin : Station → Command
  thaw : Station → Command
  announce : Command
  deliver : ℕ → Command
  port : ℕ → Command
  report : Command
  restart : ℕ → Command
  away : ℕ → Command
  back : ℕ → Command

-- ---- hexadecimal digits

abbrev pub is_hex_digit : ℕ → Bool
is_hex_digit b = is_some (hex_value b)

-- an even number of lower case digits, at least two and at most a line of them
abbrev pub is_hex : List ℕ → Bool
is_hex w = nat_lt 0 (length w) && (nat_le (length w) 20000 && (length w % 2 == 0 && list_all is_hex_digit w))

abbrev pub value_or_zero : Option ℕ → ℕ
value_or_zero None = 0
value_or_zero (Some v) = v

-- the octet of two digits
abbrev pub octet_of : ℕ → ℕ → ℕ
octet_of high low = 16 * value_or_zero (hex_value high) + value_or_zero (hex_value low)

-- the octets that pairs of digits spell
abbrev pub octets_of : List ℕ → List ℕ
octets_of [] = []
octets_of (high ∷ []) = []
octets_of (high ∷ low ∷ rest) = octet_of high low ∷ octets_of rest

-- ---- words

abbrev pub when : {X : Type 0} → Bool → X → Option X
when test x = if test then Some x else None

-- a decimal number of 1 to 18 digits, without leading zeros
abbrev pub number : List ℕ → Option ℕ
number w = decimal_of_text (10 ^ 18 - 1) w

-- a number of seconds
abbrev pub seconds : List ℕ → Option ℕ
seconds w = decimal_of_text 100000 w >>= λ n. when (nat_lt 0 n) n

-- the number of an incarnation
abbrev pub incarnation : List ℕ → Option ℕ
incarnation w = decimal_of_text (2 ^ 32 - 1) w

abbrev pub hex : List ℕ → Option (List ℕ)
hex w = when (is_hex w) w

-- a VNI and a MAC address, with a space (32) between them
abbrev pub station : List ℕ → Option Station
station s = do
  (v, m) ← parted 32 s
  vni ← vni_of_text v
  mac ← mac_of_text m
  Some (record { vni = vni; mac = mac })

abbrev pub later_verbs : List (List ℕ × Verb)
later_verbs =
    (codes "unpin", Unpin) ∷ (codes "thaw", Thaw) ∷ (codes "announce", Announce) ∷ (codes "deliver", Deliver)
    ∷ (codes "port", Port)
    ∷ (codes "report", Report) ∷ (codes "restart", Restart) ∷ (codes "away", Away) ∷ (codes "back", Back) ∷ []

abbrev pub verbs : List (List ℕ × Verb)
verbs =
    (codes "up", Up) ∷ (codes "down", Down) ∷ (codes "mcheck", Mcheck) ∷ (codes "second", Second)
    ∷ (codes "frame", Frame)
    ∷ (codes "tunnel", Tunnel) ∷ (codes "pin", Pin) ∷ later_verbs

abbrev pub verb_in : List (List ℕ × Verb) → List ℕ → Option Verb
verb_in [] w = None
verb_in (row ∷ rows) w = if bytes_eq w row.0 then Some row.1 else verb_in rows w

-- ---- a line: one row per command

-- a verb without arguments
abbrev pub command_alone : Verb → Option Command
command_alone Announce = Some announce
command_alone Report = Some report
command_alone _ = None

-- a verb with the text after it and a space
abbrev pub command_with : Verb → List ℕ → Option Command
command_with Up s = option_map up (number s)
command_with Down s = option_map down (number s)
command_with Mcheck s = option_map mcheck (number s)
command_with Second s = option_map second (seconds s)
command_with Frame s = do
  (p, w) ← parted 32 s
  at ← number p
  digits ← hex w
  Some (frame at (octets_of digits))
command_with Tunnel s = do
  (a, w) ← parted 32 s
  from ← addr_of_text a
  digits ← hex w
  Some (tunnel from (octets_of digits))
command_with Pin s = do
  (v, more) ← parted 32 s
  (m, p) ← parted 32 more
  vni ← vni_of_text v
  mac ← mac_of_text m
  at ← number p
  Some (pin (record { vni = vni; mac = mac }) at)
command_with Unpin s = option_map unpin (station s)
command_with Thaw s = option_map thaw (station s)
command_with Deliver s = option_map deliver (number s)
command_with Port s = option_map port (number s)
command_with Restart s = option_map restart (incarnation s)
command_with Away s = option_map away (addr_of_text s)
command_with Back s = option_map back (addr_of_text s)
command_with Announce s = None
command_with Report s = None

abbrev pub command_from : List ℕ → Option (List ℕ × List ℕ) → Option Command
command_from s None = option_and_then command_alone (verb_in verbs s)
command_from s (Some p) = option_and_then (λ verb. command_with verb p.1) (verb_in verbs p.0)

abbrev pub command_in : List ℕ → Option Command
command_in s = command_from s (parted 32 s)

-- the edge and the command of a line of at most 20,000 octets
abbrev pub words_of : List ℕ → Option (ℕ × Command)
words_of s = do
  (e, rest) ← parted 32 s
  edge ← number e
  command ← command_in rest
  Some (edge, command)

-- the edge and the command of a line, or nothing if the line is outside the grammar
abbrev pub line_of : List ℕ → Option (ℕ × Command)
line_of s = if nat_le (length s) 20000 then words_of s else None

-- converts a command that was read
abbrev pub command_of : read.Command → Command
command_of (found.Up p) = up p
command_of (found.Down p) = down p
command_of (found.Mcheck p) = mcheck p
command_of (found.Second n) = second n
command_of (found.Frame p hex) = frame p (octets_of hex.digits.now)
command_of (found.Tunnel from hex) = tunnel from (octets_of hex.digits.now)
command_of (found.Pin s p) = pin s p
command_of (found.Unpin s) = unpin s
command_of (found.Thaw s) = thaw s
command_of found.Announce = announce
command_of (found.Deliver k) = deliver k
command_of (found.Port p) = port p
command_of found.Report = report
command_of (found.Restart n) = restart n
command_of (found.Away a) = away a
command_of (found.Back a) = back a

-- ---- lines

abbrev pub cut_from : List ℕ → Option (List ℕ × List ℕ) → List ℕ × List ℕ
cut_from s None = (s, [])
cut_from s (Some p) = p

-- the first line, and the text after its line feed (10)
abbrev pub cut_line : List ℕ → List ℕ × List ℕ
cut_line s = cut_from s (parted 10 s)

-- the text begins with lines that are read as these, and goes on with the rest
abbrev pub Follows : {X : Type 0} → (List ℕ → Option X) → List ℕ → List X → List ℕ → Type 0
Follows reads s [] rest = s ≡ rest
Follows reads s (x ∷ xs) rest = (0 < length s) × (reads (cut_line s).0 ≡ Some x) × Follows reads (cut_line s).1 xs rest

-- the rest is empty; or, if it is bad, it begins with a line that isn't read
abbrev pub Ends : {X : Type 0} → (List ℕ → Option X) → Bool → List ℕ → Type 0
Ends reads false rest = rest ≡ []
Ends reads true rest = (0 < length rest) × (reads (cut_line rest).0 ≡ None)

-- ---- lines for people

-- nothing, or a number sign (35)
abbrev pub begins_remark : Option ℕ → Bool
begins_remark None = true
begins_remark (Some octet) = octet == 35

-- the line is empty, or begins with a number sign
abbrev pub is_remark : List ℕ → Bool
is_remark line = begins_remark (slice_get line 0)

-- the line is skipped: the script is played, and the line is empty or a remark
abbrev pub skips : Mode → List ℕ → Bool
skips Simulate line = false
skips Play line = is_remark line

-- a query about one edge that is only a verb
abbrev pub question_alone : List ℕ → Option EdgeQuestion
question_alone s =
    if bytes_eq s (codes "counts") then Some Counts
    else if bytes_eq s (codes "stations") then Some (Stations None)
    else if bytes_eq s (codes "peers") then Some Peers
    else if bytes_eq s (codes "links") then Some Links else None

-- a query about one edge: a verb with the text after it and a space
abbrev pub question_with : List ℕ → List ℕ → Option EdgeQuestion
question_with verb s =
    if bytes_eq verb (codes "owner") then option_map Owner (station s)
    else if bytes_eq verb (codes "stations") then option_map (λ v. Stations (Some v)) (vni_of_text s) else None

abbrev pub question_from : List ℕ → Option (List ℕ × List ℕ) → Option EdgeQuestion
question_from s None = question_alone s
question_from s (Some p) = question_with p.0 p.1

-- a query about one edge, from its verb on
abbrev pub edge_question_of : List ℕ → Option EdgeQuestion
edge_question_of s = question_from s (parted 32 s)

abbrev pub of_edge : List ℕ → Option Question
of_edge s = do
  (e, rest) ← parted 32 s
  edge ← number e
  question ← edge_question_of rest
  Some (OfEdge edge question)

-- the query of a line
abbrev pub question_of : List ℕ → Option Question
question_of s =
    if bytes_eq s (codes "help") then Some Help else if bytes_eq s (codes "edges") then Some Edges else of_edge s

-- the query of a line, if the script is played; otherwise there is none
abbrev pub asked_in : Mode → List ℕ → Option Question
asked_in Simulate line = None
asked_in Play line = question_of line

-- the line requests no step: it is a query, or is skipped
abbrev pub asks_no_step : Mode → List ℕ → Bool
asks_no_step mode line = is_some (asked_in mode line) || skips mode line

-- the edge and the command of a line, if the line requests any step
abbrev pub Item : Type 0
Item = Option (ℕ × Command)

-- `Some None` if a line requests no step, `Some (Some c)` if it is a command `c`, else `None`
abbrev pub item_of : Mode → List ℕ → Option Item
item_of mode line = if asks_no_step mode line then Some None else option_map (λ c. Some c) (line_of line)
